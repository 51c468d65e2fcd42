-- The number of each kind of word. Definitions.
use Rattle.std.specs.Prelude.{ℕ}
use Rattle.sheet.specs.declared.kind.Kind.{Kind}
use Rattle.sheet.specs.declared.kind.Kind.TheVariants.{Nodes, Source, Span, Hold, Ends, Length, Inner, Leaf, Status, Count, Label, Predecessor, Key}

-- of a sheet: the node count, the source, a span, a hold, the ends and the length of an arc, an inner region, a leaf
-- of an answer table: the status, a half of a count, a label, a predecessor, a key word
abbrev pub kind_number : Kind → ℕ
kind_number Nodes = 1
kind_number Source = 2
kind_number Span = 3
kind_number Hold = 13
kind_number Ends = 4
kind_number Length = 5
kind_number Inner = 6
kind_number Leaf = 7
kind_number Status = 8
kind_number Count = 11
kind_number Label = 9
kind_number Predecessor = 10
kind_number Key = 12
