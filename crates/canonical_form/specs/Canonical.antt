-- The canonical form of a sheet, the paper's neat copy, as a list of bytes. Definitions.
use Rattle.std.specs.Prelude.{ℕ, suc, List, ◌++◌}
use Rattle.indices.specs.Columns.{column}
use Rattle.sheet.specs.Words.{words, word, bytes_of}
use Rattle.sheet.specs.Sections.{regions_at, region_words}
use Rattle.sheet.specs.Regions.{region_word}
use Rattle.procedure.specs.Division.{Division, parent, arc_of, is_leaf}
use Rattle.procedure.specs.OfSheet.{division_of}
use Rattle.canonical_form.specs.Numbering.{new_number, old_number}

-- the word of region r, its parent by its new number
unfoldable pub new_word : Division → ℕ → ℕ
new_word d r = region_word (is_leaf d r) (new_number d (parent d r)) (arc_of d r)

-- "nodes, source, spans and arcs as given", and 2026-08: "The neat copy carries the holds.": the words up to the last arc
unfoldable pub front_words : List ℕ → List ℕ
front_words b = column (regions_at b) (word b)

-- the region words in the order of the new numbers; region 0 has no word
unfoldable pub new_words : List ℕ → List ℕ
new_words b = let d = division_of b in column (words (region_words b)) (λ k. new_word d (old_number d (suc k)))

-- "Write an accepted sheet anew"
unfoldable pub canonical : List ℕ → List ℕ
canonical b = bytes_of (front_words b ++ new_words b)
