-- What `marks` prints, as bytes: the listing of an answer table, and a refusal. Definitions.
use Rattle.std.specs.Prelude.{ℕ, zero, suc, ◌+◌, ◌*◌, List, [], ◌++◌, eqb, if◌then◌else◌}
use Prim.Native.String.{String}
use Rattle.sheet.specs.Limits.{most_nodes, most_spans}
use Rattle.sheet.specs.Words.{top}
use Rattle.procedure.specs.Table.{inner_place, updates_place}
use Rattle.calls.specs.Tables.{status_in, count_in, label_in, predecessor_in}
use Rattle.listing.specs.Text.{ascii, decimal}

-- "`-` for unreached or no arc"
unfoldable pub cell : ℕ → List ℕ
cell payload = if eqb payload top then ascii "-" else decimal payload

-- a cell after a space
unfoldable pub spaced : ℕ → List ℕ
spaced payload = ascii " " ++ cell payload

module _ (table : List ℕ) where
  -- "Kind 8: 1 ended, 0 paused."
  unfoldable pub status : List ℕ
  status = if eqb (status_in table) 1 then ascii "ended" else ascii "paused"

  -- a count after its name
  unfoldable pub counted : String → ℕ → List ℕ
  counted name i = ascii name ++ decimal (count_in table i)

  -- the counts of the inner regions of the first so many heights, from height 1 up
  unfoldable pub levels : ℕ → List ℕ
  levels zero = []
  levels (suc i) = levels i ++ counted " " (inner_place + i)

  -- "The listing prints after `inner` one figure for each span in the sheet"
  unfoldable pub inner : ℕ → List ℕ
  inner spans = ascii " inner" ++ levels spans

  -- "First line: status and counts.", of a sheet of so many spans
  unfoldable pub status_line : ℕ → List ℕ
  status_line spans = status ++ counted " rounds " 0 ++ counted " leaves " 1 ++ inner spans ++ counted " updates " updates_place ++ ascii "\n"

  -- "Then per node: node, distance, feeding arc"
  unfoldable pub node_line : ℕ → List ℕ
  node_line v = decimal v ++ spaced (label_in table v) ++ spaced (predecessor_in table v) ++ ascii "\n"

  -- the lines of the nodes below n
  unfoldable pub node_lines : ℕ → List ℕ
  node_lines zero = []
  node_lines (suc v) = node_lines v ++ node_line v

-- the listing of a table of a sheet of so many spans and n nodes
unfoldable pub listing_of : List ℕ → ℕ → ℕ → List ℕ
listing_of table spans n = status_line table spans ++ node_lines table n

-- No first line has more bytes, and no line of a node,
abbrev pub most_status_line : ℕ
most_status_line = 89 + 18 * most_spans

abbrev pub most_node_line : ℕ
most_node_line = 25

-- and so no listing.
abbrev pub most_listing : ℕ
most_listing = most_status_line + most_node_line * most_nodes

-- "A refusal prints `refused` and the number."
unfoldable pub refused_line : ℕ → List ℕ
refused_line n = ascii "refused " ++ decimal n ++ ascii "\n"
