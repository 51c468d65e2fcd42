-- What it is for a table to fit a sheet, and the table's columns for the sheet. Definitions.
use Rattle.std.specs.Prelude.{ℕ, ◌≤◌, List, length}
use Rattle.indices.specs.Columns.{at}
use Rattle.sheet.specs.Sections.{node_count}
use Rattle.judgement.specs.Judgement.{Accepted}
use Rattle.procedure.specs.Graph.{tail}
use Rattle.procedure.specs.OfSheet.{graph_of}
use Rattle.calls.specs.Tables.{table_length, labels_in, predecessors_in}

-- an accepted sheet, and a table that begins with the usual words: in either form
pub record TableFits (b table : List ℕ) : Type 0 where
  pub accepted : Accepted b
  pub sized : table_length (node_count b) ≤ length table

module _ (b table : List ℕ) where
  -- the labels and predecessors of the sheet's nodes
  abbrev pub labels : List ℕ
  labels = labels_in (node_count b) table

  abbrev pub predecessors : List ℕ
  predecessors = predecessors_in (node_count b) table

  -- the node that v's predecessor leads from
  abbrev pub node_before : ℕ → ℕ
  node_before v = tail (graph_of b) (at predecessors v)
