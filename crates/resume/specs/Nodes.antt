-- What is entered of a table into a run. Definitions.
use Rattle.std.specs.Prelude.{ℕ, ◌≤◌, ◌≡◌, List, length, take}
use Rattle.sheet.specs.Limits.{most_nodes}
use Rattle.calls.specs.Tables.{table_length, labels_in, predecessors_in}
use Rattle.run_arrays.specs.declared.arrays.Run.{Run}

-- a table with the words of n nodes, and a run with room for the most nodes
pub record NodesLent (table : List ℕ) (n : ℕ) (run : Run) : Type 0 where
  pub sized : table_length n ≤ length table
  pub few : n ≤ most_nodes
  pub labels_room : length run.labels ≡ most_nodes
  pub predecessors_room : length run.predecessors ≡ most_nodes

-- the labels and predecessors of the first n nodes are the table's, and keys and counts are as they were
pub record NodesEntered (table : List ℕ) (n : ℕ) (run run' : Run) : Type 0 where
  pub labels : take n run'.labels ≡ labels_in n table
  pub predecessors : take n run'.predecessors ≡ predecessors_in n table
  pub keys : run'.keys ≡ run.keys
  pub counts : run'.counts ≡ run.counts
