-- The labels and predecessors of a table, one for each node, are what its words say, node by node.
use Prim.Native.Nat.{ℕ, ◌<◌}
use mathlib.Core.Path.{◌≡◌}
use mathlib.Core.List.{List}
use lib.ListN.{length}
use Rattle.indices.specs.Columns.{at}
use Rattle.indices.proofs.Columns.{length_column, at_column}
use Rattle.calls.specs.Tables.{label_in, predecessor_in, labels_in, predecessors_in}

pub labels_length : (n : ℕ) (table : List ℕ) → length (labels_in n table) ≡ n
unfolding labels_in
labels_length n table = length_column n (label_in table)

pub predecessors_length : (n : ℕ) (table : List ℕ) → length (predecessors_in n table) ≡ n
unfolding predecessors_in
predecessors_length n table = length_column n (predecessor_in table)

pub labels_at : (n : ℕ) (table : List ℕ) (v : ℕ) → v < n → at (labels_in n table) v ≡ label_in table v
unfolding labels_in
labels_at n table v l = at_column n (label_in table) v l

pub predecessors_at_lem : (n : ℕ) (table : List ℕ) (v : ℕ) → v < n → at (predecessors_in n table) v ≡ predecessor_in table v
unfolding predecessors_in
predecessors_at_lem n table v l = at_column n (predecessor_in table) v l
