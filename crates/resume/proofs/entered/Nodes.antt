-- What is entered of a table, node by node: the nodes passed have their labels and predecessors.
use Prim.Native.Nat.{ℕ, ◌+◌, ◌≤◌, ◌<◌}
use mathlib.Core.Path.{◌≡◌, refl}
use mathlib.Core.List.{List}
use native.Mathlib.Omega.{arith}
use lib.ListN.{length, set}
use Rattle.indices.proofs.Entries.{Prefix, prefix_none, prefix_more, prefix_front}
use Rattle.sheet.specs.Limits.{most_nodes}
use Rattle.calls.specs.Tables.{label_in, predecessor_in, labels_in, predecessors_in}
use Rattle.run_arrays.specs.declared.arrays.Run.{Run}
use Rattle.resume.specs.Nodes.{NodesEntered}

-- the first v of n nodes are entered
pub record NodesUpTo (table : List ℕ) (n : ℕ) (run₀ run : Run) (v : ℕ) : Type 0 where
  pub within : v ≤ n
  pub labels : Prefix most_nodes (label_in table) run.labels v
  pub predecessors : Prefix most_nodes (predecessor_in table) run.predecessors v
  pub keys : run.keys ≡ run₀.keys
  pub counts : run.counts ≡ run₀.counts

pub no_nodes : {table : List ℕ} {run : Run} {n : ℕ} → length run.labels ≡ most_nodes → length run.predecessors ≡ most_nodes → NodesUpTo table n run run 0
no_nodes {table} {run} all fed = record {
  within = omega arith;
  labels = prefix_none most_nodes (label_in table) _ all;
  predecessors = prefix_none most_nodes (predecessor_in table) _ fed;
  keys = refl;
  counts = refl;
}

module _ {table : List ℕ} {run₀ run : Run} {n v : ℕ} (U : NodesUpTo table n run₀ run v) where
  pub one_node_more : {run' : Run} {label predecessor : ℕ} → n ≤ most_nodes → v < n → label ≡ label_in table v → predecessor ≡ predecessor_in table v
      → run'
      ≡ record {
        labels = set run.labels v label;
        predecessors = set run.predecessors v predecessor;
        keys = run.keys;
        counts = run.counts;
      }
      → NodesUpTo table n run₀ run' (v + 1)
  one_node_more {label = label} {predecessor = predecessor} few inside l p S = rw S (record {
    within = omega arith;
    labels = prefix_more label U.labels (omega arith) l;
    predecessors = prefix_more predecessor U.predecessors (omega arith) p;
    keys = U.keys;
    counts = U.counts;
  })

  pub all_nodes : n ≤ v → NodesEntered table n run₀ run
  unfolding labels_in predecessors_in
  all_nodes past =
      let e : v ≡ n = omega (arith, U.within) in
      rw (← e) (record { labels = prefix_front U.labels; predecessors = prefix_front U.predecessors; keys = U.keys; counts = U.counts })
