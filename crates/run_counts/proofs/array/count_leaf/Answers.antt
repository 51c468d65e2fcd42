-- `count_leaf` meets its contract: the struct's leaves have grown by one and its updates are those handed in, and these two are stored.
use Rattle.std.proofs.Common.{rules}
use Rattle.run_counts.proofs.array.Stores.{leaf_stored}
use Rattle.run_counts.proofs.array.count_leaf.Goals as goal

pub returns : goal.returns
returns c = leaf_stored _ (search rules) _ _ _ c.counts_at-c.ensures c.add_leaf.ensures c.set_updates.ensures
