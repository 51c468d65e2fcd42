-- `counts_at` meets its contract: the figures are entries of the array, that of the level stands behind rounds and leaves.
use Rattle.run_counts.specs.Figures.{rounds_in, leaves_in, updates_in}
use Rattle.run_counts.proofs.array.Stores.{level_at}
use Rattle.run_counts.proofs.array.counts_at.Goals as goal

pub returns : goal.returns
unfolding rounds_in leaves_in updates_in
returns c = rw (level_at c.args.counts.now c.args.level c.requires.in_range)
