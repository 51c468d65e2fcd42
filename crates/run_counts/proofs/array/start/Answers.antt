-- `start` meets its contract: every entry is 0, and then the last is written.
use mathlib.Core.Path.{refl}
use Rattle.run_counts.specs.Figures.{rounds_in, leaves_in, inner_in, updates_in}
use Rattle.run_counts.proofs.array.start.Goals as goal

pub returns : goal.returns
unfolding rounds_in leaves_in inner_in updates_in
returns c = refl
