-- `decide` meets its contract: it stores the lower of the two places below.
use mathlib.Core.Path.{refl}
use Rattle.run_arrays.proofs.trees.decide.Goals as goal

pub returns : goal.returns
returns c = rw c.lower.ensures refl
