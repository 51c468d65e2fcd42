-- `enter_parents` meets its contract: the words passed have given their parents.
use native.Mathlib.Omega.{arith}
use Rattle.run_layout.proofs.regions.Rows.{parent_fits}
use Rattle.run_layout.proofs.regions.enter_parents.Goals as goal

pub overflow_cast-parents : goal.overflow_cast-parents
overflow_cast-parents c = omega (arith, c.parent_word.ensures, parent_fits c.requires.nested c.loop-k.k (omega arith))
