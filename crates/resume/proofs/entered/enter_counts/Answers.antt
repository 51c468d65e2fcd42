-- `enter_counts` meets its contract: the counts passed are entered.
use native.Mathlib.Omega.{arith}
use Rattle.indices.proofs.Entries.{prefix_all}
use Rattle.resume.proofs.entered.enter_counts.Goals as goal

pub returns : goal.returns
returns c = prefix_all c.loop-i.invariant (omega (arith, c.loop-i.invariant.long))
