-- `enter_heights` meets its contract: the heights passed are entered.
use native.Mathlib.Omega.{arith}
use Rattle.indices.proofs.Entries.{prefix_all}
use Rattle.run_layout.proofs.regions.enter_heights.Goals as goal

pub returns : goal.returns
returns c = prefix_all c.loop-i.invariant (omega arith)
