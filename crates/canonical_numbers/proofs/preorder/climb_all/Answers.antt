-- `climb_all` meets its contract: after a turn the climbs from one arc more are made.
use native.Mathlib.Numerals.{add-one}
use native.Mathlib.Omega.{arith}
use Rattle.canonical_numbers.proofs.preorder.Climbs.{climb_ready}
use Rattle.canonical_numbers.proofs.preorder.climb_all.Goals as goal

pub loop-a-preserved : goal.loop-a-preserved
loop-a-preserved c = λ d A R. rw add-one (c.climb.ensures d _ (climb_ready A (omega arith) (c.loop-a.invariant d A R)))
