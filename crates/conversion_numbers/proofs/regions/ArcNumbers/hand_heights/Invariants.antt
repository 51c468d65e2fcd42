use Prim.Native.Nat.{ℕ}
use mathlib.Core.List.{List}
use Rattle.conversion_numbers.specs.Numbers.{ArcsNumbered}
use Rattle.conversion_numbers.proofs.regions.Regions.{Passing}
use Rattle.conversion_numbers.proofs.regions.ArcNumbers.hand_heights.Given as goal

abbrev pub invariant-loop-r : goal.invariant-loop-r
invariant-loop-r l = (b : List ℕ) (A : ArcsNumbered b l.self.regions.now l.self.arcs.now) → Passing A l.best l.r
