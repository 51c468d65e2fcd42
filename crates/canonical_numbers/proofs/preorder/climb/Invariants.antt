use Prim.Native.Nat.{ℕ}
use Rattle.procedure.specs.Division.{Division}
use Rattle.canonical_numbers.specs.Numbers.{Ready}
use Rattle.canonical_numbers.proofs.preorder.Rises.{Climbing}
use Rattle.canonical_numbers.proofs.preorder.climb.Given as goal

abbrev pub invariant-loop-rises : goal.invariant-loop-rises
invariant-loop-rises l = (d : Division) (a : ℕ) → Ready d a l.parents l.sizes l.leaf l.initial.nexts l.initial.rises → Climbing d a l.leaf l.r l.nexts l.rises

abbrev pub decreases-loop-rises : goal.decreases-loop-rises
decreases-loop-rises l = l.r
