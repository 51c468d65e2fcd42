use Prim.Native.Nat.{◌-◌}
use Rattle.procedure.specs.Division.{Division}
use Rattle.canonical_numbers.specs.Numbers.{ParentsLaid}
use Rattle.canonical_numbers.proofs.preorder.Sizes.{Sizing}
use Rattle.canonical_numbers.proofs.preorder.count_sizes.Given as goal

abbrev pub invariant-loop-r : goal.invariant-loop-r
invariant-loop-r l = (d : Division) → ParentsLaid d l.parents → Sizing d l.sizes (l.r - 1)
