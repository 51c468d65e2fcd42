-- `number` meets its contract: the indices passed have their entries, and `next` is how many of them stay.
use mathlib.Core.Path.{refl}
use native.Mathlib.Omega.{arith}
use Rattle.conversion_numbers.proofs.Numbering.{numbering_none, numbering_more}
use Rattle.conversion_numbers.proofs.number.Goals as goal

pub loop-i-init : goal.loop-i-init
loop-i-init g c = (omega arith, λ p told. numbering_none p refl)

pub loop-i-preserved : goal.loop-i-preserved
loop-i-preserved g c = (
  grind arith,
  λ p told.
      rw c.from.ensures
      (numbering_more (c.loop-i.invariant.1 p told) c.stays-kept.result c.if-kept.numbers (omega (arith, c.requires.room))
      (told c.loop-i.i c.stays-kept.result c.loop-i-test.true c.stays-kept.ensures) (grind arith)),
)
