-- `span_outside` meets its contract: a span's word is there.
use native.Mathlib.Omega.{arith}
use Rattle.sheet.proofs.Bounds.{kind_le}
use Rattle.judge_form.proofs.limits.span_outside.Goals as goal

pub span-x-requires : goal.span-x-requires
span-x-requires c = omega (arith, kind_le 3 c.args.s.now 2)
