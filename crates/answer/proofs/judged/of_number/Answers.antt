-- `of_number` meets its contract: a number other than 0 is a refusal from the input.
use Prim.Native.Nat.{suc, ◌-◌}
use mathlib.Core.Path.{◌≡◌}
use native.Mathlib.Omega.{arith}
use Rattle.answer.proofs.judged.of_number.Goals as goal

pub returns-then-n-eq0 : goal.returns-then-n-eq0
returns-then-n-eq0 c = rw c.if-n-eq0.true

pub returns : goal.returns
returns c =
    let n = c.args.n in
    let above : n ≡ suc (n - 1) = omega (arith, c.if-n-eq0.false) in
    rw above
