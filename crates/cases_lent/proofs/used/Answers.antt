-- `used` meets its contract: those passed, from the last on, hold the filling.
use Rattle.std.proofs.Common.{◌∙◌, arith}
use Rattle.cases_lent.specs.Used.{used}
use Rattle.cases_lent.proofs.Back.{none_used, last_used, last_unused}
use Rattle.cases_lent.proofs.used.Goals as goal

pub returns-then-ne : goal.returns-then-ne
unfolding used
returns-then-ne g c =
    let last = last_used _ _ _ _ c.index-lent-k.is c.FILLING.ensures (omega arith) c.loop-k.auto.k c.if-ne.ensures in
    (last ∙ c.loop-k.invariant, omega arith)

pub loop-k-preserved : goal.loop-k-preserved
loop-k-preserved g c = last_unused _ _ _ _ c.index-lent-k.is c.FILLING.ensures (omega arith) c.loop-k.auto.k c.if-ne.ensures ∙ c.loop-k.invariant

pub returns : goal.returns
unfolding used
returns g c = (none_used _ _ _ _ c.loop-k-test.false ∙ c.loop-k.invariant, omega arith)
