use Rattle.std.proofs.Common.{◌≡◌, length}
use Rattle.cases_lent.specs.Used.{used_below}
use Rattle.cases_lent.proofs.used.Given as goal

-- those from k on hold the filling
abbrev pub invariant-loop-k : goal.invariant-loop-k
invariant-loop-k g l = used_below g.T.PartialEq.eq g.T.Lent.FILLING l.lent l.k ≡ used_below g.T.PartialEq.eq g.T.Lent.FILLING l.lent (length l.lent)
