-- `report` prints the line of the judge's refusal.
use Rattle.std.proofs.Common.{sym, ap, ◌∙◌}
use Rattle.answer.specs.Said.{judge_said}
use Rattle.report.proofs.Outcomes.{reported_refusal}
use Rattle.report.proofs.report.Goals as goal

pub returns-in-Refused-clause-reported : goal.returns-in-Refused-clause-reported
returns-in-Refused-clause-reported c =
    reported_refusal _ _ (sym c.judge-judged.ensures ∙ ap judge_said c.in-Refused.is) (rw c.number.ensures at c.write_refused.ensures)
