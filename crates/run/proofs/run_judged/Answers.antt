-- `run_judged` meets its contract: the judge's refusal, or the run of the accepted sheet.
use mathlib.Core.Path.{sym, ap, ◌∙◌}
use Rattle.answer.specs.Said.{judge_said}
use Rattle.calls.proofs.Outcome.{refused_sheet}
use Rattle.run.proofs.run_judged.Goals as goal

pub returns-in-Refused : goal.returns-in-Refused
returns-in-Refused c =
    let a = c.args in
    refused_sheet a.sheet.now a.limit a.table.now _ (sym c.judge-judged.ensures ∙ ap judge_said c.in-Refused.is)
