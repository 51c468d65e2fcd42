-- `canonical` meets its contract: the judge's refusal, or the answer for the accepted sheet.
use mathlib.Core.Path.{sym, ap, ◌∙◌}
use Rattle.answer.specs.Said.{judge_said}
use Rattle.calls.proofs.Canonical.{refused_sheet}
use Rattle.canonical.proofs.canonical.Goals as goal

pub returns-in-Refused : goal.returns-in-Refused
returns-in-Refused c =
    let done = refused_sheet _ _ _ (sym c.judge-judged.ensures ∙ ap judge_said c.in-Refused.is) in
    (sym done.0, sym done.1)
