-- `convert` meets its contract: the judge's refusal, or the answer for the convertible sheet.
use mathlib.Core.Path.{sym, ap, ◌∙◌}
use Rattle.answer.specs.Said.{judge_said}
use Rattle.calls.proofs.Convert.{refused_sheet}
use Rattle.convert.proofs.convert.Goals as goal

pub convert_sheet-requires : goal.convert_sheet-requires
convert_sheet-requires c = record { judged = sym c.judge_convertible.ensures ∙ ap judge_said c.in-Accepted.is }

pub returns-in-Refused : goal.returns-in-Refused
returns-in-Refused c =
    let done = refused_sheet _ _ _ (sym c.judge_convertible.ensures ∙ ap judge_said c.in-Refused.is) in
    (sym done.0, sym done.1)
