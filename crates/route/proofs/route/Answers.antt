-- `route` meets its contract: the sheet's refusal, or the answer for an accepted sheet.
use mathlib.Core.Path.{sym, ◌∙◌}
use Rattle.calls.proofs.Routes.{sheet_stops}
use Rattle.route.proofs.Stages.{left_refused, left_after, answer_known}
use Rattle.route.proofs.route.Goals as goal

pub returns-in-Accepted : goal.returns-in-Accepted
returns-in-Accepted c =
    let told = c.route_accepted.ensures in
    (told.0, told.1 ∙ left_after _ _ _ _ _ told.0, answer_known _ _ _ _ _ told.0)

pub returns-in-Refused : goal.returns-in-Refused
returns-in-Refused c =
    let same = sym (sheet_stops _ _ _ _ _ (sym c.in-Refused.ensures)) in
    (same, left_refused _ _ _ _ _ ∙ left_after _ _ _ _ _ same, answer_known _ _ _ _ _ same)
