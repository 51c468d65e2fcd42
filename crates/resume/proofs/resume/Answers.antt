-- `resume` meets its contract: the judge's refusal, or the accepted sheet resumed; and what is promised of an answer holds of the right one.
use Prim.Native.Nat.{ℕ}
use mathlib.Core.Bool.{false}
use mathlib.Core.Path.{◌≡◌, sym, ap, ◌∙◌}
use mathlib.Core.List.{List}
use Rattle.answer.specs.Answer.{Answer, is_refused}
use Rattle.answer.specs.Said.{judge_said}
use Rattle.calls.specs.Resume.{resume_answer, StateKnown, Carried}
use Rattle.calls.proofs.Resume.{refused_sheet, state_known}
use Rattle.theory_resume.proofs.Resumed.{answered_carried}
use Rattle.resume.proofs.resume.Goals as goal

-- THE PROMISE, of the answer that is defined
known : (b table : List ℕ) (k : ℕ) {answer : Answer} → answer ≡ resume_answer b table k → StateKnown b table answer
known b table k e = rw e (state_known b table k)

carried : (b table : List ℕ) (k : ℕ) {answer : Answer} → answer ≡ resume_answer b table k → is_refused answer ≡ false → Carried b table k
carried b table k e good = answered_carried b table k (rw e at good)

pub returns-in-Refused : goal.returns-in-Refused
returns-in-Refused c =
    let a = c.args in
    let refused =
    refused_sheet a.sheet.now a.table.now a.rounds _
    (sym c.judge-judged.ensures ∙ ap judge_said c.in-Refused.is) in
    (refused.0, refused.1, known _ _ a.rounds refused.0, carried _ _ a.rounds refused.0)

pub returns-in-Accepted : goal.returns-in-Accepted
returns-in-Accepted c =
    let done = c.resume_accepted.ensures in
    (done.0, done.1, known _ _ _ done.0, carried _ _ _ done.0)
