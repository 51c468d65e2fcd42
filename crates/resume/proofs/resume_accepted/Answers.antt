-- `resume_accepted` meets its contract: 32, 33, and otherwise the status of the new state and its table.
use Rattle.std.specs.Prelude.{if◌then◌else◌}
use mathlib.Core.Bool.{Bool}
use mathlib.Core.Path.{ap, ◌∙◌}
use Rattle.answer.specs.Answer.{ended, paused, refused}
use Rattle.judgement.proofs.Accepted.{front_there}
use Rattle.calls.proofs.Resume.{standing_made}
use Rattle.resume.proofs.resume_accepted.Goals as goal

pub new-s-requires : goal.new-s-requires
new-s-requires c = front_there _ c.requires

pub returns-in-Err : goal.returns-in-Err
returns-in-Err c =
    let done = (rw c.new-s.ensures at c.in-Err.ensures) c.args.rounds in
    (ap refused c.into.ensures ∙ done.0, done.1)

pub returns-in-Ok : goal.returns-in-Ok
returns-in-Ok c =
    let a = c.args in
    let stands = rw c.new-s.ensures at c.in-Ok.ensures in
    let resumed = rw (c.new.ensures, c.new-s.ensures, c.from-limit.ensures) at c.resume_in_arrays.ensures in
    let done = standing_made a.sheet.now a.table.now a.rounds stands in (
      c.of_status.ensures ∙ ap (λ (x : Bool). if x then ended else paused) resumed.status ∙ done.0,
      resumed.words ∙ done.1,
    )
