-- `run_accepted` meets its contract: 21 where the table has the wrong length, and otherwise the status of the run and its table.
use Rattle.std.specs.Prelude.{if◌then◌else◌}
use mathlib.Core.Bool.{Bool}
use mathlib.Core.Path.{sym, ap, ◌∙◌}
use Rattle.answer.specs.Answer.{ended, paused, refused}
use Rattle.judgement.proofs.Accepted.{front_there}
use Rattle.calls.proofs.Outcome.{refused_table, made}
use Rattle.run.proofs.run_accepted.Goals as goal

pub new-s-requires : goal.new-s-requires
new-s-requires c = front_there _ c.requires

pub returns-then-wrong_length : goal.returns-then-wrong_length
returns-then-wrong_length c =
    let a = c.args in
    let wrong = rw c.new-s.ensures at (sym c.wrong_length.ensures ∙ c.if-wrong_length.true) in
    let done = refused_table a.sheet.now a.limit a.table.now c.requires wrong in
    (ap refused c.into.ensures ∙ done.0, done.1)

pub returns : goal.returns
returns c =
    -- THE TABLE has the right length
    let right = rw c.new-s.ensures at (sym c.wrong_length.ensures ∙ c.if-wrong_length.false) in
    let a = c.args in
    let ran = rw (c.new.ensures, c.new-s.ensures) at c.run_in_arrays.ensures in
    let done = made a.sheet.now a.limit a.table.now c.requires right in (
      c.of_status.ensures ∙ ap (λ (x : Bool). if x then ended else paused) ran.status ∙ done.0,
      ran.words ∙ done.1,
    )
