-- `canonical_accepted` meets its contract: 31 where the buffer is too short, and otherwise the canonical form.
use borrow.Author.Tests.{ltb-true, ltb-false}
use mathlib.Core.Path.{sym, ap, ◌∙◌}
use native.Mathlib.Omega.{arith}
use Rattle.answer.specs.Answer.{refused}
use Rattle.judgement.proofs.Accepted.{none_applies, front_there}
use Rattle.judgement.proofs.Clear.{few_words}
use Rattle.calls.proofs.Canonical.{too_short, has_room}
use Rattle.canonical.proofs.canonical_accepted.Goals as goal

pub returns-then-no_room : goal.returns-then-no_room
returns-then-no_room c =
    let done = too_short _ _ c.requires (ltb-true _ _ (sym c.no_room.ensures ∙ c.if-no_room.true)) in
    (ap refused c.into.ensures ∙ sym done.0, sym done.1)

pub new-s-requires : goal.new-s-requires
new-s-requires c = front_there _ c.requires

pub overflow_cast-count : goal.overflow_cast-count
overflow_cast-count c = omega (arith, few_words _ (none_applies _ c.requires).size)

pub returns : goal.returns
returns c =
    let done = has_room _ _ c.requires (ltb-false _ _ (sym c.no_room.ensures ∙ c.if-no_room.false)) in
    (sym done.0, rw (c.new.ensures, c.new-s.ensures) at c.write_form.ensures ∙ sym done.1)
