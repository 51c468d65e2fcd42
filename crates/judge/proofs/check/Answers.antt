-- `check` meets its contract: the first three tests, of which two are of refusal 2, and then the others.
use mathlib.Core.Bool.{false}
use mathlib.Core.Path.{◌≡◌, sym, ◌∙◌}
use Rattle.indices.proofs.Tests.{neither}
use Rattle.judgement.specs.Form.{wrong_size, out_of_order}
use Rattle.judgement.specs.Kinds.{wrong_kinds}
use Rattle.judgement.specs.Judgement.{form_refusals, refusals_by, judgement_by}
use Rattle.judgement.proofs.Clear.{front_there}
use Rattle.judgement.proofs.Order.{by_kinds, by_cases_or_holds}
use Rattle.judge.proofs.check.Goals as goal

pub returns-then-wrong_size : goal.returns-then-wrong_size
unfolding judgement_by refusals_by form_refusals
returns-then-wrong_size c = rw (sym c.wrong_size.ensures ∙ c.if-wrong_size.true)

pub returns-then-wrong_kinds : goal.returns-then-wrong_kinds
unfolding judgement_by refusals_by form_refusals
returns-then-wrong_kinds c =
    rw (sym c.wrong_size.ensures ∙ c.if-wrong_size.false, by_cases_or_holds _, sym c.wrong_kinds.ensures ∙ c.if-wrong_kinds.true)

pub new-s-requires : goal.new-s-requires
new-s-requires c = front_there _ (by_kinds _ ∙ sym c.wrong_kinds.ensures ∙ c.if-wrong_kinds.false)

pub returns-then-wrong_holds : goal.returns-then-wrong_holds
unfolding judgement_by refusals_by form_refusals
returns-then-wrong_holds c =
    let holds = rw c.new-s.ensures at c.wrong_holds.ensures in
    rw (
      sym c.wrong_size.ensures ∙ c.if-wrong_size.false,
      by_cases_or_holds _,
      sym c.wrong_kinds.ensures ∙ c.if-wrong_kinds.false,
      sym holds ∙ c.if-wrong_holds.true,
    )

-- 1 does not apply, and of 2 neither the part of the kinds nor that of the holds, where each was looked for
pub check_located-requires : goal.check_located-requires
check_located-requires c =
    let sized : wrong_size c.args.sheet.now ≡ false = sym c.wrong_size.ensures ∙ c.if-wrong_size.false in
    let kinds-right : wrong_kinds c.args.sheet.now ≡ false = sym c.wrong_kinds.ensures ∙ c.if-wrong_kinds.false in
    let holds = rw c.new-s.ensures at c.wrong_holds.ensures in
    let ordered : out_of_order c.args.sheet.now ≡ false = by_cases_or_holds _ ∙ neither _ _ kinds-right (sym holds ∙ c.if-wrong_holds.false) in
    rw c.new-s.ensures (record { sized = sized; ordered = ordered })
