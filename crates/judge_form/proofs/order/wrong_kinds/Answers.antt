-- `wrong_kinds` meets its contract: of the words that are passed none says no, and the first that does decides.
use mathlib.Core.Path.{refl, sym, ap, ◌∙◌}
use Rattle.sheet_reader.specs.declared.Reader.{Reader}
use Rattle.judgement.specs.Kinds.{may_begin, may_follow}
use Rattle.judge_form.proofs.order.Pass.{step_word, step_kind, step_end, pass_empty, pass_front, pass_start, pass_on, pass_stop, pass_end}
use Rattle.judge_form.proofs.order.wrong_kinds.Goals as goal

-- THE FRONT: no word, a first one with which no sheet begins, and one with which a sheet may

pub returns-in_default : goal.returns-in_default
returns-in_default c =
    let r = c.at-reader.ensures in
    sym (pass_empty _ (step_end _ _ (ap (λ (r : Reader). r.sheet.now) r) (ap (λ (r : Reader). r.place) r) c.in_default.ensures.steps))

pub returns-then-not-may_begin : goal.returns-then-not-may_begin
returns-then-not-may_begin c =
    let r = c.at-reader.ensures in
    let st = step_word _ _ (ap (λ (r : Reader). r.sheet.now) r) (ap (λ (r : Reader). r.place) r) c.in-Some.ensures.steps in
    sym (pass_front _ (sym (c.may_begin.ensures ∙ ap may_begin (step_kind st c.kind_of-before.ensures)) ∙ c.if-not-may_begin.true))

pub loop-word-init : goal.loop-word-init
loop-word-init c =
    let r = c.at-reader.ensures in
    let st = step_word _ _ (ap (λ (r : Reader). r.sheet.now) r) (ap (λ (r : Reader). r.place) r) c.in-Some.ensures.steps in
    let first_kind = step_kind st c.kind_of-before.ensures in
    let reader = c.into_iter-word-iterator.ensures.into_iter_gives in
    let tested = c.may_begin.ensures ∙ ap may_begin first_kind in (
      ap (λ (r : Reader). r.sheet.now) reader ∙ st.same,
      rw (ap (λ (r : Reader). r.place) reader ∙ st.moved, first_kind) (pass_start _ st.inside (sym tested ∙ c.if-not-may_begin.false)),
    )

-- THE OTHERS: a word that may not follow, one that may, and the end of the sheet
pub returns-then-not-may_follow : goal.returns-then-not-may_follow
returns-then-not-may_follow c =
    let at = c.loop-word.invariant in
    let st = step_word _ _ at.0 refl c.in-Some-word.ensures.steps in
    let tested = c.may_follow.ensures ∙ ap (may_follow c.loop-word.before) (step_kind st c.kind_of-kind.ensures) in
    sym (pass_stop at.1 st.inside (sym tested ∙ c.if-not-may_follow.true))

pub loop-word-preserved : goal.loop-word-preserved
loop-word-preserved c =
    let at = c.loop-word.invariant in
    let st = step_word _ _ at.0 refl c.in-Some-word.ensures.steps in
    let kind_read = step_kind st c.kind_of-kind.ensures in
    let tested = c.may_follow.ensures ∙ ap (may_follow c.loop-word.before) kind_read in
    (st.same, rw (st.moved, kind_read) (pass_on at.1 st.inside (sym tested ∙ c.if-not-may_follow.false)))

pub returns : goal.returns
returns c = let at = c.loop-word.invariant in rw c.may_end.ensures (pass_end at.1 (step_end _ _ at.0 refl c.in-None.ensures.steps))
