-- `find_heights` meets its contract: the regions passed hold their heights and have handed them up, and none of them is childless.
use Rattle.std.specs.Prelude.{if◌then◌else◌}
use mathlib.Core.Bool.{Bool, true, false}
use mathlib.Core.Path.{◌≡◌, refl, sym, ap, ◌∙◌}
use borrow.Author.Rules.{rules}
use native.Mathlib.Omega.{arith}
use Rattle.std.proofs.Math.Nat.{max_comm}
use Rattle.std.proofs.lemmas.Result.{err_from_is_err_and}
use Rattle.answer.specs.Answer.{Refusal, input, Answer, accepted, refused}
use Rattle.answer.proofs.Lowest.{refused≢accepted}
use Rattle.judge_division.proofs.heights.Childless.{Passed, passed_start, passed_turn, found_childless, passed_le, all_passed, all_found}
use Rattle.judge_division.proofs.heights.find_heights.Goals as goal

-- what the test at a region's turn answers
abbrev told : Bool → Answer
told none = if none then refused (input 13) else accepted

applies : (none : Bool) (r : Refusal) → refused r ≡ told none → none ≡ true
applies true r e = refl
applies false r e = absurd (refused≢accepted r e)

clear : (none : Bool) → accepted ≡ told none → none ≡ false
clear true e = absurd (refused≢accepted (input 13) (sym e))
clear false e = refl

pub loop-r-init : goal.loop-r-init
loop-r-init c = rw c.requires (passed_start _ _ (omega arith))

pub hand_up-requires : goal.hand_up-requires
hand_up-requires c =
    let held = passed_le c.args.n.now.passable c.loop-r.invariant in
    search rules

pub returns-in_err-hand_up-clause-answer : goal.returns-in_err-hand_up-clause-answer
returns-in_err-hand_up-clause-answer c =
    let none = applies _ _ c.in_err-hand_up.ensures.answer in
    let p = err_from_is_err_and c.from_residual.result c.from_residual.ensures.1 in
    rw (p.1, p.2)
    (c.in_err-hand_up.ensures.answer ∙ ap told (none ∙ sym (found_childless c.args.n.now.passable c.loop-r.invariant (omega arith) none)))

pub loop-r-preserved : goal.loop-r-preserved
loop-r-preserved c =
    rw c.in_ok-hand_up.ensures.handed
    (passed_turn c.args.n.now.passable c.loop-r.invariant (omega arith) (clear _ c.in_ok-hand_up.ensures.answer))

pub returns-clause-answer : goal.returns-clause-answer
returns-clause-answer c =
    let last : c.loop-r.r ≡ 0 = omega arith in
    let all : Passed c.args.n.now.bytes.now c.loop-r.heights 0 = rw last at c.loop-r.invariant in
    rw (all_passed c.args.n.now.passable all)

pub returns-clause-found : goal.returns-clause-found
returns-clause-found c =
    let last : c.loop-r.r ≡ 0 = omega arith in
    let all : Passed c.args.n.now.bytes.now c.loop-r.heights 0 = rw last at c.loop-r.invariant in
    rw (c.max.ensures, max_comm _ 1) (all_found c.args.n.now.passable all)
