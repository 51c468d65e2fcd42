-- An answer that does not blame the input: no refusal of the sheet applies, since all of them do, and so the sheet is accepted.
use Prim.Native.Nat.{ℕ}
use mathlib.Core.Bool.{Bool, true, false, cond, true≢false, ◌&&◌}
use mathlib.Core.Path.{◌≡◌, refl, sym, ap, ◌∙◌}
use mathlib.Core.List.{List, [], ◌∷◌}
use Rattle.indices.proofs.Tests.{and_left, and_right}
use Rattle.answer.specs.Answer.{Refusal, input, state, Case, is_refused, lowest}
use Rattle.answer.specs.Answer.{Answer, accepted, ended, paused, route, no_route, written, refused}
use Rattle.answer.proofs.Lowest.{lowest_append}
use Rattle.judgement.specs.Judgement.{form_refusals, count_refusals, arc_refusals, division_refusals, refusals_by, refusals, judgement_by, Accepted}
use Rattle.calls.specs.Calls.{Call, call_answer}

-- the input is at fault
abbrev of_input : Refusal → Bool
of_input (input _) = true
of_input (state _) = false

abbrev pub by_input : Answer → Bool
by_input (refused r) = of_input r
by_input accepted = false
by_input ended = false
by_input paused = false
by_input (route _) = false
by_input no_route = false
by_input (written _) = false

pub answered_not : (a : Answer) → is_refused a ≡ false → by_input a ≡ false
answered_not accepted e = refl
answered_not ended e = refl
answered_not paused e = refl
answered_not (route n) e = refl
answered_not no_route e = refl
answered_not (written _) e = refl
answered_not (refused r) e = absurd (true≢false e)

-- every refusal of the list is of the input
abbrev inputs : List Case → Bool
inputs [] = true
inputs (c ∷ cs) = of_input c.refusal && inputs cs

-- where the answer does not blame the input, no case of such a list applies
inputs_clear : (cs : List Case) (a : Answer) → inputs cs ≡ true → by_input (lowest cs a) ≡ false → lowest cs accepted ≡ accepted
inputs_clear [] a i l = refl
inputs_clear (c ∷ cs) a i l =
    by c.applies (and_left (of_input c.refusal) _ i) (inputs_clear cs a (and_right (of_input c.refusal) _ i)) l
  where
    by : (t : Bool) → of_input c.refusal ≡ true → (by_input (lowest cs a) ≡ false → lowest cs accepted ≡ accepted)
        → by_input (cond t (refused c.refusal) (lowest cs a)) ≡ false → cond t (refused c.refusal) (lowest cs accepted) ≡ accepted
    by true mine rest l = absurd (true≢false (sym mine ∙ l))
    by false mine rest l = rest l

sheet_inputs : (b : List ℕ) → inputs (refusals b) ≡ true
unfolding refusals_by form_refusals count_refusals arc_refusals division_refusals
sheet_inputs b = refl

-- A CALL whose answer does not blame the input: its sheet is accepted
pub sheet_accepted : (b : List ℕ) (call : Call) → by_input (call_answer (refusals b) call) ≡ false → Accepted b
unfolding judgement_by
sheet_accepted b call e = record {
  judged =
      inputs_clear (refusals b) (lowest call.later call.good) (sheet_inputs b)
      (ap by_input (sym (lowest_append (refusals b) call.later call.good)) ∙ e);
}
