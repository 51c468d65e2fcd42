-- What resuming answers and leaves, case by case: a refused sheet, 32, 33, rounds that are made; and what its answer says of the table.
use Rattle.std.specs.Prelude.{if◌then◌else◌}
use Prim.Native.Nat.{ℕ}
use mathlib.Core.Bool.{Bool, true, false, not, cond, true≢false}
use mathlib.Core.Path.{◌≡◌, refl, sym, ap, ◌∙◌}
use mathlib.Core.List.{List, [], ◌∷◌}
use native.Mathlib.Omega.{arith}
use borrow.Author.Tests.{not-true, not-false}
use Rattle.sheet.specs.Sections.{span_count}
use Rattle.answer.specs.Answer.{Refusal, number_of, state, Answer, ended, paused, refused, Case, ◌when◌, is_refused, lowest}
use Rattle.answer.proofs.Lowest.{lowest_append, lowest_clear, lowest_stop}
use Rattle.judgement.specs.Judgement.{refusals, judgement_by, judgement, Accepted}
use Rattle.procedure.specs.OfSheet.{graph_of, division_of}
use Rattle.procedure.specs.Procedure.{ended as hasEnded}
use Rattle.theory_shortest.proofs.WellFormed.{accepted_well_formed}
use Rattle.calls.specs.Tables.{status_says, status_in}
use Rattle.calls.specs.Resume.{not_long, not_possible, resumed, resumed_table, resume_call, resume_answer, resume_table, StateKnown}
use Rattle.calls.specs.InParts.{Standing}
use Rattle.calls.proofs.Outcome.{status_answers, status_says_lem}
use Rattle.calls.proofs.LongReading.{long_status}
use Rattle.calls.proofs.Formed.{formed}
use Rattle.calls.proofs.Possible.{test_possible, possible_test}
use Rattle.calls.proofs.Inputs.{by_input, answered_not, sheet_accepted}

-- of the two refusals of the table, 33 is answered: it applies, and 32 does not; none is: neither applies
only_33 : (long wrong over : Bool) → cond long (refused (state 32)) (cond wrong (refused (state 33)) (if over then ended else paused)) ≡ refused (state 33)
    → (long ≡ false) × (wrong ≡ true)
only_33 true wrong over e = let n : state 32 ≡ state 33 = cc in absurd (omega (arith, ap number_of n))
only_33 false true over e = (refl, refl)
only_33 false false over e = absurd (true≢false (ap is_refused (sym e) ∙ status_answers over))

neither_applies : (long wrong over : Bool)
    → is_refused (cond long (refused (state 32)) (cond wrong (refused (state 33)) (if over then ended else paused))) ≡ false → (long ≡ false) × (wrong ≡ false)
neither_applies true wrong over e = absurd (true≢false e)
neither_applies false true over e = absurd (true≢false e)
neither_applies false false over e = (refl, refl)

module _ (b table : List ℕ) (k : ℕ) where
  -- the status of the table that the rounds leave
  abbrev over : Bool
  over = hasEnded (graph_of b) (division_of b) (resumed b table k)

  abbrev status : Answer
  status = if over then ended else paused

  abbrev table_cases : List Case
  table_cases = state 32 when not_long b table ∷ state 33 when not_possible b table ∷ []

  pub table_says : status_says (status_in (resumed_table b table k)) ≡ status
  unfolding resumed_table
  table_says = ap status_says (long_status (graph_of b) (division_of b) (resumed b table k)) ∙ status_says_lem over

  -- the refusals of the sheet are looked at before the table
  sheet_first : resume_answer b table k ≡ lowest (refusals b) (lowest table_cases status)
  unfolding resume_answer
  sheet_first = rw (← table_says) (lowest_append (refusals b) table_cases (status_says (status_in (resumed_table b table k))))

  -- the table that goes with an answer
  left_by : (answer : Answer) → resume_answer b table k ≡ answer
      → (answer ≡ resume_answer b table k) × ((if is_refused answer then table else resumed_table b table k) ≡ resume_table b table k)
  unfolding resume_answer resume_table
  left_by answer e = (sym e, ap (λ (a : Answer). if is_refused a then table else resumed_table b table k) (sym e))

  -- a refused sheet: the answer is the judge's, and the table stays
  pub refused_sheet : (r : Refusal) → judgement b ≡ refused r → (refused r ≡ resume_answer b table k) × (table ≡ resume_table b table k)
  unfolding judgement_by
  refused_sheet r e = left_by (refused r) (sheet_first ∙ lowest_stop (refusals b) (lowest table_cases status) r e)

  module _ (ok : Accepted b) where
    table_decides : resume_answer b table k ≡ lowest table_cases status
    unfolding judgement_by
    table_decides = sheet_first ∙ lowest_clear (refusals b) (lowest table_cases status) ok.judged

    -- 32, and the table stays
    pub refused_long : not_long b table ≡ true → (refused (state 32) ≡ resume_answer b table k) × (table ≡ resume_table b table k)
    refused_long long = left_by (refused (state 32)) (table_decides ∙ rw long)

    -- 33 after it, and the table stays
    pub refused_possible : not_long b table ≡ false → not_possible b table ≡ true
        → (refused (state 33) ≡ resume_answer b table k) × (table ≡ resume_table b table k)
    refused_possible long wrong = left_by (refused (state 33)) (table_decides ∙ rw (long, wrong))

    -- otherwise the rounds are made: the answer is their status, and the table is the state's
    pub made : not_long b table ≡ false → not_possible b table ≡ false → (status ≡ resume_answer b table k) × (resumed_table b table k ≡ resume_table b table k)
    made long wrong =
        let done = left_by status (table_decides ∙ rw (long, wrong)) in
        (done.0, ap (λ (refuses : Bool). if refuses then table else resumed_table b table k) (sym (status_answers over)) ∙ done.1)

  -- so a sheet and a table that stand
  pub standing_made : Standing b table → (status ≡ resume_answer b table k) × (resumed_table b table k ≡ resume_table b table k)
  unfolding not_possible
  standing_made S = made S.accepted S.formed (ap not S.possible)

  -- THE ANSWER BLAMES NO INPUT: the sheet is accepted
  accepted_sheet : by_input (resume_answer b table k) ≡ false → Accepted b
  unfolding resume_answer
  accepted_sheet e = sheet_accepted b (resume_call b table k) e

  -- no refusal is answered: sheet and table stand
  pub answered_standing : is_refused (resume_answer b table k) ≡ false → Standing b table
  unfolding not_possible
  answered_standing e =
      let ok = accepted_sheet (answered_not (resume_answer b table k) e) in
      let clear = neither_applies (not_long b table) (not_possible b table) over (ap is_refused (sym (table_decides ok)) ∙ e) in
      record { accepted = ok; formed = clear.0; possible = not-false _ clear.1 }

  -- WHAT THE ANSWER SAYS of the table holds of it.
  pub state_known : StateKnown b table (resume_answer b table k)
  unfolding not_possible
  state_known = record {
    wrong = λ e p.
        let ok = accepted_sheet (ap by_input e) in
        let q = only_33 (not_long b table) (not_possible b table) over (sym (table_decides ok) ∙ e) in
        let passes = possible_test (accepted_well_formed b ok).graph (span_count b) table (formed b table q.0).status p in
        true≢false (sym passes ∙ not-true _ q.1);
    right = λ e.
        let S = answered_standing e in
        test_possible (accepted_well_formed b S.accepted).graph (span_count b) table S.possible;
  }
