-- What a run answers and leaves, case by case: a refused sheet, a table of the wrong length, a run that is made, in either form.
use Rattle.std.specs.Prelude.{if◌then◌else◌}
use Prim.Native.Nat.{ℕ, ◌-◌, ◌≤◌}
use mathlib.Core.Bool.{Bool, true, false, true≢false, cond, not, ◌||◌}
use mathlib.Core.Path.{◌≡◌, refl, sym, ap, ◌∙◌}
use mathlib.Core.Logic.{◌⊎◌, inl, inr, ⊎_elim}
use mathlib.Core.List.{List, [], ◌∷◌, ◌++◌, append-nil}
use native.Mathlib.Omega.{arith}
use borrow.Author.Tests.{eq-eqb, eqb-true, not-false}
use lib.ListN.{length}
use Rattle.indices.specs.Columns.{column}
use Rattle.sheet.specs.Sections.{node_count, arc_count}
use Rattle.answer.specs.Answer.{Refusal, state, Answer, ended, paused, refused, ◌when◌, is_refused, lowest}
use Rattle.answer.specs.Codes.{code_of}
use Rattle.answer.proofs.Lowest.{lowest_append, lowest_clear, lowest_stop}
use Rattle.judgement.specs.Judgement.{refusals, judgement_by, judgement, Accepted}
use Rattle.procedure.specs.Table.{key_words}
use Rattle.calls.specs.Tables.{table_length, long_length, is_usual, is_long, wrong_length, status_says, status_in}
use Rattle.calls.specs.Runs.{state_after, ended_after, run_answer, run_table, long_run_table, filled_table, table_after}
use Rattle.calls.proofs.Reading.{status_in_lem}

-- THE FORMS
module _ (b table : List ℕ) where
  pub usual_length : is_usual b table ≡ true → length table ≡ table_length (node_count b)
  unfolding is_usual
  usual_length e = eqb-true (length table) (table_length (node_count b)) e

  pub long_length_lem : is_long b table ≡ true → length table ≡ long_length (node_count b) (arc_count b)
  unfolding is_long
  long_length_lem e = eqb-true (length table) (long_length (node_count b) (arc_count b)) e

  pub length_usual : length table ≡ table_length (node_count b) → is_usual b table ≡ true
  unfolding is_usual
  length_usual e = eq-eqb (length table) (table_length (node_count b)) e

  pub length_long : length table ≡ long_length (node_count b) (arc_count b) → is_long b table ≡ true
  unfolding is_long
  length_long e = eq-eqb (length table) (long_length (node_count b) (arc_count b)) e

  -- a table that is not of the wrong length has the length of one form or the other
  pub right_length : wrong_length b table ≡ false
      → (length table ≡ table_length (node_count b)) ⊎ (length table ≡ long_length (node_count b) (arc_count b))
  unfolding wrong_length
  right_length e = by (is_usual b table) (is_long b table) usual_length long_length_lem (not-false _ e)
    where
      by : {A B : Type 0} (u l : Bool) → (u ≡ true → A) → (l ≡ true → B) → (u || l) ≡ true → A ⊎ B
      by true l usual long e = inl (usual refl)
      by false l usual long e = inr (long e)

  pub usual_right : length table ≡ table_length (node_count b) → wrong_length b table ≡ false
  unfolding wrong_length
  usual_right e = ap (λ u. not (u || is_long b table)) (length_usual e)

  pub long_right : length table ≡ long_length (node_count b) (arc_count b) → wrong_length b table ≡ false
  unfolding wrong_length
  long_right e = rw (length_long e) (by (is_usual b table))
    where
      by : (u : Bool) → not (u || true) ≡ false
      by true = refl
      by false = refl

  -- it has room for the usual words, and behind them for the key words or for none
  pub right_room : wrong_length b table ≡ false → table_length (node_count b) ≤ length table
  right_room e =
      ⊎_elim (λ (u : length table ≡ table_length (node_count b)). omega arith)
      (λ (l : length table ≡ long_length (node_count b) (arc_count b)). omega arith) (right_length e)

-- a status is no refusal, and says whether the run has ended
pub status_answers : (b : Bool) → is_refused (if b then ended else paused) ≡ false
status_answers true = refl
status_answers false = refl

pub status_says_lem : (b : Bool) → status_says (if b then 1 else 0) ≡ (if b then ended else paused)
status_says_lem true = refl
status_says_lem false = refl

-- a status of 1 is 'ended'
pub status_ended : (b : Bool) → ◌≡◌ {A = ℕ} (if b then 1 else 0) 1 → b ≡ true
status_ended true e = refl
status_ended false e = absurd (omega arith)

-- and so is the answer
pub says_ended : (over : Bool) → (if over then ended else paused) ≡ ended → over ≡ true
says_ended true e = refl
says_ended false e = absurd (let codes = ap code_of e in omega (arith, codes))

pub table_says : (b : List ℕ) (k : ℕ) → status_says (status_in (run_table b k)) ≡ (if ended_after b k then ended else paused)
unfolding run_table
table_says b k = ap status_says (status_in_lem (ended_after b k) _ _ _ (node_count b)) ∙ status_says_lem (ended_after b k)

module _ (b : List ℕ) (k : ℕ) (table : List ℕ) where
  -- the refusals of the sheet are looked at before the table
  sheet_first : run_answer b k table ≡ lowest (refusals b) (lowest (state 21 when wrong_length b table ∷ []) (if ended_after b k then ended else paused))
  unfolding run_answer
  sheet_first = rw (← table_says b k) (lowest_append (refusals b) (state 21 when wrong_length b table ∷ []) (status_says (status_in (run_table b k))))

  kept_where_refused : (answer : Answer) → run_answer b k table ≡ answer → table_after b k table ≡ (if is_refused answer then table else filled_table b k table)
  unfolding table_after run_answer
  kept_where_refused answer e = ap (λ (a : Answer). if is_refused a then table else filled_table b k table) e

  -- a refused sheet: the answer is the judge's, and the table stays
  pub refused_sheet : (r : Refusal) → judgement b ≡ refused r → (refused r ≡ run_answer b k table) × (table ≡ table_after b k table)
  unfolding judgement_by
  refused_sheet r e =
      let answer = sheet_first ∙ lowest_stop (refusals b) (lowest (state 21 when wrong_length b table ∷ []) (if ended_after b k then ended else paused)) r e in
      (sym answer, sym (kept_where_refused (refused r) answer))

  module _ (ok : Accepted b) where
    table_decides : run_answer b k table ≡ cond (wrong_length b table) (refused (state 21)) (if ended_after b k then ended else paused)
    unfolding judgement_by
    table_decides = sheet_first ∙ lowest_clear (refusals b) (lowest (state 21 when wrong_length b table ∷ []) (if ended_after b k then ended else paused))
        ok.judged

    -- a table of the wrong length: 21, and it stays
    pub refused_table : wrong_length b table ≡ true → (refused (state 21) ≡ run_answer b k table) × (table ≡ table_after b k table)
    refused_table wrong =
        let answer : run_answer b k table ≡ refused (state 21) = table_decides ∙ rw wrong in
        (sym answer, sym (kept_where_refused (refused (state 21)) answer))

    -- otherwise the run is made: the answer is its status, and the table is the state's, in the form lent
    pub made : wrong_length b table ≡ false
        → ((if ended_after b k then ended else paused) ≡ run_answer b k table) × (filled_table b k table ≡ table_after b k table)
    made right =
        let answer : run_answer b k table ≡ (if ended_after b k then ended else paused) = table_decides ∙ rw right in
        (sym answer, sym (kept_where_refused (if ended_after b k then ended else paused) answer ∙ rw (status_answers (ended_after b k))))

  -- THE TABLE in the form lent
  pub filled_long : length table ≡ long_length (node_count b) (arc_count b) → filled_table b k table ≡ long_run_table b k
  unfolding filled_table
  filled_long e = rw (length_long b table e)

  -- the usual words, and behind them m key words
  abbrev behind : ℕ → List ℕ
  behind m = run_table b k ++ key_words (state_after b k).queues.own m

  none_behind : behind 0 ≡ run_table b k
  unfolding key_words column
  none_behind = append-nil (run_table b k)

  -- as many as the table has room for
  pub filled_words : wrong_length b table ≡ false → behind (length table - table_length (node_count b)) ≡ filled_table b k table
  unfolding filled_table long_run_table
  filled_words right = by (is_long b table) refl
    where
      by : (long : Bool) → is_long b table ≡ long
          → behind (length table - table_length (node_count b)) ≡ (if long then behind (arc_count b) else run_table b k)
      by true e = ap behind (omega (arith, long_length_lem b table e))
      by false e =
          ⊎_elim
          (λ (u : length table ≡ table_length (node_count b)).
          ap behind (let m : length table - table_length (node_count b) ≡ 0 = omega arith in m) ∙ none_behind)
          (λ (l : length table ≡ long_length (node_count b) (arc_count b)). absurd (true≢false (sym (length_long b table l) ∙ e)))
          (right_length b table right)

  pub filled_usual : length table ≡ table_length (node_count b) → filled_table b k table ≡ run_table b k
  filled_usual e =
      sym (filled_words (usual_right b table e))
      ∙ ap behind (let m : length table - table_length (node_count b) ≡ 0 = omega arith in m)
      ∙ none_behind
