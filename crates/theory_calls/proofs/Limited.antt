-- A limited run with at least as many rounds as the whole run has is the whole run: each round is counted, so a run that has not ended after k rounds
-- has more.
use Prim.Native.Nat.{ℕ, suc, ◌+◌, ◌-◌, ◌≤◌, ◌<◌}
use mathlib.Core.Bool.{false}
use mathlib.Core.Path.{◌≡◌, sym, ap, ◌∙◌}
use mathlib.Core.List.{List}
use native.Mathlib.Numerals.{add-one}
use native.Mathlib.Omega.{arith}
use Rattle.indices.proofs.Steps.{by_order, by_truth}
use Rattle.procedure.specs.Graph.{Graph}
use Rattle.procedure.specs.Division.{Division}
use Rattle.procedure.specs.State.{State}
use Rattle.procedure.specs.Procedure.{enough_rounds, ended, start, after, final, after_by}
use Rattle.theory_shortest.specs.WellFormed.{WellFormed}
use Rattle.judgement.specs.Judgement.{Accepted}
use Rattle.theory.proofs.Final.{few_each_way, next_round, rounds_in_parts, ended_stays, final_ended, ended_final}
use Rattle.theory.proofs.Counts.{round_more_lem, still_running}
use Rattle.theory.proofs.Grows.{rounds_grow}
use Rattle.calls.specs.Runs.{state_after, run_answer, run_table, long_run_table, filled_table, table_after}
use Rattle.theory_calls.proofs.Delivered.{well}

module _ {most : ℕ} {g : Graph} {d : Division} {spans : List ℕ} (ok : WellFormed most g d spans) where
  -- a run that has not ended after k rounds has counted k, and one round more counts one more
  counted_next : (k : ℕ) → ended g d (after g d spans k) ≡ false → suc k ≤ (after g d spans (suc k)).rounds
  unfolding after_by
  counted_next k on =
      let e = ap (λ (n : ℕ). (after g d spans n).rounds) (sym (add-one k)) ∙ ap (λ (s : State). s.rounds) (next_round g d spans k on) in
      omega (arith, e, still_running ok k (start g d) (rw on tt), round_more_lem ok (after g d spans k))

  -- and the run to its end has counted more
  more_to_come : (k : ℕ) → k < enough_rounds → ended g d (after g d spans k) ≡ false → k < (final g d spans).rounds
  unfolding final
  more_to_come k l on =
      let rest = enough_rounds - suc k in
      let whole : enough_rounds ≡ suc k + rest = omega arith in
      let e = ap (λ (n : ℕ). (after g d spans n).rounds) whole ∙ ap (λ (s : State). s.rounds) (rounds_in_parts g d spans (suc k) rest) in
      omega (arith, e, counted_next k on, (rounds_grow g d ok.division spans rest (after g d spans (suc k))).rounds)

  -- more rounds than enough change nothing
  beyond_enough : most ≤ 4 → (k : ℕ) → enough_rounds ≤ k → after g d spans k ≡ final g d spans
  unfolding final
  beyond_enough few k l = ended_stays g d spans enough_rounds k (final_ended ok few) l

  -- the rounds of the whole run are enough
  pub enough : most ≤ 4 → (k : ℕ) → (final g d spans).rounds ≤ k → after g d spans k ≡ final g d spans
  enough few k l =
      by_order k enough_rounds
      (λ fewer.
      by_truth (ended g d (after g d spans k)) (λ over. sym (ended_final ok few k over)) (λ on. absurd (omega (arith, more_to_come k fewer on))))
      (λ late. beyond_enough few k late)

-- A run limited to at least as many rounds as the run to its end has leaves the same state, answer and table.
module _ (b : List ℕ) (ok : Accepted b) (k : ℕ) (l : (state_after b enough_rounds).rounds ≤ k) where
  pub same_state : state_after b k ≡ state_after b enough_rounds
  unfolding final
  same_state = enough (well b ok) few_each_way k l

  same_run : run_table b k ≡ run_table b enough_rounds
  unfolding run_table
  same_run = rw same_state

  pub same_answer : (table : List ℕ) → run_answer b k table ≡ run_answer b enough_rounds table
  unfolding run_answer
  same_answer table = rw same_run

  pub same_table : (table : List ℕ) → table_after b k table ≡ table_after b enough_rounds table
  unfolding table_after filled_table long_run_table
  same_table table = rw (same_run, same_state)
