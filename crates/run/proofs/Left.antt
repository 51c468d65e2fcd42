-- What a run of an accepted sheet with a table in either form leaves: what every table of a run delivers, and of the whole run that it has ended.
use Rattle.std.specs.Prelude.{if◌then◌else◌}
use Prim.Native.Nat.{ℕ}
use mathlib.Core.Bool.{Bool, false}
use mathlib.Core.Path.{◌≡◌, sym, ap, subst, ◌∙◌}
use mathlib.Core.List.{List}
use lib.ListN.{length}
use Rattle.sheet.specs.Sections.{node_count, arc_count}
use Rattle.answer.specs.Answer.{Answer, ended, paused}
use Rattle.judgement.specs.Judgement.{Accepted}
use Rattle.procedure.specs.Procedure.{enough_rounds}
use Rattle.calls.specs.Tables.{table_length, long_length, wrong_length, status_says, status_in}
use Rattle.calls.specs.Runs.{ended_after, run_answer, table_after, Delivered, DeliveredLong}
use Rattle.calls.proofs.Outcome.{usual_right, long_right, status_says_lem, made, filled_usual, filled_long}
use Rattle.theory_calls.proofs.Delivered.{delivered, delivered_long, run_ends}

module _ (b : List ℕ) (ok : Accepted b) (table : List ℕ) where
  -- the table at exit, in the usual form and in the longer one
  pub left_usual : (k : ℕ) {table' : List ℕ} → length table ≡ table_length (node_count b) → table' ≡ table_after b k table → Delivered b k table'
  left_usual k room e =
      subst (λ (t : List ℕ). Delivered b k t) (sym (filled_usual b k table room) ∙ (made b k table ok (usual_right b table room)).1 ∙ sym e) (delivered b ok k)

  pub left_long : (k : ℕ) {table' : List ℕ} → length table ≡ long_length (node_count b) (arc_count b) → table' ≡ table_after b k table
      → DeliveredLong b k table'
  left_long k room e =
      subst (λ (t : List ℕ). DeliveredLong b k t) (sym (filled_long b k table room) ∙ (made b k table ok (long_right b table room)).1 ∙ sym e)
      (delivered_long b ok k)

  -- of a table of a right length, which is left as it delivers
  module _ (right : wrong_length b table ≡ false) {k : ℕ} {table' : List ℕ} {answer : Answer} (says : answer ≡ run_answer b k table)
      (D : Delivered b k table') where
    by_status : answer ≡ (if ended_after b k then ended else paused)
    by_status = says ∙ sym (made b k table ok right).0

    -- the answer is what the table at exit says
    pub as_it_says : answer ≡ status_says (status_in table')
    as_it_says = by_status ∙ sym (ap status_says D.status ∙ status_says_lem (ended_after b k))

    -- the run to its end has ended
    pub ended_run : k ≡ enough_rounds → (answer ≡ ended) × (status_in table' ≡ 1)
    ended_run all =
        let over = ap (ended_after b) all ∙ run_ends b ok in
        (by_status ∙ ap (λ (x : Bool). if x then ended else paused) over, D.status ∙ ap (λ (x : Bool). if x then 1 else 0) over)
