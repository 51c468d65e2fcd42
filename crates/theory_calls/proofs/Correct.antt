-- Demand 3, whole, holds of every accepted sheet. The run to its end ends, by the theory's potential; every table says what its rounds have reached; two sheets
-- of one hall agree because the tables left as ended are shortest.
use Prim.Native.Nat.{ℕ}
use mathlib.Core.Path.{sym, ◌∙◌}
use mathlib.Core.List.{List}
use Rattle.judgement.specs.Judgement.{Accepted}
use Rattle.procedure.specs.Procedure.{enough_rounds}
use Rattle.calls.specs.Runs.{run_table}
use Rattle.calls.specs.Correct.{Correct}
use Rattle.calls.proofs.Outcome.{usual_right, long_right, table_says, made, filled_usual, filled_long}
use Rattle.theory_calls.proofs.Delivered.{delivered, delivered_long, run_ends}
use Rattle.theory_calls.proofs.Agree.{shortest_agree}

pub correct : (b : List ℕ) → Accepted b → Correct b
correct b ok = record {
  ends = run_ends b ok;
  left_ended = (delivered b ok enough_rounds).status ∙ rw (run_ends b ok);
  leaves = λ k table room.
      let done = made b k table ok (usual_right b table room) in
      (sym done.0 ∙ sym (table_says b k), sym done.1 ∙ filled_usual b k table room);
  leaves_long = λ k table room.
      let done = made b k table ok (long_right b table room) in
      (sym done.0 ∙ sym (table_says b k), sym done.1 ∙ filled_long b k table room);
  tells = delivered b ok;
  tells_long = delivered_long b ok;
  agrees = λ b' ok' same k k' e e'.
      shortest_agree b b' ok ok' same (run_table b k) (run_table b' k') ((delivered b ok k).shortest e) ((delivered b' ok' k').shortest e');
}
