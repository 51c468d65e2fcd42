-- What is claimed of resuming holds of every accepted sheet.
use Prim.Native.Nat.{ℕ}
use mathlib.Core.Path.{◌≡◌, sym, ap, ◌∙◌}
use mathlib.Core.List.{List}
use Rattle.sheet.specs.Sections.{span_count}
use Rattle.judgement.specs.Judgement.{Accepted}
use Rattle.theory_shortest.proofs.WellFormed.{accepted_well_formed}
use Rattle.calls.specs.Tables.{status_says, status_in}
use Rattle.calls.specs.Runs.{long_run_table}
use Rattle.calls.specs.Resume.{resume_answer, resume_table}
use Rattle.calls.specs.InParts.{Standing, Resumes}
use Rattle.calls.proofs.Formed.{formed}
use Rattle.calls.proofs.Possible.{test_possible, possible_test}
use Rattle.calls.proofs.Resume.{table_says, standing_made}
use Rattle.theory_resume.proofs.Resumed.{left_standing, table_in_parts, answer_in_parts, run_standing, run_counts, run_resumed}
use Rattle.theory_resume.proofs.Written.{none_more, ended_more}
use Rattle.theory_resume.proofs.SameHall.{same_standing}
use Rattle.theory_resume.proofs.Changed.{changed}

-- a table that is let in is answered as the table left says
answers_as_left : (b table : List ℕ) → Standing b table → (k : ℕ) → resume_answer b table k ≡ status_says (status_in (resume_table b table k))
answers_as_left b table S k =
    let done = standing_made b table k S in
    sym done.0 ∙ sym (table_says b table k) ∙ ap (λ (t : List ℕ). status_says (status_in t)) done.1

pub resumes : (b : List ℕ) → Accepted b → Resumes b
resumes b ok = record {
  stands = λ table right. (
    λ S. test_possible (accepted_well_formed b ok).graph (span_count b) table S.possible,
    λ p. record {
      accepted = ok;
      formed = right;
      possible = possible_test (accepted_well_formed b ok).graph (span_count b) table (formed b table right).status p;
    },
  );
  run_standing = λ b' ok' same k. same_standing b b' ok ok' same (long_run_table b k) (run_standing b ok k);
  run_counts = run_counts b ok;
  resume_standing = λ table S small b' ok' same k. same_standing b b' ok ok' same (resume_table b table k) (left_standing b table S k small);
  run_parts = run_resumed b ok;
  parts = λ table S small k m. (table_in_parts b table S k small m, answer_in_parts b table S k small m);
  answers = answers_as_left b;
  none_more = none_more b;
  ended_more = ended_more b;
  changed = changed b;
}
