-- What the call for the canonical form of a sheet answers, what it leaves in the buffer, and what is claimed of it. Definitions.
use Rattle.std.specs.Prelude.{ℕ, ◌≤◌, ◌<◌, ◌≡◌, ◌↔◌, List, ◌++◌, length, drop}
use Rattle.answer.specs.Answer.{input, Answer, written, refused}
use Rattle.judgement.specs.Judgement.{refusals, Accepted}
use Rattle.procedure.specs.OfSheet.{division_of}
use Rattle.canonical_form.specs.Numbering.{Preorder}
use Rattle.canonical_form.specs.Canonical.{canonical}
use Rattle.canonical_form.specs.Alike.{Alike}
use Rattle.calls.specs.Calls.{Call, call_answer, lent_after, write_call}
use Rattle.calls.specs.Tables.{status_in}
use Rattle.calls.specs.Runs.{run_table}
use Rattle.calls.specs.Correct.{SameDistances}

-- "Write an accepted sheet anew"
abbrev pub canonical_call : List ℕ → List ℕ → Call
canonical_call b out = write_call (canonical b) out

unfoldable pub canonical_answer : List ℕ → List ℕ → Answer
canonical_answer b out = call_answer (refusals b) (canonical_call b out)

-- the buffer at exit
unfoldable pub out_after : List ℕ → List ℕ → List ℕ
out_after b out = lent_after (refusals b) (canonical_call b out)

-- What is claimed of the canonical form of every accepted sheet.
pub record Copies (b : List ℕ) : Type 0 where
  -- it has the sheet's own length, so a buffer of that length is long enough, ..
  pub long : length (canonical b) ≡ length b
  -- .. stands at the front of the buffer, and its byte length is answered; a shorter buffer is 31
  pub leaves : (out : List ℕ) → length b ≤ length out
      → (canonical_answer b out ≡ written (length b)) × (out_after b out ≡ canonical b ++ drop (length b) out)
  pub short : (out : List ℕ) → length out < length b → (canonical_answer b out ≡ refused (input 31)) × (out_after b out ≡ out)
  -- "regions numbered parent first and depth first from region 0, children in order of the lowest arc number they hold": so its own regions are numbered
  pub numbered : Preorder (division_of (canonical b)) (λ r. r)
  -- "The neat copy is accepted and is its own neat copy."
  pub accepted : Accepted (canonical b)
  pub own : canonical (canonical b) ≡ canonical b
  -- "Two sheets have the same neat copy exactly when they share nodes, source, spans, arcs and nesting, chains of single children counted."
  pub exactly : (b' : List ℕ) → Accepted b' → (canonical b ≡ canonical b') ↔ Alike b b'
  -- their tables need not be the same, since ties between regions of one height go by number, but once they are left as ended they have the same distances
  pub distances : (b' : List ℕ) → Accepted b' → canonical b ≡ canonical b' → (k k' : ℕ) → status_in (run_table b k) ≡ 1 → status_in (run_table b' k') ≡ 1
      → SameDistances b (run_table b k) b' (run_table b' k')
