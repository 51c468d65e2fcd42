-- What a call that writes bytes answers and leaves, case by case: a refused sheet, a buffer that is too short, one that has room.
use Rattle.std.specs.Prelude.{if◌then◌else◌}
use Prim.Native.Nat.{ℕ, ◌≤◌, ◌<◌}
use mathlib.Core.Path.{◌≡◌, ap, ◌∙◌}
use mathlib.Core.List.{List, ◌++◌}
use borrow.Author.Tests.{lt-ltb, le-ltb}
use lib.ListN.{length, drop}
use Rattle.answer.specs.Answer.{Refusal, input, Answer, accepted, written, refused, Case, is_refused, lowest}
use Rattle.answer.proofs.Lowest.{lowest_append, lowest_clear, lowest_stop}
use Rattle.calls.specs.Calls.{Call, call_answer, lent_after, write_call}

-- of a sheet whose own refusals are these, and of which these bytes are made
module _ (own : List Case) (made out : List ℕ) where
  abbrev call : Call
  call = write_call made out

  -- what is answered, and the buffer that goes with it
  abbrev Done : Answer → List ℕ → Type 0
  Done answer left = (call_answer own call ≡ answer) × (lent_after own call ≡ left)

  done : (answer : Answer) → call_answer own call ≡ answer → Done answer (if is_refused answer then out else made ++ drop (length made) out)
  done answer e = (e, ap call.leaves e)

  -- the refusals of the sheet are looked at before the buffer
  sheet_first : call_answer own call ≡ lowest own (lowest call.later call.good)
  sheet_first = lowest_append own call.later call.good

  -- a refused sheet: the answer is the judge's, and the buffer stays
  pub own_refused : (r : Refusal) → lowest own accepted ≡ refused r → Done (refused r) out
  own_refused r e = done (refused r) (sheet_first ∙ lowest_stop own _ r e)

  module _ (clear : lowest own accepted ≡ accepted) where
    buffer_decides : call_answer own call ≡ lowest call.later call.good
    buffer_decides = sheet_first ∙ lowest_clear own _ clear

    -- a buffer that is too short: 31, and it stays
    pub no_room : length out < length made → Done (refused (input 31)) out
    no_room l = done (refused (input 31)) (buffer_decides ∙ rw (lt-ltb (length out) (length made) l))

    -- otherwise the bytes are written
    pub has_room : length made ≤ length out → Done (written (length made)) (made ++ drop (length made) out)
    has_room l = done (written (length made)) (buffer_decides ∙ rw (le-ltb (length out) (length made) l))
