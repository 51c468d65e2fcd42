-- What the calls on a sheet share: the refusals of the sheet itself are looked at first; and what those share that write bytes. Definitions.
use Rattle.std.specs.Prelude.{ℕ, List, [], ◌∷◌, ◌++◌, length, drop, ltb, if◌then◌else◌}
use Rattle.answer.specs.Answer.{input, Answer, written, Case, ◌when◌, is_refused, lowest}

-- A call with all that is lent to it: the refusals that it looks at where none of the sheet's own applies, what it answers where these do not apply
-- either, and what was lent as it is left by an answer
pub record Call : Type 0 where
  pub later : List Case
  pub good : Answer
  pub leaves : Answer → List ℕ

-- of a sheet whose own refusals are these
module _ (own : List Case) (call : Call) where
  abbrev pub call_refusals : List Case
  call_refusals = own ++ call.later

  abbrev pub call_answer : Answer
  call_answer = lowest call_refusals call.good

  abbrev pub lent_after : List ℕ
  lent_after = call.leaves call_answer

-- A call that writes bytes `made` of a sheet into a lent buffer (2026-04, 2026-09). "New numbers: 31, output buffer shorter than what is to be written, after
-- 14. This and every later new number says input or state as the number it is placed by does." "It fills the front of a lent byte buffer, the rest stays, and
-- its byte length is returned."; of a refusal, "Nothing lent changes."
abbrev pub write_call : List ℕ → List ℕ → Call
write_call made out = record {
  later = input 31 when ltb (length out) (length made) ∷ [];
  good = written (length made);
  leaves = λ answer. if is_refused answer then out else made ++ drop (length made) out;
}
