-- What the call that converts a sheet answers and leaves, case by case: a refused sheet, a buffer that is too short, one that has room. 35 is not looked at.
use Prim.Native.Nat.{ℕ, ◌≤◌, ◌<◌}
use mathlib.Core.Bool.{false}
use mathlib.Core.Path.{◌≡◌}
use mathlib.Core.List.{List, ◌++◌}
use lib.ListN.{length, drop}
use Rattle.answer.specs.Answer.{Refusal, input, written, refused}
use Rattle.judgement.specs.Judgement.{other_refusals, judgement_by, Convertible}
use Rattle.conversion.specs.Converted.{converted}
use Rattle.calls.specs.Convert.{convert_answer, convert_out}
use Rattle.calls.proofs.Writing as writing

module _ (b out : List ℕ) where
  pub refused_sheet : (r : Refusal) → judgement_by false b ≡ refused r → (convert_answer b out ≡ refused r) × (convert_out b out ≡ out)
  unfolding judgement_by convert_answer convert_out
  refused_sheet r e = writing.own_refused (other_refusals b) (converted b) out r e

  module _ (ok : Convertible b) where
    pub too_short : length out < length (converted b) → (convert_answer b out ≡ refused (input 31)) × (convert_out b out ≡ out)
    unfolding judgement_by convert_answer convert_out
    too_short l = writing.no_room (other_refusals b) (converted b) out ok.judged l

    pub has_room : length (converted b) ≤ length out
        → (convert_answer b out ≡ written (length (converted b))) × (convert_out b out ≡ converted b ++ drop (length (converted b)) out)
    unfolding judgement_by convert_answer convert_out
    has_room l = writing.has_room (other_refusals b) (converted b) out ok.judged l
