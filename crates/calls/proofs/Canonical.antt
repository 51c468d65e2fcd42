-- What the call for the canonical form answers and leaves, case by case: a refused sheet, a buffer that is too short, one that has room. The form is as long as
-- the sheet.
use Prim.Native.Nat.{ℕ, ◌≤◌, ◌<◌}
use mathlib.Core.Path.{◌≡◌, subst}
use mathlib.Core.List.{List, ◌++◌}
use lib.ListN.{length, drop}
use Rattle.answer.specs.Answer.{Refusal, input, written, refused}
use Rattle.judgement.specs.Judgement.{refusals, judgement_by, judgement, Accepted}
use Rattle.canonical_form.specs.Canonical.{canonical}
use Rattle.canonical_form.proofs.Form.{canonical_length}
use Rattle.calls.specs.Canonical.{canonical_answer, out_after}
use Rattle.calls.proofs.Writing as writing

module _ (b out : List ℕ) where
  pub refused_sheet : (r : Refusal) → judgement b ≡ refused r → (canonical_answer b out ≡ refused r) × (out_after b out ≡ out)
  unfolding judgement_by canonical_answer out_after
  refused_sheet r e = writing.own_refused (refusals b) (canonical b) out r e

  -- the form is as long as the sheet
  module _ (ok : Accepted b) where
    pub too_short : length out < length b → (canonical_answer b out ≡ refused (input 31)) × (out_after b out ≡ out)
    unfolding judgement_by canonical_answer out_after
    too_short l = writing.no_room (refusals b) (canonical b) out ok.judged (rw (canonical_length b ok) l)

    pub has_room : length b ≤ length out → (canonical_answer b out ≡ written (length b)) × (out_after b out ≡ canonical b ++ drop (length b) out)
    unfolding judgement_by canonical_answer out_after
    has_room l =
        subst (λ (n : ℕ). n ≤ length out → (canonical_answer b out ≡ written n) × (out_after b out ≡ canonical b ++ drop n out)) (canonical_length b ok)
        (writing.has_room (refusals b) (canonical b) out ok.judged) l
