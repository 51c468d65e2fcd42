-- What is written of a sheet, case by case: a refused sheet, and one that is converted, for which a buffer of as many bytes as a sheet may have has room.
use Prim.Native.Nat.{ℕ, ◌%◌, ◌≤◌}
use mathlib.Core.Bool.{false, not}
use mathlib.Core.List.{List, [], ◌∷◌}
use mathlib.Core.Path.{◌≡◌, refl, sym, ap, ◌∙◌}
use native.Mathlib.Omega.{arith}
use borrow.Author.Tests.{ltb-false}
use lib.ListN.{length}
use lib.Dec.{ltb, eqb}
use Rattle.indices.proofs.Steps.{by_truth}
use Rattle.indices.proofs.Tests.{or_right}
use Rattle.sheet.specs.Limits.{most_bytes}
use Rattle.answer.specs.Answer.{Refusal, number_of, accepted, written, refused, Case, lowest}
use Rattle.answer.specs.Inner.{figure_of}
use Rattle.judgement.specs.Form.{wrong_size}
use Rattle.judgement.specs.Judgement.{other_refusals, judgement_by, Convertible}
use Rattle.judgement.proofs.Accepted.{none_applies}
use Rattle.conversion.specs.Converted.{converted}
use Rattle.conversion.proofs.Accepted.{no_longer}
use Rattle.calls.specs.Convert.{convert_answer, convert_out}
use Rattle.calls.proofs.Convert.{refused_sheet, has_room}
use Rattle.listing.specs.Listing.{refused_line}
use Rattle.listing.specs.Printed.{Filled, converted_text}

-- a list of refusals refuses nothing, or something
refuses_or_not : {P : Type 0} (xs : List Case) → (lowest xs accepted ≡ accepted → P) → ((r : Refusal) → lowest xs accepted ≡ refused r → P) → P
refuses_or_not [] clear stop = clear refl
refuses_or_not (x ∷ xs) clear stop =
    by_truth x.applies (λ h. stop x.refusal (rw h)) (λ h. refuses_or_not xs (λ e. clear (rw h e)) (λ r e. stop r (rw h e)))

refused≢written : (r : Refusal) (n : ℕ) → refused r ≡ written n → ⊥
refused≢written r n e = let z : ◌≡◌ {A = ℕ} 0 1 = cc in omega arith

module _ (b : List ℕ) where
  judged : {P : Type 0} → (Convertible b → P) → ((r : Refusal) → judgement_by false b ≡ refused r → P) → P
  unfolding judgement_by
  judged good stop = refuses_or_not (other_refusals b) (λ e. good (record { judged = e })) stop

  few_bytes : Convertible b → length (converted b) ≤ most_bytes
  unfolding wrong_size
  few_bytes ok =
      let few = ltb-false most_bytes (length b) (or_right (not (eqb (length b % 4) 0)) (ltb most_bytes (length b)) (none_applies b ok).size) in
      omega (arith, no_longer b ok)

module _ (b out : List ℕ) (room : most_bytes ≤ length out) where
  -- the line of a refusal is that of the judge with 35 left out: the buffer is never too short
  pub line_written : (r : Refusal) {after : List ℕ} {n : ℕ} → refused r ≡ convert_answer b out
      → Filled (convert_out b out) (refused_line (number_of r)) after n → Filled out (converted_text b) after n
  unfolding converted_text
  line_written r said line =
      judged b
      (λ ok. absurd (refused≢written r (length (converted b)) (said ∙ (has_room b out ok (omega (arith, few_bytes b ok))).0)))
      (λ s e. let done = refused_sheet b out s e in rw (e ∙ sym done.0 ∙ sym said) (rw done.1 at line))

  -- what is written else is the converted sheet
  pub sheet_written : (n : ℕ) → written n ≡ convert_answer b out → Filled out (converted_text b) (convert_out b out) n
  unfolding converted_text
  sheet_written n said =
      judged b
      (λ ok.
      let done = has_room b out ok (omega (arith, few_bytes b ok)) in
      rw ok.judged (record { bytes = done.1; count = ap figure_of (said ∙ done.0) }))
      (λ s e. absurd (refused≢written s n (sym (refused_sheet b out s e).0 ∙ sym said)))
