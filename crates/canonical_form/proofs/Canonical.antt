-- The canonical form of an accepted sheet: two sheets have the same exactly when they are alike, so it is its own, and its regions have the numbers that
-- they would get.
use Prim.Native.Nat.{ℕ, suc, ◌+◌, ◌<◌}
use mathlib.Core.Path.{◌≡◌, refl, sym, ap, subst, ◌∙◌}
use mathlib.Core.Logic.{◌↔◌}
use mathlib.Core.List.{List}
use native.Mathlib.Omega.{arith}
use Rattle.indices.specs.Columns.{column}
use Rattle.indices.proofs.Columns.{column_ext}
use Rattle.sheet.specs.Words.{words, word}
use Rattle.sheet.specs.Sections.{regions_at, region_words}
use Rattle.judgement.specs.Judgement.{Accepted}
use Rattle.procedure.specs.Division.{regions, parent}
use Rattle.procedure.specs.OfSheet.{division_of}
use Rattle.procedure.proofs.OfSheet.{division_regions}
use Rattle.canonical_form.specs.Numbering.{new_number, old_number, rise, Preorder}
use Rattle.canonical_form.specs.Canonical.{new_word, front_words, new_words, canonical}
use Rattle.canonical_form.specs.Alike.{SameNesting, Alike}
use Rattle.canonical_form.proofs.Invariance.{turned, composed, new_same, new_word_same}
use Rattle.canonical_form.proofs.Proper.{proper}
use Rattle.canonical_form.proofs.Form.{front_word, same_regions_at, same_nesting, to_new}
use Rattle.canonical_form.proofs.Numbering.{old_in, new_old}
use Rattle.canonical_form.proofs.Preorder.{preorder}
use Rattle.canonical_form.proofs.Accepted.{canonical_accepted}
use Rattle.canonical_form.proofs.Shared.{shared_front}

-- the words up to the last arc are as given
front_same : (b : List ℕ) → Accepted b → front_words (canonical b) ≡ front_words b
unfolding front_words
front_same b ok =
    ap (λ (n : ℕ). column n (word (canonical b))) (same_regions_at b ok)
    ∙ column_ext (regions_at b) (word (canonical b)) (word b) (front_word b ok)

module _ (b b' : List ℕ) (ok : Accepted b) (ok' : Accepted b') where
  new_words_same : SameNesting (division_of b) (division_of b') → new_words b ≡ new_words b'
  unfolding new_words
  new_words_same S =
      let d = division_of b in
      let d' = division_of b' in
      let count : words (region_words b) ≡ words (region_words b') = omega (arith, S.as_many, division_regions b, division_regions b') in
      column_ext (words (region_words b)) (λ k. new_word d (old_number d (suc k))) (λ k. new_word d' (old_number d' (suc k)))
      (λ k l. sym (new_word_same (proper b ok) (proper b' ok') S (suc k) (omega arith) (omega (arith, division_regions b))))
      ∙ ap (λ (n : ℕ). column n (λ k. new_word d' (old_number d' (suc k)))) count

  same_canonical : front_words b ≡ front_words b' → SameNesting (division_of b) (division_of b') → canonical b ≡ canonical b'
  unfolding canonical
  same_canonical front S = rw (front, new_words_same S)

  -- "Two sheets have the same neat copy exactly when they share nodes, source, spans, arcs and nesting, chains of single children counted."
  pub canonical_same : (canonical b ≡ canonical b') ↔ Alike b b'
  canonical_same = (
    λ e. record {
      shared =
          shared_front b ok ∙ sym (front_same b ok) ∙ ap front_words e ∙ front_same b' ok' ∙ sym (shared_front b' ok');
      nesting =
          composed (same_nesting b ok)
          (subst (λ (c : List ℕ). SameNesting (division_of c) (division_of b')) (sym e) (turned (proper b' ok') (same_nesting b' ok')));
    },
    λ alike. same_canonical (sym (shared_front b ok) ∙ alike.shared ∙ shared_front b' ok') alike.nesting,
  )

-- a number in the canonical form is that which its region would get
own_number : (b : List ℕ) → Accepted b → (m : ℕ) → m < regions (division_of (canonical b)) → new_number (division_of (canonical b)) m ≡ m
own_number b ok m l =
    let d = division_of b in
    let P = proper b ok in
    let S = same_nesting b ok in
    let lm : m < regions d = omega (arith, S.as_many) in
    let r = old_number d m in
    let lr = old_in d P m lm in
    let here : S.to r ≡ m = to_new b ok r ∙ new_old d P m lm in
    ap (new_number (division_of (canonical b))) (sym here) ∙ new_same P (proper (canonical b) (canonical_accepted b ok)) S r lr ∙ new_old d P m lm

-- "The neat copy is accepted and is its own neat copy."
pub canonical_stable : (b : List ℕ) → Accepted b → canonical (canonical b) ≡ canonical b
canonical_stable b ok =
    same_canonical (canonical b) b (canonical_accepted b ok) ok (front_same b ok) (turned (proper b ok) (same_nesting b ok))

-- The regions of the canonical form are numbered as the request says: each has in it the number that it would get.
pub canonical_numbered : (b : List ℕ) → Accepted b → Preorder (division_of (canonical b)) (λ r. r)
canonical_numbered b ok =
    let P' = proper (canonical b) (canonical_accepted b ok) in
    let N = preorder (division_of (canonical b)) P' in
    record {
      root = refl;
      step = λ c pos l.
          let inside : parent (division_of (canonical b)) c < regions (division_of (canonical b)) = omega (arith, P'.lower c pos l) in
          sym (own_number b ok c l)
          ∙ N.step c pos l
          ∙ ap (λ (n : ℕ). n + rise (division_of (canonical b)) c) (own_number b ok (parent (division_of (canonical b)) c) inside);
    }
