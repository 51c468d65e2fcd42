-- The word of a region that is kept, with its parent and its arc under their new numbers, at the place of its own.
use Rattle.std.specs.Prelude.{if◌then◌else◌}
use Prim.Native.Nat.{ℕ, suc, ◌+◌, ◌*◌, ◌<◌, ◌≤◌}
use mathlib.Core.Bool.{true, false, not}
use mathlib.Core.List.{List, [], ◌∷◌}
use mathlib.Core.Path.{◌≡◌, sym, ap, ◌∙◌}
use borrow.Author.Tests.{eq-eqb, ne_eqb}
use native.Mathlib.Omega.{arith}
use lib.ListN.{length}
use lib.Dec.{eqb}
use Rattle.indices.specs.Columns.{at}
use Rattle.indices.specs.Tests.{count}
use Rattle.indices.proofs.Selected.{number_below}
use Rattle.sheet.specs.Limits.{arc_numbers, region_numbers}
use Rattle.sheet.specs.Words.{words}
use Rattle.sheet.specs.Sections.{region_words}
use Rattle.sheet.specs.Regions.{leaf_word, parent_word, arc_word, region_word}
use Rattle.sheet_writer.specs.Words.{words_put}
use Rattle.sheet_writer.proofs.Words.{put_none}
use Rattle.judgement.specs.Judgement.{Convertible}
use Rattle.judgement.proofs.Parents.{parent_le}
use Rattle.conversion.specs.Converted.{kept_arc, kept_region, new_arc, new_region, new_word, converted_regions}
use Rattle.conversion.proofs.Regions.{leaf_kept, parent_kept, new_of_word, new_le, new_arc_le, regions_long}
use Rattle.conversion_numbers.specs.Numbers.{dropped, ArcsNumbered, Numbered}
use Rattle.conversion_numbers.proofs.Numbering.{number_kept, number_tells}
use Rattle.conversion_numbers.proofs.regions.Regions.{few, parents, arc_there}
use Rattle.conversion_words.specs.Writing.{RegionsWritable}

-- how many of the words before word k are kept
abbrev pub before : List ℕ → ℕ → ℕ
before b k = count (λ j. kept_region b (suc j)) k

-- the word of region k + 1, if it is kept
abbrev pub word_if_kept : List ℕ → ℕ → List ℕ
word_if_kept b k = if kept_region b (suc k) then new_word b k ∷ [] else []

module _ {b d arcs regions : List ℕ} (N : Numbered b d arcs regions) (k : ℕ) (l : k < words d) where
  abbrev A : ArcsNumbered b d arcs
  A = N.arcs_numbered

  abbrev ok : Convertible b
  ok = A.convertible

  same_words : words d ≡ words (region_words b)
  same_words = ap words A.words_of

  -- WHETHER IT IS KEPT
  entry : at regions (k + 1) ≡ at regions (suc k)
  entry = ap (at regions) (let e : k + 1 ≡ suc k = omega arith in e)

  tells : not (eqb (at regions (k + 1)) dropped) ≡ kept_region b (suc k)
  tells = number_tells (kept_region b) (suc k) (at regions (k + 1)) (omega (arith, few A)) (entry ∙ N.region_numbers_lem.entry (suc k) (omega arith))

  pub region_dropped : at regions (k + 1) ≡ dropped → kept_region b (suc k) ≡ false
  region_dropped e = sym tells ∙ ap not (eq-eqb (at regions (k + 1)) dropped e)

  pub region_kept : (at regions (k + 1) ≡ dropped → ⊥) → kept_region b (suc k) ≡ true
  region_kept e = sym tells ∙ ap not (ne_eqb (at regions (k + 1)) dropped e)

  pub region_place : k + 1 < region_numbers
  region_place = omega (arith, few A)

  -- its parent is a region before it
  pub parent_before : parent_word d k ≤ k
  parent_before = parent_le d (parents A) k l

  pub parent_place : parent_word d k < region_numbers
  parent_place = omega (arith, few A, parent_before)

  module _ (kept : kept_region b (suc k) ≡ true) where
    -- ITS NUMBER is one more than how many words before it are kept
    pub number_is : at regions (k + 1) ≡ suc (before b k)
    unfolding new_region
    number_is = entry ∙ N.region_numbers_lem.entry (suc k) (omega arith) ∙ number_kept (kept_region b) (suc k) kept ∙ new_of_word b ok k

    pub before_few : before b k < length (converted_regions b)
    before_few = omega (arith, regions_long b ok, number_below (λ j. kept_region b (suc j)) k (words (region_words b)) (omega (arith, same_words)) kept)

    -- ITS PARENT, which a word names, is kept
    module _ (p : ℕ) (is : p ≡ parent_word d k) where
      parent_number : at regions p ≡ new_region b p
      unfolding new_region
      parent_number =
          let above : kept_region b (parent_word d k) ≡ true = rw A.words_of (parent_kept b ok k (omega (arith, same_words)) kept) in
          N.region_numbers_lem.entry p (omega (arith, parent_before)) ∙ number_kept (kept_region b) p (ap (kept_region b) is ∙ above)

      pub parent_small : at regions p < region_numbers
      parent_small = omega (arith, parent_number, new_le b ok p, parent_place)

      pub inner_word : leaf_word d k ≡ false → region_word false (at regions p) 0 ≡ new_word b k
      unfolding new_word
      inner_word inner = rw (← A.words_of, inner, parent_number, is)

      -- and so is its arc, of a leaf
      module _ (leaf : leaf_word d k ≡ true) (a : ℕ) (of : a ≡ arc_word d k) where
        arc_number : at arcs a ≡ new_arc b a
        unfolding new_arc
        arc_number =
            let arc : kept_arc b (arc_word d k) ≡ true =
            rw A.words_of (sym (leaf_kept b ok k (omega (arith, same_words)) (rw (← A.words_of) leaf)) ∙ kept) in
            A.arc_numbers_lem.entry a (omega (arith, arc_there A k l leaf)) ∙ number_kept (kept_arc b) a (ap (kept_arc b) of ∙ arc)

        pub arc_small : a < arc_numbers → at arcs a < arc_numbers
        arc_small low = omega (arith, arc_number, new_arc_le b ok a)

        pub leaf_word_lem : region_word true (at regions p) (at arcs a) ≡ new_word b k
        unfolding new_word
        leaf_word_lem = rw (← A.words_of, leaf, parent_number, is, arc_number, of)

module _ {b d arcs regions : List ℕ} (N : Numbered b d arcs regions) (k : ℕ) (l : k < words d) where
  -- nothing is written of a region that is not kept
  pub none_written : (out : List ℕ) (place : ℕ) → at regions (k + 1) ≡ dropped → out ≡ words_put out (place + before b k) (word_if_kept b k)
  none_written out place e = rw (region_dropped N k l e) (sym (put_none out (place + before b k)))

  module _ (e : at regions (k + 1) ≡ dropped → ⊥) where
    -- the place of its word
    pub word_place : (place i : ℕ) → i ≡ at regions (k + 1) → place + i ≡ place + before b k + 1
    word_place place i is = omega (arith, number_is N k l (region_kept N k l e))

    pub word_room : (place size : ℕ) → 4 * (place + length (converted_regions b)) ≤ size → 4 * (place + before b k) + 4 ≤ size
    word_room place size room = omega (arith, before_few N k l (region_kept N k l e))

    pub word_written : (out : List ℕ) {out' : List ℕ} (place i w : ℕ) → i ≡ place + before b k → w ≡ new_word b k → out' ≡ words_put out i (w ∷ [])
        → out' ≡ words_put out (place + before b k) (word_if_kept b k)
    word_written out place i w to is e' = e' ∙ rw (to, is, region_kept N k l e)

-- a buffer as long as that
pub regions_still : {b d arcs regions out now : List ℕ} {place : ℕ} → RegionsWritable b d arcs regions out place → length now ≡ length out
    → RegionsWritable b d arcs regions now place
regions_still W same = record { numbered = W.numbered; room = omega (arith, W.room) }
