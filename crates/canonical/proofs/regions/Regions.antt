-- The region words of an accepted sheet that are written one after the other, each at the place of its region's new number: with the front they make up the
-- canonical form. Different regions have different places, so a word that is written stays.
use Prim.Native.Nat.{ℕ, suc, ◌+◌, ◌-◌, ◌*◌, ◌≤◌, ◌<◌}
use mathlib.Core.Bool.{Bool, true, false, cond}
use mathlib.Core.Path.{◌≡◌, refl, sym, ap, subst, ◌∙◌}
use mathlib.Core.List.{List, [], ◌∷◌, ◌++◌}
use native.Mathlib.Omega.{arith}
use lib.ListN.{length, drop, length-append}
use Rattle.indices.specs.Columns.{at}
use Rattle.indices.proofs.Steps.{by_order, by_equal}
use Rattle.sheet.specs.Limits.{most_bytes, most_region_words, region_numbers}
use Rattle.sheet.specs.Words.{words, word, top, bytes_of}
use Rattle.sheet.specs.Sections.{regions_at, region_words}
use Rattle.sheet.specs.Regions.{region_count, leaf_word, parent_word, arc_word, region_word}
use Rattle.sheet.proofs.Bytes.{length_bytes}
use Rattle.sheet.proofs.Bounds.{region_words_lem, regions_inside}
use Rattle.sheet_writer.specs.Words.{words_put, WordAt}
use Rattle.sheet_writer.proofs.Words.{put_length, put_here, put_other, put_behind, words_written}
use Rattle.judgement.proofs.Accepted.{front_there, few_region_words}
use Rattle.judgement.proofs.Clear.{few_words}
use Rattle.procedure.specs.Division.{Division, regions, parent}
use Rattle.procedure.specs.OfSheet.{division_of}
use Rattle.procedure.proofs.OfSheet.{division_regions, division_parent, division_arc, division_leaf}
use Rattle.canonical_form.specs.Numbering.{new_number, old_number}
use Rattle.canonical_form.specs.Canonical.{new_word, front_words, new_words, canonical}
use Rattle.canonical_form.proofs.Numbering.{new_in, new_apart, new_old, parent_first}
use Rattle.canonical_form.proofs.Proper.{proper}
use Rattle.canonical_form.proofs.Form.{length_front, length_new, canonical_length, size_right, front_entry, back_entry, region_in, region_later, number_in}
use Rattle.canonical.specs.Writing.{new_region_word, Writable}

-- the arc of an inner region is in no word
same_word : (leaf : Bool) (p a : ℕ) → region_word leaf p (cond leaf a top) ≡ region_word leaf p a
same_word true p a = refl
same_word false p a = refl

-- the words before region word k stand at the places of their regions' new numbers, after the front
pub record Placing (b numbers : List ℕ) (e : ℕ) (before out : List ℕ) (k : ℕ) : Type 0 where
  pub long : length out ≡ length before
  pub front : (i : ℕ) → i < e → WordAt out i (word b i)
  pub placed : (j : ℕ) → j < k → WordAt out (e + at numbers (j + 1) - 1) (new_word (division_of b) (suc j))
  pub kept : (i : ℕ) → length b ≤ i → at out i ≡ at before i

-- what the code asks at region word k
pub record PlacingBounds (d numbers : List ℕ) (e : ℕ) (out : List ℕ) (k : ℕ) : Type 0 where
  pub few : words d ≤ most_region_words
  pub front_few : 4 * e ≤ most_bytes
  pub room : 4 * (e + words d) ≤ length out
  pub parent_few : parent_word d k < region_numbers
  pub parent_in : parent_word d k < length numbers
  pub above_few : at numbers (parent_word d k) < region_numbers
  pub number_in : k + 1 < length numbers
  pub number_some : 0 < at numbers (k + 1)
  pub number_few : at numbers (k + 1) ≤ words d

pub placing_none : {b d numbers : List ℕ} {e : ℕ} {out : List ℕ} → Writable b d numbers e out → Placing b numbers e out out 0
placing_none W = record { long = refl; front = W.front; placed = λ j l. absurd (omega arith); kept = λ i l. refl }

module _ {b d numbers : List ℕ} {e : ℕ} {before : List ℕ} (W : Writable b d numbers e before) where
  abbrev D : Division
  D = division_of b

  as_many : words d ≡ words (region_words b)
  as_many = ap words W.words_of

  -- the front and the region words are the whole sheet
  whole : words b ≡ e + words d
  whole = let two = front_there b W.accepted in omega (arith, region_words_lem b two, regions_inside b two, W.place, as_many)

  -- region word k is that of region k + 1
  module _ (k : ℕ) (l : k < words d) where
    is_region : suc k < region_count (region_words b)
    is_region = omega (arith, as_many)

    inside : suc k < regions D
    inside = omega (arith, as_many, division_regions b)

    parent_is : parent D (suc k) ≡ parent_word d k
    parent_is = division_parent b (suc k) is_region ∙ ap (λ (x : List ℕ). parent_word x k) (sym W.words_of)

    parent_lower : parent D (suc k) < suc k
    parent_lower = (proper b W.accepted).lower (suc k) (omega arith) inside

    number_is : at numbers (k + 1) ≡ new_number D (suc k)
    number_is = ap (at numbers) (let e : k + 1 ≡ suc k = omega arith in e) ∙ W.numbered.same (suc k) inside

    above_is : at numbers (parent_word d k) ≡ new_number D (parent D (suc k))
    above_is = ap (at numbers) (sym parent_is) ∙ W.numbered.same (parent D (suc k)) (omega (arith, parent_lower, inside))

    word_is : new_region_word d k (at numbers (parent_word d k)) ≡ new_word D (suc k)
    unfolding new_word
    word_is =
        rw (above_is, W.words_of)
        (sym (same_word (leaf_word (region_words b) k) (new_number D (parent D (suc k))) (arc_word (region_words b) k))
        ∙ rw (division_leaf b (suc k) is_region, division_arc b (suc k) is_region))

    later : 0 < new_number D (suc k)
    later = omega (arith, parent_first D (proper b W.accepted) (suc k) (omega arith) inside)

  -- different regions have different places
  places_apart : (j k : ℕ) → j < words d → k < words d → e + at numbers (j + 1) - 1 ≡ e + at numbers (k + 1) - 1 → j ≡ k
  places_apart j k lj lk same =
      let e = new_apart D (proper b W.accepted) (suc j) (suc k) (inside j lj) (inside k lk)
      (omega (arith, number_is j lj, number_is k lk, later j lj, later k lk)) in
      omega arith

  module _ (k : ℕ) (l : k < words d) {out : List ℕ} (B : Placing b numbers e before out k) where
    pub placing_bounds : PlacingBounds d numbers e out k
    placing_bounds =
        let P = proper b W.accepted in
        let all = W.numbered.all in
        let count = division_regions b in
        let many = as_many in
        let few = few_region_words b W.accepted in
        let here = inside k l in
        let higher = parent_is k l in
        let lower = parent_lower k l in
        record {
          few = omega arith;
          front_few = omega (arith, whole, few_words b (size_right b W.accepted));
          room = omega (arith, whole, W.room, B.long);
          parent_few = omega arith;
          parent_in = omega arith;
          above_few = omega (arith, above_is k l, new_in D P (parent D (suc k)) (omega arith));
          number_in = omega arith;
          number_some = omega (arith, number_is k l, later k l);
          number_few = omega (arith, number_is k l, new_in D P (suc k) here);
        }

    -- the next one is placed: the word of its region with the new number of the parent
    pub placing_more : (i w p : ℕ) → i ≡ e + at numbers (k + 1) - 1 → w ≡ new_region_word d k p → p ≡ at numbers (parent_word d k)
        → Placing b numbers e before (words_put out i (w ∷ [])) (k + 1)
    placing_more i w p here made anew =
        let f = placing_bounds in
        record {
          long = put_length out i (w ∷ []) ∙ B.long;
          front = λ j lj. put_other out i w j (word b j) (λ same. omega (arith, f.number_some)) (B.front j lj);
          placed =
              λ j lj.
              by_equal j k
              (λ same. rw (same, ← here, ← made ∙ ap (new_region_word d k) anew ∙ word_is k l) (put_here out i w (omega arith)))
              (λ ne.
              put_other out i w (e + at numbers (j + 1) - 1) (new_word D (suc j)) (λ same. ne (places_apart j k (omega arith) l (same ∙ here)))
              (B.placed j (omega arith)));
          kept = λ m lm. put_behind out i (w ∷ []) m (omega (arith, whole)) ∙ B.kept m lm;
        }

  -- all region words are placed
  pub placing_end : {k : ℕ} {out : List ℕ} → words d ≤ k → Placing b numbers e before out k → out ≡ canonical b ++ drop (length b) before
  unfolding canonical
  placing_end {k} {out} end B =
      let ws = front_words b ++ new_words b in
      let count : length ws ≡ words b =
      length-append (front_words b) (new_words b) ∙ omega (arith, length_front b W.accepted, length_new b W.accepted, whole, as_many, W.place) in
      let size : 4 * length ws ≡ length b = sym (length_bytes ws) ∙ canonical_length b W.accepted in
      words_written ws before out B.long (omega (arith, W.room)) (λ i li. at_place i (omega arith)) (λ i li. B.kept i (omega arith))
      ∙ ap (λ (n : ℕ). bytes_of ws ++ drop n before) size
    where
      at_place : (i : ℕ) → i < words b → WordAt out i (at (front_words b ++ new_words b) i)
      at_place i l =
          by_order i (regions_at b) (λ m. rw (front_entry b W.accepted i m) (B.front i (omega (arith, W.place))))
          (λ m.
          let j = i - regions_at b in
          let lj : j < words (region_words b) = omega (arith, whole, as_many, W.place) in
          let r = old_number D (suc j) in
          let later = region_later b W.accepted j lj in
          let there : r ≡ suc (r - 1) = omega arith in
          let lr : r - 1 < words d = omega (arith, region_in b W.accepted j lj, division_regions b, as_many) in
          let number-r : at numbers (r - 1 + 1) ≡ suc j =
          number_is (r - 1) lr ∙ ap (new_number D) (sym there) ∙ new_old D (proper b W.accepted) (suc j) (number_in b W.accepted j lj) in
          let place : e + at numbers (r - 1 + 1) - 1 ≡ i = omega (arith, W.place) in
          let back : i ≡ regions_at b + j = omega arith in
          let entry : at (front_words b ++ new_words b) i ≡ new_word D (suc (r - 1)) =
          ap (at (front_words b ++ new_words b)) back ∙ back_entry b W.accepted j lj ∙ ap (new_word D) there in
          rw entry (subst (λ (x : ℕ). WordAt out x (new_word D (suc (r - 1)))) place (B.placed (r - 1) (omega arith))))
