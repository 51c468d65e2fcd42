-- A sheet without self-arcs is its own conversion: every region is kept, from the last one back, so all numbers are the old ones, and the sheet's sections
-- together are its words. The converted sheet has none, so to convert it again changes nothing.
use Prim.Native.Nat.{ℕ, zero, suc, ◌+◌, ◌*◌, ◌<◌, ◌≤◌}
use mathlib.Core.Bool.{true, false, not}
use mathlib.Core.List.{List, [], ◌∷◌, ◌++◌}
use mathlib.Core.Path.{◌≡◌, refl, sym, ap, ◌∙◌}
use native.Mathlib.Omega.{arith}
use lib.ListN.{length, get_or}
use Rattle.indices.specs.Columns.{column}
use Rattle.indices.proofs.Columns.{column_ext, column_append}
use Rattle.indices.proofs.Steps.{by_truth}
use Rattle.indices.proofs.Tests.{any_at, count_all}
use Rattle.indices.proofs.Selected.{selected_ext, selected_all, selected_pairs}
use Rattle.sheet.specs.Words.{words, word, bytes_of}
use Rattle.sheet.specs.Sections.{span_count, holds_at, hold_count, arcs_at, arc_count, regions_at, region_words}
use Rattle.sheet.specs.Regions.{region_count, leaf_word, parent_word, arc_word, region_word, height}
use Rattle.sheet.proofs.Bounds.{region_words_lem, regions_inside, word_drop}
use Rattle.sheet.proofs.Bytes.{own_words, own_part, own_bytes}
use Rattle.sheet.proofs.RegionWords.{own_fields}
use Rattle.judgement.specs.Arcs.{self_arc, self_arcs}
use Rattle.judgement.specs.Judgement.{Convertible}
use Rattle.judgement.proofs.Clear.{whole_words, leaf_clear}
use Rattle.judgement.proofs.Accepted.{none_applies, accepted_convertible, front_there, region_kinds, leaf_arc_lem, has_child_lem, spans_height, nesting}
use Rattle.conversion.specs.Converted.{kept_arc, new_arc, kept_region, new_region, arc_pair, converted_arcs, new_word, converted_regions}
use Rattle.conversion.specs.Converted.{new_height, converted_spans, converted_holds, converted_words, converted}
use Rattle.conversion.proofs.Regions.{root_kept, leaf_kept, parent_kept}
use Rattle.conversion.proofs.Accepted.{converted_accepted, no_self_arc}

module _ (b : List ℕ) (ok : Convertible b) (none : self_arcs b ≡ false) where
  abbrev d : List ℕ
  d = region_words b

  -- EVERYTHING IS KEPT, under its old number
  all_arcs : (a : ℕ) → a < arc_count b → kept_arc b a ≡ true
  unfolding self_arcs
  all_arcs a l = ap not (any_at (self_arc b) (arc_count b) a none l)

  -- an inner region has a child, which is kept
  all_from : (f r : ℕ) → region_count d ≤ r + f → r < region_count d → kept_region b r ≡ true
  all_from zero r le l = absurd (omega arith)
  all_from (suc f) zero le l = root_kept b ok
  all_from (suc f) (suc k) le l =
      let lk : k < words d = omega arith in
      by_truth (leaf_word d k) (λ e. leaf_kept b ok k lk e ∙ all_arcs (arc_word d k) (leaf_arc_lem b ok k lk e))
      (λ e.
      let c = has_child_lem b ok k lk e in
      let later = (nesting b ok).lower (suc c.0) (omega arith) (omega (arith, c.1)) in
      rw (← c.2) (parent_kept b ok c.0 c.1 (all_from f (suc c.0) (omega (arith, c.2)) (omega (arith, c.1)))))

  all_regions : (r : ℕ) → r < region_count d → kept_region b r ≡ true
  all_regions r l = all_from (region_count d) r (omega arith) l

  same_region : (r : ℕ) → r < region_count d → new_region b r ≡ r
  unfolding new_region
  same_region r l = count_all (kept_region b) r (λ q lq. all_regions q (omega arith))

  same_arc : (a : ℕ) → a < arc_count b → new_arc b a ≡ a
  unfolding new_arc
  same_arc a l = count_all (kept_arc b) a (λ c lc. all_arcs c (omega arith))

  -- THE REGION WORDS
  same_fields : (k : ℕ) → k < words d → new_word b k ≡ region_word (leaf_word d k) (parent_word d k) (arc_word d k)
  unfolding new_word
  same_fields k l =
      rw (same_region (parent_word d k) (omega (arith, (nesting b ok).lower (suc k) (omega arith) (omega arith))))
      (by_truth (leaf_word d k) (λ e. rw (e, same_arc (arc_word d k) (leaf_arc_lem b ok k l e))) (λ e. rw e))

  same_word : (k : ℕ) → k < words d → new_word b k ≡ word d k
  same_word k l = same_fields k l ∙ own_fields d k (region_kinds b ok k l) (leaf_clear b (none_applies b ok).bits k l)

  same_regions : converted_regions b ≡ column (words d) (word d)
  unfolding converted_regions
  same_regions =
      selected_all (λ k. kept_region b (suc k)) (new_word b) (words d) (λ k l. all_regions (suc k) (omega arith))
      ∙ column_ext (words d) (new_word b) (word d) same_word

  -- THE ARCS
  same_arcs : converted_arcs b ≡ column (2 * arc_count b) (λ j. word b (arcs_at b + j))
  unfolding converted_arcs arc_pair
  same_arcs =
      selected_ext (kept_arc b) (kept_arc b) (arc_pair b) (λ a. word b (arcs_at b + 2 * a) ∷ word b (arcs_at b + (2 * a + 1)) ∷ []) (arc_count b) (λ a l. refl)
      (λ a l. ap (λ (i : ℕ). word b (arcs_at b + 2 * a) ∷ word b i ∷ []) (let e : arcs_at b + 2 * a + 1 ≡ arcs_at b + (2 * a + 1) = omega arith in e))
      ∙ selected_pairs (kept_arc b) (λ j. word b (arcs_at b + j)) (arc_count b) all_arcs

  -- THE SHEET'S WORDS, section by section
  section_words : List ℕ
  section_words =
      word b 0 ∷ word b 1 ∷ (column (span_count b) (λ k. word b (2 + k))
      ++ (column (hold_count b) (λ v. word b (holds_at b + v)) ++ (column (2 * arc_count b) (λ j. word b (arcs_at b + j)) ++ column (words d) (word d))))

  in_sections : column (words b) (word b) ≡ section_words
  unfolding column region_words section_words
  in_sections =
      let s = span_count b in
      let h = hold_count b in
      let m = 2 * arc_count b in
      let r = words d in
      let two = front_there b ok in
      let all : words b ≡ 2 + (s + (h + (m + r))) = omega (arith, region_words_lem b two, regions_inside b two) in
      let holds = column_ext h (λ v. word b (2 + (s + v))) (λ v. word b (holds_at b + v))
      (λ v _. ap (word b) (let e : 2 + (s + v) ≡ holds_at b + v = omega arith in e)) in
      let arcs = column_ext m (λ j. word b (2 + (s + (h + j)))) (λ j. word b (arcs_at b + j))
      (λ j _. ap (word b) (let e : 2 + (s + (h + j)) ≡ arcs_at b + j = omega arith in e)) in
      let regions = column_ext r (λ k. word b (2 + (s + (h + (m + k))))) (word d)
      (λ k _. ap (word b) (let e : 2 + (s + (h + (m + k))) ≡ regions_at b + k = omega arith in e) ∙ sym (word_drop b (regions_at b) k)) in
      ap (λ (n : ℕ). column n (word b)) all
      ∙ column_append 2 (s + (h + (m + r))) (word b)
      ∙ ap (λ (l : List ℕ). word b 0 ∷ word b 1 ∷ l)
      (column_append s (h + (m + r)) (λ i. word b (2 + i))
      ∙ ap (λ (l : List ℕ). column s (λ k. word b (2 + k)) ++ l)
      (column_append h (m + r) (λ i. word b (2 + (s + i))) ∙ rw (holds, column_append m r (λ i. word b (2 + (s + (h + i)))), arcs, regions)))

  -- a sheet that is the bytes of its words
  module _ (own : bytes_of (column (words b) (word b)) ≡ b) where
    same_height : new_height b ≡ span_count b
    unfolding new_height region_words
    same_height =
        let again : bytes_of (converted_regions b) ≡ d = ap bytes_of same_regions ∙ own_part b (regions_at b) own in
        ap (λ (d : List ℕ). height d 0) again ∙ sym (spans_height b ok)

    same_words : converted_words b ≡ section_words
    unfolding converted_words converted_spans converted_holds section_words
    same_words = rw (same_height, same_arcs, same_regions)

    unchanged_words : converted b ≡ b
    unfolding converted
    unchanged_words = ap bytes_of (same_words ∙ sym in_sections) ∙ own

  -- a sheet of bytes
  pub unchanged : ((i : ℕ) → i < length b → get_or b i 0 < 256) → converted b ≡ b
  unchanged small = unchanged_words (own_bytes b (whole_words b (none_applies b ok).size) small)

pub converted_again : (b : List ℕ) → Convertible b → converted (converted b) ≡ converted b
unfolding converted
converted_again b ok =
    unchanged_words (converted b) (accepted_convertible (converted b) (converted_accepted b ok)) (no_self_arc b ok) (own_words (converted_words b))
