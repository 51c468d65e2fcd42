-- Refusals 11 to 13 do not apply to the region words of the converted sheet: each region that is kept has its parent, its arc and its children under new
-- numbers, which are in the old order.
use Prim.Native.Nat.{ℕ, zero, suc, ◌<◌, ◌≤◌}
use mathlib.Core.Bool.{Bool, true, false, ◌&&◌, and-false}
use mathlib.Core.List.{List}
use mathlib.Core.Path.{◌≡◌, sym, ap, ◌∙◌}
use borrow.Author.Tests.{eqb-true, eq-eqb, ne_eqb, le-ltb, lt-leb}
use native.Mathlib.Omega.{arith}
use lib.Dec.{eqb}
use Rattle.indices.specs.Tests.{any, count}
use Rattle.indices.proofs.Steps.{by_truth}
use Rattle.indices.proofs.Tests.{any_false, count_le, count_nth, count_ext, count_hit, and_left, and_right}
use Rattle.indices.proofs.Selected.{number_below, number_same, count_left}
use Rattle.sheet.specs.Limits.{most_region_words}
use Rattle.sheet.specs.Words.{words, top, bytes_of}
use Rattle.sheet.specs.Sections.{arc_count, region_words}
use Rattle.sheet.specs.Inner.{Nesting}
use Rattle.sheet.specs.Regions.{region_count, leaf_word, parent_word, arc_word, is_leaf, parent}
use Rattle.judgement.specs.Division.{wrong_parent, wrong_parents, no_such_arc, leaf_of_arc, not_one_leaf, wrong_leaves, child_of, childless, childless_regions}
use Rattle.judgement.specs.Judgement.{Convertible}
use Rattle.judgement.proofs.Accepted.{nesting, few_region_words, leaf_arc_lem, one_leaf}
use Rattle.judgement.proofs.Parents as parents
use Rattle.conversion.specs.Converted.{kept_arc, new_arc, kept_region, new_region, converted_regions}
use Rattle.conversion.proofs.Regions as regions

module _ (b : List ℕ) (ok : Convertible b) where
  abbrev d : List ℕ
  d = region_words b

  abbrev d' : List ℕ
  d' = bytes_of (converted_regions b)

  abbrev kept_word : ℕ → Bool
  kept_word k = kept_region b (suc k)

  -- what does not apply at the new place of each word that is kept applies to no word
  pub at_each : (p : ℕ → Bool) → ((k : ℕ) → k < words d → kept_word k ≡ true → p (count kept_word k) ≡ false) → any p (words d') ≡ false
  at_each p h = any_false p (words d') (λ j l. let q = regions.old_word b ok j l in ap p (sym q.3) ∙ h q.0 q.1 q.2)

  -- 11
  parent_right : (k : ℕ) → k < words d → kept_word k ≡ true → wrong_parent d' (count kept_word k) ≡ false
  unfolding new_region
  parent_right k l s =
      let p = parent_word d k in
      let nests = nesting b ok in
      let below : p < suc k = nests.lower (suc k) (omega arith) (omega arith) in
      let p-kept = regions.parent_kept b ok k l s in
      let lower = number_below (kept_region b) p (suc k) below p-kept in
      let inner = regions.same_leaf_region b ok p (omega arith) p-kept ∙ nests.inner (suc k) (omega arith) (omega arith) in
      rw (regions.same_parent b ok k l s, le-ltb (count kept_word k) (new_region b p) (omega (arith, regions.new_of_word b ok k))) inner

  pub parents_right : wrong_parents d' ≡ false
  unfolding wrong_parents
  parents_right = at_each (wrong_parent d') parent_right

  pub few_left : words d' ≤ most_region_words
  few_left = omega (arith, regions.new_words_lem b ok, count_le kept_word (words d), few_region_words b ok)

  -- so they are a nesting
  pub nests_left : Nesting (is_leaf d') (parent d') (region_count d')
  nests_left = parents.nesting d' parents_right few_left

  -- 12
  leaf_there : (k : ℕ) → k < words d → kept_word k ≡ true → no_such_arc d' (new_arc b (arc_count b)) (count kept_word k) ≡ false
  unfolding new_arc
  leaf_there k l s =
      rw (regions.same_leaf b ok k l s)
      (by_truth (leaf_word d k)
      (λ e.
      let a-kept = sym (regions.leaf_kept b ok k l e) ∙ s in
      rw (e, regions.same_arc b ok k l s e)
      (lt-leb (new_arc b (arc_count b)) (new_arc b (arc_word d k)) (number_below (kept_arc b) (arc_word d k) (arc_count b) (leaf_arc_lem b ok k l e) a-kept)))
      (λ e. rw e))

  -- the leaf of an arc that is kept is kept
  leaf_of_kept : (a k : ℕ) → kept_arc b a ≡ true → k < words d → kept_word k && leaf_of_arc d a k ≡ leaf_of_arc d a k
  leaf_of_kept a k s l =
      by_truth (leaf_of_arc d a k)
      (λ e.
      let leaf = and_left (leaf_word d k) (eqb (arc_word d k) a) e in
      let same = eqb-true (arc_word d k) a (and_right (leaf_word d k) (eqb (arc_word d k) a) e) in
      rw (regions.leaf_kept b ok k l leaf, same, s))
      (λ e. rw (e, and-false))

  same_leaf_of : (a k : ℕ) → kept_arc b a ≡ true → k < words d → kept_word k ≡ true → leaf_of_arc d' (new_arc b a) (count kept_word k) ≡ leaf_of_arc d a k
  unfolding new_arc
  same_leaf_of a k s l t =
      by_truth (leaf_word d k)
      (λ e.
      let a-kept = sym (regions.leaf_kept b ok k l e) ∙ t in
      rw (regions.same_leaf b ok k l t, e, regions.same_arc b ok k l t e) (number_same (kept_arc b) (arc_word d k) a a-kept s))
      (λ e. rw (regions.same_leaf b ok k l t, e))

  one_leaf_each : (a : ℕ) → a < arc_count b → kept_arc b a ≡ true → count (leaf_of_arc d' (new_arc b a)) (words d') ≡ 1
  one_leaf_each a l s =
      rw (regions.new_words_lem b ok)
      (count_left kept_word (leaf_of_arc d a) (leaf_of_arc d' (new_arc b a)) (words d) (λ k lk t. same_leaf_of a k s lk t)
      ∙ count_ext (λ k. kept_word k && leaf_of_arc d a k) (leaf_of_arc d a) (words d) (λ k lk. leaf_of_kept a k s lk)
      ∙ one_leaf b ok a l)

  one_leaf_right : (a' : ℕ) → a' < new_arc b (arc_count b) → not_one_leaf d' a' ≡ false
  unfolding new_arc
  one_leaf_right a' l = let q = count_nth (kept_arc b) (arc_count b) a' l in rw (← q.3, one_leaf_each q.0 q.1 q.2)

  pub leaves_right : wrong_leaves d' (new_arc b (arc_count b)) ≡ false
  unfolding wrong_leaves
  leaves_right = rw (at_each (no_such_arc d' (new_arc b (arc_count b))) leaf_there) (any_false (not_one_leaf d') (new_arc b (arc_count b)) one_leaf_right)

  -- 13
  child_right : (k : ℕ) → k < words d → kept_word k ≡ true → childless d' (count kept_word k) ≡ false
  child_right k l s =
      by_truth (leaf_word d k) (λ e. rw (regions.same_leaf b ok k l s, e))
      (λ e.
      let c = regions.child_kept b ok k l e s in
      let mine = child_of d' (suc (count kept_word k)) in
      let here : mine (count kept_word c.0) ≡ true =
      eq-eqb _ _ (regions.same_parent b ok c.0 c.1 c.3 ∙ ap (new_region b) c.2 ∙ regions.new_of_word b ok k) in
      let inside : count kept_word c.0 < words d' = omega (arith, number_below kept_word c.0 (words d) c.1 c.3, regions.new_words_lem b ok) in
      let some = count_hit mine (count kept_word c.0) (words d') inside here in
      rw (regions.same_leaf b ok k l s, e) (ne_eqb (count mine (words d')) 0 (λ z. omega arith)))

  pub children_right : childless_regions d' ≡ false
  unfolding childless_regions
  children_right = at_each (childless d') child_right

  -- THE CHILDREN of a region that is kept: those that are kept are children of it still, and no others are
  pub same_child : (r c : ℕ) → r < region_count d → c < region_count d → kept_region b r ≡ true → kept_region b c ≡ true
      → eqb (parent d' (new_region b c)) (new_region b r) ≡ eqb (parent d c) r
  unfolding new_region
  same_child r zero lr lc s t =
      let far = (nesting b ok).alone in
      let low = regions.new_le b ok r in
      rw (regions.new_root b ok) (ne_eqb top (new_region b r) (λ e. omega arith) ∙ sym (ne_eqb top r (λ e. omega arith)))
  same_child r (suc k) lr lc s t =
      rw (regions.same_parent_region b ok (suc k) (omega arith) lc t)
      (number_same (kept_region b) (parent_word d k) r (regions.parent_kept b ok k (omega arith) t) s)
