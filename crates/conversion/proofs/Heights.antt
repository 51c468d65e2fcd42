-- Heights among the regions that are kept: no region is higher than it was. And what one pass from the last region back finds, in which each region hands to
-- its parent 0 if it is not kept, and else its new height and one more: which inner regions are kept, and how high region 0 is then.
use Prim.Native.Nat.{ℕ, zero, suc, max, ◌+◌, ◌-◌, ◌<◌, ◌≤◌}
use mathlib.Core.Bool.{Bool, true, false, cond, ◌&&◌, true≢false}
use mathlib.Core.List.{List}
use mathlib.Core.Path.{◌≡◌, refl, sym, ap, ◌∙◌}
use borrow.Author.Tests.{eqb-true, eq-eqb, ne_eqb, lt-ltb, le-ltb, ltb-true, ltb-false}
use native.Mathlib.Omega.{arith}
use lib.ListN.{length, set, replicate}
use lib.Dec.{eqb, ltb}
use Rattle.indices.specs.Columns.{at}
use Rattle.indices.specs.Tests.{most}
use Rattle.indices.proofs.Most.{most_ext, most_le, most_ge, most_suc}
use Rattle.indices.proofs.Steps.{by_truth}
use Rattle.indices.proofs.Tests.{count_le}
use Rattle.indices.proofs.Selected.{number_below, most_left}
use Rattle.sheet.specs.Limits.{region_numbers}
use Rattle.sheet.specs.Words.{words, bytes_of}
use Rattle.sheet.specs.Sections.{span_count, region_words}
use Rattle.sheet.specs.Inner.{Nesting}
use Rattle.sheet.specs.Regions.{region_count, parent_word, is_leaf, parent, height}
use Rattle.sheet.proofs.Heights.{of_child, height_rule, leaf_height, child_after, height_most}
use Rattle.sheet.proofs.Handed.{Handed, handed_start, handed_le, handed_all, handed_turn}
use Rattle.judgement.specs.Judgement.{Convertible}
use Rattle.judgement.proofs.Accepted.{nesting, few_region_words, spans_height}
use Rattle.conversion.specs.Converted.{kept_region, new_region, converted_regions, new_height}
use Rattle.conversion.specs.Inner.{hands_up, Heights}
use Rattle.conversion.proofs.Regions as regions
use Rattle.conversion.proofs.Division.{nests_left, same_child}

module _ (b : List ℕ) where
  -- the height of a region among those that are kept
  abbrev height_now : ℕ → ℕ
  height_now r = height (bytes_of (converted_regions b)) (new_region b r)

  -- what a region hands up
  unfoldable pub above : ℕ → ℕ
  above r = cond (kept_region b r) (suc (height_now r)) 0

  above_kept : (r : ℕ) → kept_region b r ≡ true → above r ≡ suc (height_now r)
  unfolding above
  above_kept r e = rw e

  above_none : (r : ℕ) → kept_region b r ≡ false → above r ≡ 0
  unfolding above
  above_none r e = rw e

  -- what is handed up by a region that is kept, where it is a child
  above_child : (c : ℕ) (child : Bool) → cond (kept_region b c && child) (suc (height_now c)) 0 ≡ cond child (above c) 0
  unfolding above
  above_child c child = by_kept (kept_region b c) child
    where
      by_kept : (x y : Bool) → cond (x && y) (suc (height_now c)) 0 ≡ cond y (cond x (suc (height_now c)) 0) 0
      by_kept true y = refl
      by_kept false true = refl
      by_kept false false = refl

-- one test within another is both
joined : (x y : Bool) (h : ℕ) → cond x (cond y h 0) 0 ≡ cond (x && y) h 0
joined true y h = refl
joined false y h = refl

module _ (b : List ℕ) (ok : Convertible b) where
  abbrev d : List ℕ
  d = region_words b

  abbrev n : ℕ
  n = region_count d

  abbrev d' : List ℕ
  d' = bytes_of (converted_regions b)

  abbrev now : ℕ → ℕ
  now = height_now b

  nests : Nesting (is_leaf d) (parent d) n
  nests = nesting b ok

  new_below : (r : ℕ) → r < n → kept_region b r ≡ true → new_region b r < region_count d'
  unfolding new_region
  new_below r l s = omega (arith, regions.regions_left b ok, number_below (kept_region b) r n l s)

  -- HEIGHTS NOW
  -- c is kept, and a child of r
  abbrev kept_child : ℕ → ℕ → Bool
  kept_child r c = kept_region b c && eqb (parent d c) r

  over_kept : (r : ℕ) → r < n → kept_region b r ≡ true
      → most (of_child (parent d') (height d') (new_region b r)) (region_count d') ≡ most (λ c. cond (kept_child r c) (now c) 0) n
  unfolding new_region
  over_kept r l s =
      ap (most (of_child (parent d') (height d') (new_region b r))) (regions.regions_left b ok)
      ∙ most_left (kept_region b) (of_child (parent d) now r) (of_child (parent d') (height d') (new_region b r)) n
      (λ c lc t. ap (λ (x : Bool). cond x (now c) 0) (same_child b ok r c l lc s t))
      ∙ most_ext _ (λ c. cond (kept_child r c) (now c) 0) n (λ c lc. joined (kept_region b c) (eqb (parent d c) r) (now c))

  inner_now : (r : ℕ) → r < n → kept_region b r ≡ true → is_leaf d r ≡ false → now r ≡ suc (most (λ c. cond (kept_child r c) (now c) 0) n)
  inner_now r l s e =
      let here : is_leaf d' (new_region b r) ≡ false = regions.same_leaf_region b ok r l s ∙ e in
      height_rule (is_leaf d') (parent d') (region_count d') (nests_left b ok) (new_region b r) (new_below r l s) ∙ rw here (ap suc (over_kept r l s))

  leaf_now : (r : ℕ) → r < n → kept_region b r ≡ true → is_leaf d r ≡ true → now r ≡ 0
  leaf_now r l s e =
      leaf_height (is_leaf d') (parent d') (region_count d') (nests_left b ok) (new_region b r) (new_below r l s) (regions.same_leaf_region b ok r l s ∙ e)

  -- no region that is kept is higher than it was, where no child of it is: so from the last region back
  child_no_higher : (r c : ℕ) → c < n → (eqb (parent d c) r ≡ true → kept_region b c ≡ true → now c ≤ height d c)
      → cond (kept_child r c) (now c) 0 ≤ most (of_child (parent d) (height d) r) n
  child_no_higher r c lc lower =
      let mine = most_ge (of_child (parent d) (height d) r) n c lc in
      by_truth (kept_region b c)
      (λ t. by_truth (eqb (parent d c) r) (λ q. rw (t, q) (omega (arith, lower q t, rw q at mine))) (λ q. rw (t, q) (omega arith)))
      (λ t. rw t (omega arith))

  no_higher : (f r : ℕ) → n ≤ r + f → r < n → kept_region b r ≡ true → now r ≤ height d r
  no_higher zero r le l s = absurd (omega arith)
  no_higher (suc f) r le l s =
      by_truth (is_leaf d r) (λ e. omega (arith, leaf_now r l s e))
      (λ e.
      let then : height d r ≡ suc (most (of_child (parent d) (height d) r) n) = rw e at (height_rule (is_leaf d) (parent d) n nests r l) in
      let below = most_le (λ c. cond (kept_child r c) (now c) 0) n (most (of_child (parent d) (height d) r) n)
      (λ c lc. child_no_higher r c lc (λ q t. no_higher f c (omega (arith, child_after (is_leaf d) (parent d) n nests r c l lc q)) lc t)) in
      omega (arith, inner_now r l s e))

  pub height_lower : new_height b ≤ span_count b
  unfolding new_height
  height_lower =
      omega (arith, spans_height b ok, no_higher n 0 (omega arith) (omega arith) (regions.root_kept b ok), ap (height d') (regions.new_root b ok))

  -- WHAT IS HANDED UP
  abbrev held : ℕ → ℕ
  held r = most (of_child (parent d) (above b) r) n

  -- an inner region that is kept is as high as what it holds, or 1
  inner_high : (r : ℕ) → r < n → kept_region b r ≡ true → is_leaf d r ≡ false → now r ≡ max 1 (held r)
  inner_high r l s e =
      inner_now r l s e
      ∙ sym (most_suc (kept_child r) now n)
      ∙ ap (max 1) (most_ext _ (of_child (parent d) (above b) r) n (λ c lc. above_child b c (eqb (parent d c) r)))

  -- an inner region other than 0 is kept just where it holds something
  inner_kept : (r : ℕ) → 0 < r → r < n → is_leaf d r ≡ false → kept_region b r ≡ ltb 0 (held r)
  inner_kept zero pos l e = absurd (omega arith)
  inner_kept (suc k) pos l e =
      by_truth (kept_region b (suc k))
      (λ s.
      let c = regions.child_kept b ok k (omega arith) e s in
      let here : of_child (parent d) (above b) (suc k) (suc c.0) ≡ suc (now (suc c.0)) =
      rw (eq-eqb (parent_word d c.0) (suc k) c.2) (above_kept b (suc c.0) c.3) in
      let some = most_ge (of_child (parent d) (above b) (suc k)) n (suc c.0) (omega (arith, c.1)) in
      s ∙ sym (lt-ltb 0 (held (suc k)) (omega arith)))
      (λ s.
      let none = most_le (of_child (parent d) (above b) (suc k)) n 0 (λ c lc. at c lc (eqb (parent d c) (suc k)) refl s) in
      s ∙ sym (le-ltb 0 (held (suc k)) (omega arith)))
    where
      -- a child of a region that is not kept is not kept
      at : (c : ℕ) → c < n → (x : Bool) → eqb (parent d c) (suc k) ≡ x → kept_region b (suc k) ≡ false → cond x (above b c) 0 ≤ 0
      at c lc false q s = omega arith
      at zero lc true q s = absurd (omega (arith, nests.alone, eqb-true (parent d 0) (suc k) q))
      at (suc j) lc true q s =
          by_truth (kept_region b (suc j))
          (λ t. absurd (true≢false (sym (regions.parent_kept b ok j (omega arith) t) ∙ ap (kept_region b) (eqb-true (parent_word d j) (suc k) q) ∙ s)))
          (λ t. omega (arith, above_none b (suc j) t))

  -- no region hands up more than there are regions, and one
  above_small : (c : ℕ) → above b c ≤ suc n
  above_small c =
      by_truth (kept_region b c)
      (λ s. omega (
        arith,
        above_kept b c s,
        height_most (is_leaf d') (parent d') (region_count d') (new_region b c),
        regions.regions_left b ok,
        count_le (kept_region b) n,
      ))
      (λ s. omega (arith, above_none b c s))

  -- THE PASS: the regions after r have handed up
  abbrev pub Passed : List ℕ → ℕ → Type 0
  Passed best r = Handed (parent d) (above b) n best r

  -- what a region holds when its turn comes is what all its children hand to it
  holds : (best : List ℕ) (i r : ℕ) → r < n → r < length best → i ≤ r → Passed best i → at best r ≡ held r
  holds best i r l lb le P =
      P.entry r lb ∙ sym (handed_all (parent d) (above b) n (suc i) r (λ c lc e. omega (arith, child_after (is_leaf d) (parent d) n nests r c l lc e)))

  pub passed_start : (size r : ℕ) → r ≡ words d → Passed (replicate size 0) r
  passed_start size r e = handed_start (parent d) (above b) n size r (omega arith)

  pub passed_small : (best : List ℕ) (r q : ℕ) → q < length best → Passed best r → at best q ≤ suc n
  passed_small best r q l P = omega (arith, P.entry q l, handed_le (parent d) (above b) n (suc n) above_small (suc r) q)

  -- what is computed is what is to be handed up
  hands_above : (best : List ℕ) (r : ℕ) → 0 < r → r < n → r < length best → Passed best r → hands_up b best r ≡ above b r
  unfolding hands_up
  hands_above best r pos l lb P =
      by_truth (is_leaf d r)
      (λ e. by_truth (kept_region b r)
      (λ s. rw (e, sym (regions.leaf_region_kept b ok r l e) ∙ s) (sym (above_kept b r s ∙ ap suc (leaf_now r l s e))))
      (λ s. rw (e, sym (regions.leaf_region_kept b ok r l e) ∙ s) (sym (above_none b r s))))
      (λ e.
      let same = holds best r r l lb (omega arith) P in
      by_truth (kept_region b r)
      (λ s.
      let some = ltb-true 0 (held r) (sym (inner_kept r pos l e) ∙ s) in
      rw (e, same, ne_eqb (held r) 0 (λ z. omega arith)) (omega (arith, above_kept b r s, inner_high r l s e)))
      (λ s.
      let none = ltb-false 0 (held r) (sym (inner_kept r pos l e) ∙ s) in
      rw (e, same, eq-eqb (held r) 0 (omega arith)) (sym (above_none b r s))))

  -- region r hands up to its parent p
  pub passed_turn : (best : List ℕ) (r p x : ℕ) → 0 < r → r ≤ words d → r < length best → p ≡ parent d r → x ≡ max (at best p) (hands_up b best r)
      → Passed best r → Passed (set best p x) (r - 1)
  passed_turn best r p x pos l lb e ex P =
      let below = nests.lower r pos (omega arith) in
      handed_turn (parent d) (above b) n best r p x pos (omega arith) (omega arith) e
      (ex ∙ ap (max (at best p)) (hands_above best r pos (omega arith) lb P)) P

  -- after the last turn
  pub all_passed : (best : List ℕ) → length best ≡ region_numbers → Passed best 0 → Heights b best
  unfolding new_height
  all_passed best long P = record {
    kept = λ r pos l e.
        let inside : r < length best = omega (arith, few_region_words b ok) in
        inner_kept r pos l e ∙ ap (ltb 0) (sym (holds best 0 r l inside (omega arith) P));
    high =
        ap (height d') (sym (regions.new_root b ok)) ∙ inner_high 0 (omega arith) (regions.root_kept b ok) refl
        ∙ ap (max 1) (sym (holds best 0 0 (omega arith) (omega arith) (omega arith) P));
  }
