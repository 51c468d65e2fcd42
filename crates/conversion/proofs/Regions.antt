-- The region words of the converted sheet, field by field: a region that is kept is a leaf or inner as before, and its parent and its arc are the old ones
-- under their new numbers.
use Prim.Native.Nat.{ℕ, zero, suc, ◌+◌, ◌*◌, ◌<◌, ◌≤◌}
use mathlib.Core.Bool.{Bool, true, false, cond, ◌||◌}
use mathlib.Core.List.{List}
use mathlib.Core.Path.{◌≡◌, refl, ap, ◌∙◌}
use native.Mathlib.Omega.{arith}
use lib.ListN.{length}
use lib.Dec.{eqb}
use Rattle.indices.specs.Columns.{at}
use Rattle.indices.specs.Tests.{count}
use Rattle.indices.proofs.Steps.{by_truth}
use Rattle.indices.proofs.Tests.{count_le, count_nth, count_front}
use Rattle.indices.proofs.Selected.{selected_size, selected_entry}
use Rattle.sheet.specs.Limits.{arc_numbers, region_numbers}
use Rattle.sheet.specs.Words.{words, kind_of, payload_of, kind, payload, top, bytes_of}
use Rattle.sheet.specs.Sections.{region_words}
use Rattle.sheet.specs.Inner.{Nesting}
use Rattle.sheet.specs.Regions.{region_count, leaf_word, parent_word, arc_word, is_leaf, parent, leaf_arc}
use Rattle.sheet.proofs.Bytes.{words_bytes, word_bytes}
use Rattle.sheet.proofs.RegionWords.{word_kind, word_payload, payload_parent, payload_arc}
use Rattle.judgement.specs.Judgement.{Convertible}
use Rattle.judgement.proofs.Accepted.{nesting, few_region_words}
use Rattle.conversion.specs.Kept.{has_child, left_after}
use Rattle.conversion.specs.Converted.{kept_arc, new_arc, kept_leaf, kept_region, new_region, new_word, converted_regions}
use Rattle.conversion.proofs.Kept as kept

module _ (b : List ℕ) (ok : Convertible b) where
  abbrev d : List ℕ
  d = region_words b

  nests : Nesting (is_leaf d) (parent d) (region_count d)
  nests = nesting b ok

  -- WHICH REGIONS ARE KEPT
  pub root_kept : kept_region b 0 ≡ true
  unfolding kept_region
  root_kept = kept.root_left (is_leaf d) (parent d) (kept_leaf b) (region_count d) nests refl

  pub leaf_region_kept : (r : ℕ) → r < region_count d → is_leaf d r ≡ true → kept_region b r ≡ kept_leaf b r
  unfolding kept_region
  leaf_region_kept r l e = kept.leaf_left (is_leaf d) (parent d) (kept_leaf b) (region_count d) nests r l e

  -- a leaf is kept if its arc is
  pub leaf_kept : (k : ℕ) → k < words d → leaf_word d k ≡ true → kept_region b (suc k) ≡ kept_arc b (arc_word d k)
  unfolding kept_leaf
  leaf_kept k l e = leaf_region_kept (suc k) (omega arith) e ∙ ap (λ (leaf : Bool). kept_arc b (cond leaf (arc_word d k) top)) e

  -- the parent of a region that is kept is kept
  pub parent_kept : (k : ℕ) → k < words d → kept_region b (suc k) ≡ true → kept_region b (parent_word d k) ≡ true
  unfolding kept_region
  parent_kept k l s = kept.parent_left (is_leaf d) (parent d) (kept_leaf b) (region_count d) nests (suc k) (omega arith) (omega arith) s

  -- an inner region other than 0 that is kept has a child that is kept
  pub child_kept : (k : ℕ) → k < words d → leaf_word d k ≡ false → kept_region b (suc k) ≡ true
      → (c : ℕ) × (c < words d) × (parent_word d c ≡ suc k) × (kept_region b (suc c) ≡ true)
  unfolding kept_region
  child_kept k l e s =
      let q = kept.child_left (is_leaf d) (parent d) (kept_leaf b) (region_count d) nests (suc k) (omega arith) (omega arith) e s in
      at q.0 q.1 q.2 q.3
    where
      at : (c : ℕ) → c < region_count d → parent d c ≡ suc k → kept_region b c ≡ true
          → (c : ℕ) × (c < words d) × (parent_word d c ≡ suc k) × (kept_region b (suc c) ≡ true)
      at zero lc e s = absurd (omega (arith, nests.alone))
      at (suc c) lc e s = (c, omega arith, e, s)

  -- "until none is"
  pub none_childless : (r : ℕ) → 0 < r → r < region_count d → kept_region b r ≡ true → is_leaf d r ≡ false
      → has_child (is_leaf d) (parent d) (kept_leaf b) (region_count d) (kept_region b) r ≡ true
  unfolding kept_region
  none_childless r pos l s e = kept.none_childless (is_leaf d) (parent d) (kept_leaf b) (region_count d) nests r pos l e s

  pub no_more_dropped : (k r : ℕ) → region_count d ≤ k → r < region_count d
      → left_after (is_leaf d) (parent d) (kept_leaf b) (region_count d) k r ≡ kept_region b r
  unfolding kept_region
  no_more_dropped k r lk l = kept.no_more_dropped (is_leaf d) (parent d) (kept_leaf b) (region_count d) nests k r lk l

  -- NEW NUMBERS
  abbrev kept_word : ℕ → Bool
  kept_word k = kept_region b (suc k)

  -- region 0 keeps its number, and region k + 1 has one more than its word
  pub new_root : new_region b 0 ≡ 0
  unfolding new_region count
  new_root = refl

  pub new_of_word : (k : ℕ) → new_region b (suc k) ≡ suc (count kept_word k)
  unfolding new_region
  new_of_word k = count_front (kept_region b) k ∙ rw root_kept (omega arith)

  pub new_le : (r : ℕ) → new_region b r ≤ r
  unfolding new_region
  new_le r = count_le (kept_region b) r

  pub new_arc_le : (a : ℕ) → new_arc b a ≤ a
  unfolding new_arc
  new_arc_le a = count_le (kept_arc b) a

  pub parent_small : (k : ℕ) → k < words d → new_region b (parent_word d k) < region_numbers
  parent_small k l = omega (arith, new_le (parent_word d k), nests.lower (suc k) (omega arith) (omega arith), few_region_words b ok)

  pub arc_small : (k : ℕ) → new_arc b (arc_word d k) < arc_numbers
  unfolding arc_word
  arc_small k = omega (arith, new_arc_le (arc_word d k))

  -- THE CONVERTED WORDS
  abbrev d' : List ℕ
  d' = bytes_of (converted_regions b)

  pub regions_long : length (converted_regions b) ≡ count kept_word (words d)
  unfolding converted_regions
  regions_long = selected_size kept_word (new_word b) (words d)

  pub new_words_lem : words d' ≡ count kept_word (words d)
  new_words_lem = words_bytes (converted_regions b) ∙ regions_long

  -- each is that of a region that is kept
  pub old_word : (j : ℕ) → j < words d' → (k : ℕ) × (k < words d) × (kept_word k ≡ true) × (count kept_word k ≡ j)
  old_word j l = count_nth kept_word (words d) j (omega (arith, new_words_lem))

  module _ (k : ℕ) (l : k < words d) where
    pub word_of_kind : kind_of (new_word b k) ≡ cond (leaf_word d k) 7 6
    unfolding new_word
    word_of_kind = word_kind (new_region b (parent_word d k)) (new_arc b (arc_word d k)) (parent_small k l) (leaf_word d k) (λ _. arc_small k)

    word_of_payload : payload_of (new_word b k)
        ≡ cond (leaf_word d k) (new_region b (parent_word d k) * arc_numbers + new_arc b (arc_word d k)) (new_region b (parent_word d k))
    unfolding new_word
    word_of_payload = word_payload (new_region b (parent_word d k)) (new_arc b (arc_word d k)) (parent_small k l) (leaf_word d k) (λ _. arc_small k)

  module _ (k : ℕ) (l : k < words d) (s : kept_word k ≡ true) where
    abbrev j : ℕ
    j = count kept_word k

    pub word_at : at (converted_regions b) j ≡ new_word b k
    unfolding converted_regions
    word_at = selected_entry kept_word (new_word b) (words d) k l s

    new_kind : kind d' j ≡ cond (leaf_word d k) 7 6
    unfolding kind
    new_kind = ap kind_of (word_bytes (converted_regions b) j ∙ word_at) ∙ word_of_kind k l

    new_payload : payload d' j
        ≡ cond (leaf_word d k) (new_region b (parent_word d k) * arc_numbers + new_arc b (arc_word d k)) (new_region b (parent_word d k))
    unfolding payload
    new_payload = ap payload_of (word_bytes (converted_regions b) j ∙ word_at) ∙ word_of_payload k l

    -- a leaf or inner as before
    pub same_leaf : leaf_word d' j ≡ leaf_word d k
    unfolding leaf_word
    same_leaf = rw new_kind (by_truth (leaf_word d k) (λ e. rw e) (λ e. rw e))

    -- its parent under its new number
    pub same_parent : parent_word d' j ≡ new_region b (parent_word d k)
    unfolding parent_word
    same_parent =
        rw (same_leaf, new_payload)
        (payload_parent (new_region b (parent_word d k)) (new_arc b (arc_word d k)) (parent_small k l) (leaf_word d k) (λ _. arc_small k))

    -- and its arc
    pub same_arc : leaf_word d k ≡ true → arc_word d' j ≡ new_arc b (arc_word d k)
    unfolding arc_word
    same_arc e = rw (new_payload, e) (payload_arc (new_region b (parent_word d k)) (new_arc b (arc_word d k)) (parent_small k l) (arc_small k))

    -- 2 and 3 do not apply to it
    pub kind_right : eqb (kind d' j) 6 || eqb (kind d' j) 7 ≡ true
    kind_right = rw new_kind (by_truth (leaf_word d k) (λ e. rw e) (λ e. rw e))

    pub bits_clear : leaf_word d k ≡ true → payload d' j < region_numbers * arc_numbers
    bits_clear e = rw (new_payload, e) (omega (arith, parent_small k l, arc_small k))

  -- BY REGION
  pub regions_left : region_count d' ≡ count (kept_region b) (region_count d)
  unfolding new_region
  regions_left = omega (arith, new_words_lem, new_of_word (words d))

  pub same_leaf_region : (r : ℕ) → r < region_count d → kept_region b r ≡ true → is_leaf d' (new_region b r) ≡ is_leaf d r
  same_leaf_region zero l s = ap (is_leaf d') new_root
  same_leaf_region (suc k) l s = ap (is_leaf d') (new_of_word k) ∙ same_leaf k (omega arith) s

  pub same_parent_region : (r : ℕ) → 0 < r → r < region_count d → kept_region b r ≡ true → parent d' (new_region b r) ≡ new_region b (parent d r)
  same_parent_region zero pos l s = absurd (omega arith)
  same_parent_region (suc k) pos l s = ap (parent d') (new_of_word k) ∙ same_parent k (omega arith) s

  pub same_arc_region : (r : ℕ) → r < region_count d → kept_region b r ≡ true → is_leaf d r ≡ true → leaf_arc d' (new_region b r) ≡ new_arc b (leaf_arc d r)
  same_arc_region zero l s e = absurd (let z : ◌≡◌ {A = ℕ} 0 1 = cc in omega arith)
  same_arc_region (suc k) l s e =
      let lk : k < words d = omega arith in
      ap (leaf_arc d') (new_of_word k) ∙ rw (same_leaf k lk s, e) (same_arc k lk s e)
