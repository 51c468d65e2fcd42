-- What the functions over the region words of a convertible sheet use of it: which leaves are kept, what each region hands up, and which regions are kept.
use Rattle.std.specs.Prelude.{if◌then◌else◌}
use Rattle.std.proofs.Math.Logic.{∥∥₁_elim}
use Prim.Native.Nat.{ℕ, zero, suc, max, ◌-◌, ◌<◌, ◌≤◌}
use mathlib.Core.Bool.{Bool, true, false, not, cond, true≢false, Bool-set}
use mathlib.Core.List.{List}
use mathlib.Core.Path.{◌≡◌, refl, sym, ap, ◌∙◌}
use borrow.Author.Tests.{eq-eqb, ne_eqb}
use native.Mathlib.Bridge.{le_prop}
use native.Mathlib.Omega.{arith}
use mir.Val.{bool_byte}
use lib.ListN.{length, set, replicate, length-set, length-replicate}
use lib.Dec.{ltb, eqb}
use Rattle.indices.specs.Columns.{at}
use Rattle.sheet.specs.Limits.{most_region_words, region_numbers}
use Rattle.sheet.specs.Words.{words, top}
use Rattle.sheet.specs.Sections.{arc_count, region_words}
use Rattle.sheet.specs.Regions.{region_count, leaf_word, arc_word, is_leaf, parent}
use Rattle.judgement.specs.Division.{wrong_parents}
use Rattle.judgement.proofs.Accepted.{few_arcs, few_region_words, parents_right, leaf_arc_lem}
use Rattle.judge_division.specs.Heights.{Passable}
use Rattle.conversion.specs.Converted.{kept_arc, kept_leaf, kept_region, new_region, converted_regions}
use Rattle.conversion.specs.Inner.{hands_up, Heights}
use Rattle.conversion.proofs.Regions.{root_kept, leaf_region_kept, new_of_word, regions_long}
use Rattle.conversion.proofs.Heights.{Passed, passed_start, passed_small, passed_turn, all_passed}
use Rattle.conversion_numbers.specs.Numbers.{dropped, ArcsNumbered}
use Rattle.conversion_numbers.proofs.Numbering.{number_tells}

-- region 0 is no leaf
pub leaf_later : (d : List ℕ) (r : ℕ) → is_leaf d r ≡ true → 0 < r
leaf_later d zero e = absurd (true≢false (sym e))
leaf_later d (suc k) e = omega arith

module _ {b d arcs : List ℕ} (A : ArcsNumbered b d arcs) where
  pub few : words d ≤ most_region_words
  few = rw A.words_of (few_region_words b A.convertible)

  pub parents : wrong_parents d ≡ false
  parents = rw A.words_of (parents_right b A.convertible)

  region_in : (r : ℕ) → r ≤ words d → r < region_count (region_words b)
  region_in r l = rw (← A.words_of) (omega arith)

  same_leaf : (r : ℕ) → is_leaf (region_words b) r ≡ is_leaf d r
  same_leaf r = ap (λ (x : List ℕ). is_leaf x r) (sym A.words_of)

  -- the arc of a leaf is there
  pub arc_there : (k : ℕ) → k < words d → leaf_word d k ≡ true → arc_word d k < arc_count b
  arc_there k l e = rw A.words_of (leaf_arc_lem b A.convertible k (rw (← A.words_of) l) (same_leaf (suc k) ∙ e))

  -- WHICH LEAVES ARE KEPT: those whose arc has a number
  pub leaf_tells : (r a : ℕ) → r ≤ words d → is_leaf d r ≡ true → a ≡ arc_word d (r - 1) → not (eqb (at arcs a) dropped) ≡ kept_leaf b r
  unfolding kept_leaf
  leaf_tells zero a l e is = absurd (true≢false (sym e))
  leaf_tells (suc k) a l e is =
      let word : suc k - 1 ≡ k = omega arith in
      let arc : a ≡ arc_word (region_words b) k = is ∙ ap (arc_word d) word ∙ ap (λ (x : List ℕ). arc_word x k) A.words_of in
      let there : a < arc_count b = omega (arith, arc_there k (omega arith) e, is ∙ ap (arc_word d) word) in
      number_tells (kept_arc b) a (at arcs a) (omega (arith, few_arcs b A.convertible)) (A.arc_numbers_lem.entry a there)
      ∙ ap (kept_arc b) arc
      ∙ sym (ap (λ (leaf : Bool). kept_arc b (cond leaf (arc_word (region_words b) k) top)) (same_leaf (suc k) ∙ e))

  -- WHAT A REGION HANDS UP
  pub hands_leaf : (best : List ℕ) (r : ℕ) (x : Bool) → is_leaf d r ≡ true → x ≡ kept_leaf b r → bool_byte x ≡ hands_up b best r
  unfolding hands_up
  hands_leaf best r x e kept = rw (same_leaf r ∙ e, ← kept) (by_test x)
    where
      by_test : (x : Bool) → bool_byte x ≡ (if x then 1 else 0)
      by_test true = refl
      by_test false = refl

  pub hands_none : (best : List ℕ) (r : ℕ) → is_leaf d r ≡ false → at best r ≡ 0 → 0 ≡ hands_up b best r
  unfolding hands_up
  hands_none best r e none = rw (same_leaf r ∙ e, eq-eqb (at best r) 0 none)

  pub hands_some : (best : List ℕ) (r x : ℕ) → is_leaf d r ≡ false → (at best r ≡ 0 → ⊥) → x ≡ suc (at best r) → x ≡ hands_up b best r
  unfolding hands_up
  hands_some best r x e some more = rw (same_leaf r ∙ e, ne_eqb (at best r) 0 some) more

  -- WHICH REGIONS ARE KEPT
  pub stays_root : kept_region b 0 ≡ true
  stays_root = root_kept b A.convertible

  pub stays_leaf : (r : ℕ) → r ≤ words d → is_leaf d r ≡ true → kept_region b r ≡ kept_leaf b r
  stays_leaf r l e = leaf_region_kept b A.convertible r (region_in r l) (same_leaf r ∙ e)

  pub stays_inner : {best : List ℕ} → Heights b best → (r : ℕ) → 0 < r → r ≤ words d → is_leaf d r ≡ false → kept_region b r ≡ ltb 0 (at best r)
  stays_inner H r later l e = H.kept r later (region_in r l) (same_leaf r ∙ e)

  -- one more region is kept than region words: region 0
  pub words_left : new_region b (region_count d) ≡ suc (length (converted_regions b))
  words_left =
      ap (λ (x : List ℕ). new_region b (region_count x)) A.words_of
      ∙ new_of_word b A.convertible (words (region_words b))
      ∙ ap suc (sym (regions_long b A.convertible))

  -- THE PASS from the last region back: those after r have handed up
  pub record Passing (best : List ℕ) (r : ℕ) : Type 0 where
    pub inside : r ≤ words d
    pub long : length best ≡ region_numbers
    pub handed : Passed b A.convertible best r

  pub passing_start : {r : ℕ} → r ≡ words d → Passing (replicate region_numbers 0) r
  passing_start {r} e = record {
    inside = omega arith;
    long = simp length-replicate;
    handed = passed_start b A.convertible region_numbers r (e ∙ ap words A.words_of);
  }

  module _ {best : List ℕ} {r : ℕ} (P : Passing best r) where
    -- what a region holds is not above the number of regions
    pub passing_small : at best r ≤ suc (region_count d)
    passing_small =
        let same = ap words A.words_of in
        omega (arith, passed_small b A.convertible best r r (omega (arith, P.inside, P.long, few)) P.handed)

    pub passing_turn : (p x : ℕ) → 0 < r → p ≡ parent d r → x ≡ hands_up b best r → Passing (set best p (max (at best p) x)) (r - 1)
    passing_turn p x later above hands = record {
      inside = omega (arith, P.inside);
      long = length-set best p _ ∙ P.long;
      handed =
          passed_turn b A.convertible best r p _ later (rw (← A.words_of) P.inside) (omega (arith, P.inside, P.long, few))
          (above ∙ ap (λ (y : List ℕ). parent y r) A.words_of) (ap (max (at best p)) hands) P.handed;
    }

    pub passing_end : r ≡ 0 → Heights b best
    passing_end none = all_passed b A.convertible best P.long (rw none at P.handed)

-- WHATEVER THE SHEET IS whose words and numbers are lent, and which is not
module _ {d arcs : List ℕ} (some : ∥ ((b : List ℕ) × ArcsNumbered b d arcs) ∥₁) where
  pub passable : Passable d
  passable = ∥∥₁_elim some (hlevel (le_prop, Bool-set)) (λ s. record { few = few s.1; parents = parents s.1 })

  pub few_words : words d ≤ most_region_words
  few_words = passable.few

  -- in the pass, region r is there, and holds little
  pub record PassBounds (best : List ℕ) (r : ℕ) : Type 0 where
    pub inside : r ≤ words d
    pub small : at best r ≤ suc (region_count d)

  pub pass_bounds : {best : List ℕ} {r : ℕ} → ((b : List ℕ) (A : ArcsNumbered b d arcs) → Passing A best r) → PassBounds best r
  pass_bounds P =
      ∥∥₁_elim some (hlevel le_prop) (λ s. record { inside = (P s.0 s.1).inside; small = passing_small s.1 (P s.0 s.1) })
