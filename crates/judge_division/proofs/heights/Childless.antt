-- Regions to which nothing is handed up have no child: what the pass from the last region back finds of refusals 13 and 14.
use Prim.Native.Nat.{ℕ, zero, suc, max, ◌-◌, ◌<◌, ◌≤◌}
use mathlib.Core.Bool.{Bool, true, false, not, ◌&&◌, true≢false}
use mathlib.Core.List.{List}
use mathlib.Core.Path.{◌≡◌, refl, sym, ap, ◌∙◌}
use borrow.Author.Tests.{eqb-true, eqb-false, eq-eqb, ne_eqb}
use native.Mathlib.Omega.{arith}
use lib.ListN.{length, get_or, set, replicate, length-set, length-replicate}
use lib.Seq.{get_or-set_other}
use lib.Dec.{eqb}
use Rattle.indices.specs.Tests.{count}
use Rattle.indices.proofs.Steps.{by_equal, by_truth, set_elim}
use Rattle.indices.proofs.Tests.{any_hit, any_false, count_hit, count_out_all}
use Rattle.sheet.specs.Limits.{region_numbers}
use Rattle.sheet.specs.Words.{words}
use Rattle.sheet.specs.Inner.{Nesting}
use Rattle.sheet.specs.Regions.{region_count, leaf_word, is_leaf, parent, height}
use Rattle.sheet.proofs.Heights.{child_after}
use Rattle.sheet.proofs.Handed.{Handed, handed_start, handed_ge, handed_childless}
use Rattle.judgement.specs.Division.{child_of, childless, childless_regions}
use Rattle.judgement.proofs.Parents.{nesting}
use Rattle.judge_division.specs.Heights.{Passable, handed_up, holds_none, HeightsFound}
use Rattle.judge_division.proofs.heights.Held.{above, held_by, held_le, inner_high, held_own, held_turn}

-- what the test at a region's turn tells
inner_none : (own : ℕ) (leaf : Bool) → not leaf && eqb own 0 ≡ true → (own ≡ 0) × (leaf ≡ false)
inner_none own true e = absurd (true≢false (sym e))
inner_none own false e = (eqb-true own 0 e, refl)

none_leaf : (own : ℕ) (leaf : Bool) → not leaf && eqb own 0 ≡ false → own ≡ 0 → leaf ≡ true
none_leaf own true e z = refl
none_leaf own false e z = absurd (eqb-false own 0 e z)

-- what a region hands up
abbrev above_of : List ℕ → ℕ → ℕ
above_of d = above (is_leaf d) (parent d) (region_count d)

-- after the turns of the regions above r: what each region holds, that each of those is a leaf or has a child, and that those hold their heights
pub record Passed (d best : List ℕ) (r : ℕ) : Type 0 where
  pub inside : r ≤ words d
  pub long : length best ≡ region_numbers
  pub handed : Handed (parent d) (above_of d) (region_count d) best r
  pub with_child : (k : ℕ) → r ≤ k → k < words d → childless d k ≡ false
  pub found : (q : ℕ) → r < q → q < region_count d → get_or best q 0 ≡ height d q

pub passed_start : (d : List ℕ) (r : ℕ) → r ≡ words d → Passed d (replicate region_numbers 0) r
passed_start d r e = record {
  inside = omega arith;
  long = simp length-replicate;
  handed = handed_start (parent d) (above_of d) (region_count d) region_numbers r (omega arith);
  with_child = λ k l m. absurd (omega arith);
  found = λ q l m. absurd (omega arith);
}

module _ {d : List ℕ} (ok : Passable d) where
  nests : Nesting (is_leaf d) (parent d) (region_count d)
  nests = nesting d ok.parents ok.few

  -- what the regions above r hand to r
  abbrev handed_to : ℕ → ℕ
  handed_to r = held_by (is_leaf d) (parent d) (region_count d) r

  -- a child hands up more than 0
  child_hands : (k j : ℕ) → k < words d → j < words d → child_of d (suc k) j ≡ true → 0 < handed_to (suc k)
  child_hands k j lk lj e =
      let after : suc k < suc j = child_after (is_leaf d) (parent d) (region_count d) nests (suc k) (suc j) (omega arith) (omega arith) e in
      omega (arith, handed_ge (parent d) (above_of d) (region_count d) (suc (suc k)) (suc k) (suc j) (omega arith) (omega arith) e)

  -- where no word names region k + 1 as its parent, nothing is handed to it
  none_hands : (k : ℕ) → k < words d → count (child_of d (suc k)) (words d) ≡ 0 → handed_to (suc k) ≡ 0
  none_hands k lk none = handed_childless (parent d) (above_of d) (region_count d) (suc (suc k)) (suc k) each
    where
      each : (c : ℕ) → c < region_count d → eqb (parent d c) (suc k) ≡ false
      each zero lc = ne_eqb (parent d 0) (suc k) (λ e. omega (arith, nests.alone))
      each (suc j) lc =
          by_truth (child_of d (suc k) j) (λ e. absurd (omega (arith, count_hit (child_of d (suc k)) j (words d) (omega arith) e))) (λ e. e)

  -- an inner region that holds 0 when its turn comes
  pub found_childless : {best : List ℕ} {r : ℕ} → Passed d best r → 0 < r → holds_none d best r ≡ true → childless_regions d ≡ true
  unfolding childless_regions
  found_childless {best} {r = zero} t pos none = absurd (omega arith)
  found_childless {best} {r = suc k} t pos none =
      let held : (get_or best (suc k) 0 ≡ 0) × (leaf_word d k ≡ false) = inner_none (get_or best (suc k) 0) (leaf_word d k) none in
      any_hit (childless d) k (words d) (omega arith)
      (rw (
        held.1,
        eq-eqb (count (child_of d (suc k)) (words d)) 0 (count_out_all (child_of d (suc k)) (words d) (λ j lj.
            by_truth (child_of d (suc k) j)
            (λ e. absurd (omega (arith, held.0, child_hands k j (omega arith) lj e, t.handed.entry (suc k) (omega arith)))) (λ e. e))),
      ))

  -- a region that is a leaf if it holds 0 is not childless
  has_child_lem : (k : ℕ) → k < words d → (handed_to (suc k) ≡ 0 → leaf_word d k ≡ true) → childless d k ≡ false
  has_child_lem k l settled =
      by_truth (leaf_word d k) (λ leaf. rw leaf)
      (λ inner. rw inner (ne_eqb (count (child_of d (suc k)) (words d)) 0 (λ e. true≢false (sym (settled (none_hands k l e)) ∙ inner))))

  -- what a region holds is a height at most
  pub passed_le : {best : List ℕ} {r : ℕ} → Passed d best r → get_or best r 0 ≤ suc (region_count d)
  passed_le {best} {r} t = omega (arith, t.handed.entry r (omega arith), held_le (is_leaf d) (parent d) (region_count d) r)

  -- region r hands up to its parent
  pub passed_turn : {best : List ℕ} {r : ℕ} → Passed d best r → 0 < r → holds_none d best r ≡ false → Passed d (handed_up d best r) (r - 1)
  passed_turn {best} {r = zero} t pos some = absurd (omega arith)
  passed_turn {best} {r = suc k} t pos some = record {
    inside = omega arith;
    long = simp length-set t.long;
    handed =
        held_turn (is_leaf d) (parent d) (region_count d) nests t.handed pos (omega arith) (omega arith)
        (omega (arith, lower)) settled;
    with_child = λ j lj mj. by_equal j k (λ e. rw e (has_child_lem k (omega arith) (λ z. settled (t.handed.entry (suc k) (omega arith) ∙ z))))
        (λ ne. t.with_child j (omega arith) mj);
    found =
        λ q lq mq.
        get_or-set_other best (parent d (suc k)) q _ 0 (λ e. omega (arith, lower))
        ∙ by_equal q (suc k)
        (λ e. rw e (held_own (is_leaf d) (parent d) (region_count d) nests t.handed (omega arith) (omega arith) settled))
        (λ ne. t.found q (omega arith) mq);
  }
    where
      lower : parent d (suc k) < suc k
      lower = nests.lower (suc k) pos (omega arith)

      settled : get_or best (suc k) 0 ≡ 0 → leaf_word d k ≡ true
      settled = none_leaf (get_or best (suc k) 0) (leaf_word d k) some

  -- after the last turn: refusal 13 does not apply,
  pub all_passed : {best : List ℕ} → Passed d best 0 → childless_regions d ≡ false
  unfolding childless_regions
  all_passed t = any_false (childless d) (words d) (λ k l. t.with_child k (omega arith) l)

  -- and what region 0 holds is its height, or 0 where it has no child, so that 1 at least makes all heights found
  root_height : {best : List ℕ} → Passed d best 0 → max 1 (get_or best 0 0) ≡ height d 0
  root_height t =
      ap (max 1) (t.handed.entry 0 (omega (arith, t.long))) ∙ sym (inner_high (is_leaf d) (parent d) (region_count d) nests 0 (omega arith) refl)

  pub all_found : {best : List ℕ} → Passed d best 0 → HeightsFound d (set best 0 (max 1 (get_or best 0 0)))
  all_found {best} t = record {
    each =
        λ q l.
        set_elim (λ z. z ≡ height d q) best 0 q _ 0 (omega (arith, t.long))
        (λ root. root_height t ∙ ap (height d) (sym root))
        (λ other. t.found q (omega arith) l);
  }
