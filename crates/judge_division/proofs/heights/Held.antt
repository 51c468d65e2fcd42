-- Each region from the last one back hands its height and one more to its parent. What a region holds when its turn comes is its height, unless it is
-- inner and has no child: then it is 0.
use Prim.Native.Nat.{ℕ, zero, suc, max, ◌+◌, ◌-◌, ◌<◌, ◌≤◌}
use mathlib.Core.Bool.{Bool, true, false, cond, true≢false}
use mathlib.Core.List.{List}
use mathlib.Core.Path.{◌≡◌, refl, sym, ap, ◌∙◌}
use borrow.Author.Tests.{ne_eqb}
use native.Mathlib.Omega.{arith}
use lib.ListN.{length, get_or, set}
use Rattle.indices.proofs.Steps.{by_truth}
use Rattle.sheet.specs.Heights.{height_of}
use Rattle.sheet.specs.Inner.{Nesting}
use Rattle.sheet.proofs.Heights.{height_most, leaf_height}
use Rattle.sheet.proofs.Handed.{handed_from, Handed, handed_le, handed_childless, handed_suc, handed_turn, height_handed}

module _ (leaf : ℕ → Bool) (parent : ℕ → ℕ) (n : ℕ) where
  -- what a region hands up
  abbrev pub above : ℕ → ℕ
  above c = suc (height_of leaf parent n c)

  -- the largest that the regions above r hand to r
  abbrev pub held_by : ℕ → ℕ
  held_by r = handed_from parent above n (suc r) r

  pub held_le : (r : ℕ) → held_by r ≤ suc n
  held_le r = handed_le parent above n (suc n) (λ c. omega (arith, height_most leaf parent n c)) (suc r) r

  module _ (nests : Nesting leaf parent n) where
    -- an inner region is as high as the largest handed to it, and 1 without a child
    pub inner_high : (r : ℕ) → r < n → leaf r ≡ false → height_of leaf parent n r ≡ max 1 (held_by r)
    inner_high r lr inner =
        let high = handed_from parent (height_of leaf parent n) n (suc r) r in
        height_handed leaf parent n nests (suc r) r lr (omega arith) ∙ ap (λ (b : Bool). cond b 0 (suc high)) inner
        ∙ sym (handed_suc parent (height_of leaf parent n) n (suc r) r)

    -- nothing is handed to a leaf
    no_child : (r c : ℕ) → r < n → c < n → leaf r ≡ true → parent c ≡ r → ⊥
    no_child r zero lr lc lf e = omega (arith, nests.alone)
    no_child r (suc c) lr lc lf e = true≢false (sym lf ∙ ap leaf (sym e) ∙ nests.inner (suc c) (omega arith) lc)

    -- what a region holds is its height, where it is a leaf if it holds 0
    own_height : (r : ℕ) → r < n → (held_by r ≡ 0 → leaf r ≡ true) → held_by r ≡ height_of leaf parent n r
    own_height r lr settled =
        by_truth (leaf r)
        (λ lf. handed_childless parent above n (suc r) r (λ c lc. ne_eqb (parent c) r (no_child r c lr lc lf)) ∙ sym (leaf_height leaf parent n nests r lr lf))
        (λ inner.
        let held : (held_by r ≡ 0 → ⊥) = λ z. true≢false (sym (settled z) ∙ inner) in
        omega (arith, inner_high r lr inner))

    -- where it is a leaf if it holds 0, a region holds its height when its turn comes
    pub held_own : {best : List ℕ} {r : ℕ} → Handed parent above n best r → r < n → r < length best → (get_or best r 0 ≡ 0 → leaf r ≡ true)
        → get_or best r 0 ≡ height_of leaf parent n r
    held_own {best} {r} t l lr settled = let held = t.entry r lr in held ∙ own_height r l (λ z. settled (held ∙ z))

    -- region r hands what it holds, and one more, to its parent
    pub held_turn : {best : List ℕ} {r : ℕ} → Handed parent above n best r → 0 < r → r < n → r < length best → parent r < length best
        → (get_or best r 0 ≡ 0 → leaf r ≡ true)
        → Handed parent above n (set best (parent r) (max (get_or best (parent r) 0) (get_or best r 0 + 1))) (r - 1)
    held_turn {best} {r} t pos l lr lp settled =
        let own = held_own t l lr settled in
        handed_turn parent above n best r (parent r) _ pos l lp refl (omega arith) t
