-- The order among the items of a region, by key, height and number, one figure after the other. What the procedure's theory rests on are the five laws and
-- `before_key`; behind them look, by `no_better` and `not_before`, what the first-chosen child is (Choice) and the comparison of entries (crates/run_queue).
use Prim.Native.Nat.{ℕ, ◌≤◌, ◌<◌}
use mathlib.Core.Bool.{Bool, true, false, false≢true}
use mathlib.Core.Path.{◌≡◌, refl, sym, ◌∙◌}
use mathlib.Core.Logic.{◌⊎◌, inl, inr, ⊎_elim}
use mathlib.Core.List.{List}
use native.Mathlib.Omega.{arith}
use borrow.Author.Tests.{lt-ltb, le-ltb, eq-eqb, ne_eqb, ltb-false}
use Rattle.indices.specs.Columns.{at}
use Rattle.indices.proofs.Steps.{by_order, by_equal}
use Rattle.procedure.specs.Division.{Division, height}
use Rattle.procedure.specs.Queues.{lower_or, before}

-- ONE FIGURE, and what decides where it is the same

-- x is higher than y, or they are equal and P
abbrev pub Behind : ℕ → ℕ → Type 0 → Type 0
Behind x y P = (y < x) ⊎ ((y ≡ x) × P)

module _ (x y : ℕ) (t : Bool) where
  lower_is : x < y → lower_or x y t ≡ true
  lower_is l = rw (lt-ltb x y l)

  equal_is : x ≡ y → lower_or x y t ≡ t
  equal_is e = simp (le-ltb x y (omega arith), eq-eqb x y e)

  higher_is : y < x → lower_or x y t ≡ false
  higher_is l = simp (le-ltb x y (omega arith), ne_eqb x y (omega arith))

  not_lower : lower_or x y t ≡ false → Behind x y (t ≡ false)
  not_lower h =
      by_order x y (λ l. absurd (false≢true (sym h ∙ lower_is l)))
      (λ m. by_equal x y (λ e. inr (sym e, sym (equal_is e) ∙ h)) (λ n. inl (omega arith)))

  is_behind : Behind x y (t ≡ false) → lower_or x y t ≡ false
  is_behind (inl l) = higher_is l
  is_behind (inr e) = equal_is (sym e.0) ∙ e.1

behind_by : (x y : ℕ) {P Q : Type 0} → (P → Q) → Behind x y P → Behind x y Q
behind_by x y f (inl l) = inl l
behind_by x y f (inr e) = inr (e.0, f e.1)

-- of two figures one is behind the other
behind_either : (x y : ℕ) {P Q : Type 0} → P ⊎ Q → Behind x y P ⊎ Behind y x Q
behind_either x y o =
    by_order x y (λ l. inr (inl l))
    (λ m. by_equal x y (λ e. ⊎_elim (λ p. inl (inr (sym e, p))) (λ q. inr (inr (e, q))) o) (λ n. inl (inl (omega arith))))

behind_transitive : (x y z : ℕ) {P Q R : Type 0} → (P → Q → R) → Behind x y P → Behind y z Q → Behind x z R
behind_transitive x y z f (inl l) (inl m) = inl (omega arith)
behind_transitive x y z f (inl l) (inr e) = inl (omega (arith, e.0))
behind_transitive x y z f (inr e) (inl m) = inl (omega (arith, e.0))
behind_transitive x y z f (inr e) (inr e') = inr (e'.0 ∙ e.0, f e.1 e'.1)

-- two that are behind each other are the same, and what decides between them says both
behind_both : (x y : ℕ) {P Q : Type 0} → Behind x y P → Behind y x Q → P × Q
behind_both x y (inl l) (inl m) = absurd (omega arith)
behind_both x y (inl l) (inr e) = absurd (omega (arith, e.0))
behind_both x y (inr e) (inl m) = absurd (omega (arith, e.0))
behind_both x y (inr e) (inr e') = (e.1, e'.1)

-- TWO ITEMS, by key, height and number

module _ (d : Division) (keys : List ℕ) where
  -- a is not chosen before b
  abbrev pub NoBetter : ℕ → ℕ → Type 0
  NoBetter a b = Behind (at keys a) (at keys b) (Behind (height d a) (height d b) (b ≤ a))

  pub no_better : (a b : ℕ) → before d keys a b ≡ false → NoBetter a b
  unfolding before
  no_better a b h = behind_by _ _ (λ e. behind_by _ _ (ltb-false a b) (not_lower _ _ _ e)) (not_lower _ _ _ h)

  pub not_before : (a b : ℕ) → NoBetter a b → before d keys a b ≡ false
  unfolding before
  not_before a b n = is_behind _ _ _ (behind_by _ _ (λ e. is_behind _ _ _ (behind_by _ _ (le-ltb a b) e)) n)

  -- 1. nothing is before itself
  pub before_irreflexive : (a : ℕ) → before d keys a a ≡ false
  before_irreflexive a = not_before a a (inr (refl, inr (refl, omega arith)))

  -- 2. of two items at most one is before the other
  pub before_asymmetric : (a b : ℕ) → before d keys a b ≡ true → before d keys b a ≡ false
  before_asymmetric a b h =
      ⊎_elim (λ n. absurd (false≢true (sym (not_before a b n) ∙ h))) (not_before b a)
      (behind_either _ _ (behind_either _ _ (by_order b a (λ l. inl (omega arith)) (λ l. inr l))))

  -- 3. to be no better is transitive
  pub before_transitive : (a b c : ℕ) → before d keys a b ≡ false → before d keys b c ≡ false → before d keys a c ≡ false
  before_transitive a b c h k =
      not_before a c
      (behind_transitive _ _ _ (behind_transitive _ _ _ (λ (l : b ≤ a) (m : c ≤ b). omega arith)) (no_better a b h) (no_better b c k))

  -- 4. of two different items one is before the other
  pub before_antisymmetric : (a b : ℕ) → before d keys a b ≡ false → before d keys b a ≡ false → a ≡ b
  before_antisymmetric a b h k =
      let heights = behind_both _ _ (no_better a b h) (no_better b a k) in
      let numbers = behind_both _ _ heights.0 heights.1 in
      omega (arith, numbers.0, numbers.1)

  -- an item that is no better has no lower key
  pub before_key : (a b : ℕ) → before d keys a b ≡ false → at keys b ≤ at keys a
  before_key a b h = ⊎_elim (λ l. omega arith) (λ e. omega (arith, e.0)) (no_better a b h)

-- 5. of the keys, the order depends on those two alone
pub before_same : (d : Division) (keys keys' : List ℕ) (a b : ℕ) → at keys' a ≡ at keys a → at keys' b ≡ at keys b → before d keys' a b ≡ before d keys a b
unfolding before
before_same d keys keys' a b e f = rw (e, f)
