-- Which regions of a nesting are left. What stays, by a child that stays, is never dropped, and what does not stay is dropped in time, from the last region
-- back; so as many times as there are regions are enough.
use Prim.Native.Nat.{ℕ, zero, suc, ◌+◌, ◌<◌, ◌≤◌}
use mathlib.Core.Bool.{Bool, true, false, cond, true≢false, ◌||◌, or-true}
use mathlib.Core.Path.{◌≡◌, refl, sym, ap, ◌∙◌}
use borrow.Author.Tests.{eqb-true, eqb-false, eq-eqb, ne_eqb}
use native.Mathlib.Nat.{le_refl}
use native.Mathlib.Omega.{arith}
use lib.Dec.{eqb}
use Rattle.indices.proofs.Steps.{by_truth}
use Rattle.indices.proofs.Tests.{any_ext, any_at, any_hit, any_found, any_false, or_left, or_right}
use Rattle.sheet.specs.Inner.{Nesting}
use Rattle.sheet.proofs.Heights.{child_after}
use Rattle.conversion.specs.Kept.{has_child, left_after, left}

-- A leaf stays if it is kept, and an inner region if it is 0 or has a child that stays. The first argument bounds how deep to look.
module _ (leaf : ℕ → Bool) (parent : ℕ → ℕ) (keeps : ℕ → Bool) (n : ℕ) where
  pub stays_in : ℕ → ℕ → Bool
  stays_in zero r = false
  stays_in (suc depth) r = cond (leaf r) (keeps r) (eqb r 0 || has_child leaf parent keeps n (stays_in depth) r)

  -- no chain of children is longer than there are regions
  pub stays : ℕ → Bool
  stays r = stays_in n r

-- what is asked of a child only
if_child : (b x y : Bool) → (b ≡ true → x ≡ y) → cond b x false ≡ cond b y false
if_child true x y h = h refl
if_child false x y h = refl

both : (b x : Bool) → cond b x false ≡ true → (b ≡ true) × (x ≡ true)
both true x e = (refl, e)
both false x e = absurd (true≢false (sym e))

never_left : (b : Bool) → cond b false false ≡ false
never_left true = refl
never_left false = refl

module _ (leaf : ℕ → Bool) (parent : ℕ → ℕ) (keeps : ℕ → Bool) (n : ℕ) (nests : Nesting leaf parent n) where
  abbrev stay : ℕ → Bool
  stay = stays leaf parent keeps n

  abbrev after : ℕ → ℕ → Bool
  after = left_after leaf parent keeps n

  abbrev child_among : (ℕ → Bool) → ℕ → Bool
  child_among = has_child leaf parent keeps n

  -- of the children of r, those that stay, seen so deep
  abbrev child_in : ℕ → ℕ → ℕ → Bool
  child_in depth r c = cond (eqb (parent c) r) (stays_in leaf parent keeps n depth c) false

  -- WHAT STAYS: the rule as an equation without a bound on depth
  stays_deep : (f g r : ℕ) → r < n → n ≤ r + f → n ≤ r + g → stays_in leaf parent keeps n f r ≡ stays_in leaf parent keeps n g r
  unfolding stays_in
  stays_deep zero g r lr lf lg = absurd (omega arith)
  stays_deep (suc f) zero r lr lf lg = absurd (omega arith)
  stays_deep (suc f) (suc g) r lr lf lg =
      ap (λ (x : Bool). cond (leaf r) (keeps r) (eqb r 0 || x))
      (any_ext (child_in f r) (child_in g r) n
      (λ c lc. if_child (eqb (parent c) r) _ _
      (λ e. let later = child_after leaf parent n nests r c lr lc e in stays_deep f g c lc (omega arith) (omega arith))))

  unrolled : (depth r : ℕ) → r < n → n ≡ suc depth → stays_in leaf parent keeps n (suc depth) r ≡ cond (leaf r) (keeps r) (eqb r 0 || child_among stay r)
  unfolding stays_in stays
  unrolled depth r lr e =
      ap (λ (x : Bool). cond (leaf r) (keeps r) (eqb r 0 || x))
      (any_ext (child_in depth r) (child_in n r) n
      (λ c lc. if_child (eqb (parent c) r) _ _
      (λ q. let later = child_after leaf parent n nests r c lr lc q in stays_deep depth n c lc (omega arith) (omega arith))))

  stays_rule : (r : ℕ) → r < n → stay r ≡ cond (leaf r) (keeps r) (eqb r 0 || child_among stay r)
  unfolding stays
  stays_rule r lr = at n refl
    where
      at : (m : ℕ) → n ≡ m → stays_in leaf parent keeps n n r ≡ cond (leaf r) (keeps r) (eqb r 0 || child_among stay r)
      at zero e = absurd (omega arith)
      at (suc m) e = ap (λ (f : ℕ). stays_in leaf parent keeps n f r) e ∙ unrolled m r lr e

  leaf_stays : (r : ℕ) → r < n → leaf r ≡ true → stay r ≡ keeps r
  leaf_stays r lr e = stays_rule r lr ∙ ap (λ (b : Bool). cond b (keeps r) (eqb r 0 || child_among stay r)) e

  inner_stays : (r : ℕ) → r < n → leaf r ≡ false → stay r ≡ eqb r 0 || child_among stay r
  inner_stays r lr e = stays_rule r lr ∙ ap (λ (b : Bool). cond b (keeps r) (eqb r 0 || child_among stay r)) e

  -- a child that passes, found and given
  child_found : (p : ℕ → Bool) (r : ℕ) → child_among p r ≡ true → (c : ℕ) × (c < n) × (parent c ≡ r) × (p c ≡ true)
  child_found p r some =
      let q = any_found (λ c. cond (eqb (parent c) r) (p c) false) n some in
      let t = both (eqb (parent q.0) r) (p q.0) q.2 in
      (q.0, q.1, eqb-true (parent q.0) r t.0, t.1)

  child_given : (p : ℕ → Bool) (r c : ℕ) → c < n → parent c ≡ r → p c ≡ true → child_among p r ≡ true
  child_given p r c lc e s = any_hit (λ c. cond (eqb (parent c) r) (p c) false) c n lc (rw (eq-eqb (parent c) r e, s))

  child_stays : (r : ℕ) → 0 < r → r < n → leaf r ≡ false → stay r ≡ true → child_among stay r ≡ true
  child_stays r pos lr e s = rw (inner_stays r lr e, ne_eqb r 0 (λ q. omega arith)) at s

  parent_stays : (c : ℕ) → 0 < c → c < n → stay c ≡ true → stay (parent c) ≡ true
  parent_stays c pos lc s =
      let below = nests.lower c pos lc in
      inner_stays (parent c) (omega arith) (nests.inner c pos lc)
      ∙ ap (λ (x : Bool). eqb (parent c) 0 || x) (child_given stay (parent c) c lc refl s)
      ∙ or-true (eqb (parent c) 0)

  -- THE DROPPING: what stays is never dropped
  never_dropped : (k r : ℕ) → r < n → stay r ≡ true → after k r ≡ true
  unfolding left_after
  never_dropped zero r lr s = by_truth (leaf r) (λ e. rw e (sym (leaf_stays r lr e) ∙ s)) (λ e. rw e)
  never_dropped (suc k) r lr s =
      rw (never_dropped k r lr s)
      (by_truth (leaf r) (λ e. rw e)
      (λ e. rw e (by_truth (eqb r 0) (λ q. rw q)
      (λ q.
      let pos : 0 < r = omega (arith, eqb-false r 0 q) in
      let c = child_found stay r (child_stays r pos lr e s) in
      rw q (child_given (after k) r c.0 c.1 c.2 (never_dropped k c.0 c.1 c.3))))))

  -- what does not stay is dropped in time: region r at the latest by n - r times
  leaf_dropped : (k r : ℕ) → leaf r ≡ true → keeps r ≡ false → after k r ≡ false
  unfolding left_after
  leaf_dropped zero r e s = rw e s
  leaf_dropped (suc k) r e s = rw (leaf_dropped k r e s)

  no_child_left : (k r : ℕ) → r < n → child_among stay r ≡ false → ((c : ℕ) → c < n → r < c → stay c ≡ false → after k c ≡ false)
      → child_among (after k) r ≡ false
  no_child_left k r lr none ih =
      any_false (λ c. cond (eqb (parent c) r) (after k c) false) n
      (λ c lc. at c lc (eqb (parent c) r) refl (any_at (λ c. cond (eqb (parent c) r) (stay c) false) n c none lc))
    where
      at : (c : ℕ) → c < n → (b : Bool) → eqb (parent c) r ≡ b → cond b (stay c) false ≡ false → cond b (after k c) false ≡ false
      at c lc true e t = ih c lc (child_after leaf parent n nests r c lr lc e) t
      at c lc false e t = refl

  dropped : (k r : ℕ) → r < n → stay r ≡ false → n ≤ r + k → after k r ≡ false
  unfolding left_after
  dropped zero r lr s l = absurd (omega arith)
  dropped (suc k) r lr s l =
      by_truth (leaf r) (λ e. leaf_dropped (suc k) r e (sym (leaf_stays r lr e) ∙ s))
      (λ e.
      let none = sym (inner_stays r lr e) ∙ s in
      let gone = no_child_left k r lr (or_right (eqb r 0) (child_among stay r) none) (λ c lc later t. dropped k c lc t (omega arith)) in
      rw (e, or_left (eqb r 0) (child_among stay r) none, gone) (never_left (after k r)))

  left_in_time : (k r : ℕ) → n ≤ k → r < n → after k r ≡ stay r
  left_in_time k r lk lr =
      by_truth (stay r) (λ s. never_dropped k r lr s ∙ sym s) (λ s. dropped k r lr s (omega arith) ∙ sym s)

  -- WHAT IS LEFT is what stays, and to drop more times changes nothing
  abbrev left_over : ℕ → Bool
  left_over = left leaf parent keeps n

  pub left_stays : (r : ℕ) → r < n → left_over r ≡ stay r
  unfolding left
  left_stays r lr = left_in_time n r (le_refl n) lr

  pub no_more_dropped : (k r : ℕ) → n ≤ k → r < n → after k r ≡ left_over r
  no_more_dropped k r lk lr = left_in_time k r lk lr ∙ sym (left_stays r lr)

  pub leaf_left : (r : ℕ) → r < n → leaf r ≡ true → left_over r ≡ keeps r
  leaf_left r lr e = left_stays r lr ∙ leaf_stays r lr e

  pub root_left : leaf 0 ≡ false → left_over 0 ≡ true
  root_left e = left_stays 0 nests.root ∙ inner_stays 0 nests.root e

  -- an inner region other than 0 that is left has a child that is left
  pub child_left : (r : ℕ) → 0 < r → r < n → leaf r ≡ false → left_over r ≡ true → (c : ℕ) × (c < n) × (parent c ≡ r) × (left_over c ≡ true)
  child_left r pos lr e s =
      let c = child_found stay r (child_stays r pos lr e (sym (left_stays r lr) ∙ s)) in
      (c.0, c.1, c.2, left_stays c.0 c.1 ∙ c.3)

  pub none_childless : (r : ℕ) → 0 < r → r < n → leaf r ≡ false → left_over r ≡ true → child_among left_over r ≡ true
  none_childless r pos lr e s = let c = child_left r pos lr e s in child_given left_over r c.0 c.1 c.2 c.3

  -- and the parent of a region that is left is left
  pub parent_left : (c : ℕ) → 0 < c → c < n → left_over c ≡ true → left_over (parent c) ≡ true
  parent_left c pos lc s =
      let below = nests.lower c pos lc in
      left_stays (parent c) (omega arith) ∙ parent_stays c pos lc (sym (left_stays c lc) ∙ s)
