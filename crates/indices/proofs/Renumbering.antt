-- A one-to-one map of the numbers below n into themselves reaches each, and counts, least and largest values are the same under a renumbering with an
-- inverse: one map gives 'at most', the other 'at least'.
use Rattle.std.specs.Prelude.{if◌then◌else◌}
use Prim.Native.Nat.{ℕ, suc, ◌+◌, ◌≤◌, ◌<◌}
use mathlib.Core.Bool.{Bool, true, not, ◌&&◌}
use mathlib.Core.Path.{◌≡◌, sym, ap, ◌∙◌}
use mathlib.Core.Logic.{⊎_elim}
use native.Mathlib.Omega.{arith}
use borrow.Author.Tests.{eqb-true, eq-eqb, not-false, lt-ltb, le-ltb}
use lib.Dec.{ltb, eqb}
use Rattle.indices.specs.Tests.{count, lead, most, least}
use Rattle.indices.proofs.Tests.{and_left, and_right, and_both, count_in_lem, count_mono, count_nth, lead_before, lead_false, first_passing}
use Rattle.indices.proofs.Steps.{lt_or_le}
use Rattle.indices.proofs.Most.{most_ge, most_le}
use Rattle.indices.proofs.Least.{least_limit, least_le, least_ge}
use Rattle.indices.proofs.Pigeonhole.{pigeonhole}

-- ONE-TO-ONE INTO ITSELF
-- f below n, and k at n
extended : (ℕ → ℕ) → ℕ → ℕ → ℕ → ℕ
extended f k n i = if ltb i n then f i else k

extended_below : (f : ℕ → ℕ) (k n i : ℕ) → i < n → extended f k n i ≡ f i
unfolding extended
extended_below f k n i l = rw (lt-ltb i n l)

extended_last : (f : ℕ → ℕ) (k n i : ℕ) → n ≤ i → extended f k n i ≡ k
unfolding extended
extended_last f k n i l = rw (le-ltb i n l)

module _ (n : ℕ) (f : ℕ → ℕ) (below : (i : ℕ) → i < n → f i < n) (differ : (i j : ℕ) → i < n → j < n → f i ≡ f j → i ≡ j) where
  -- a number that is not reached would leave room for one more
  not_missed : (k : ℕ) → k < n → ((i : ℕ) → i < n → f i ≡ k → ⊥) → ⊥
  not_missed k l missed =
      let h = extended f k n in
      omega (
        arith,
        pigeonhole n (suc n) h
            (λ i li. ⊎_elim (λ (s : i < n). omega (arith, extended_below f k n i s, below i s)) (λ (s : n ≤ i). omega (arith, extended_last f k n i s))
            (lt_or_le i n))
            (λ i j li lj e. ⊎_elim
            (λ (s : i < n). ⊎_elim
            (λ (t : j < n). differ i j s t (sym (extended_below f k n i s) ∙ e ∙ extended_below f k n j t))
            (λ (t : n ≤ j). absurd (missed i s (sym (extended_below f k n i s) ∙ e ∙ extended_last f k n j t))) (lt_or_le j n))
            (λ (s : n ≤ i). ⊎_elim
            (λ (t : j < n). absurd (missed j t (sym (extended_below f k n j t) ∙ sym e ∙ extended_last f k n i s)))
            (λ (t : n ≤ j). omega arith) (lt_or_le j n)) (lt_or_le i n)),
      )

  -- so each is found
  pub search_reaches : (k : ℕ) → k < n → (lead (λ i. not (eqb (f i) k)) n < n) × (f (lead (λ i. not (eqb (f i) k)) n) ≡ k)
  search_reaches k l =
      let miss : ℕ → Bool = λ i. not (eqb (f i) k) in
      let found : lead miss n < n =
      ⊎_elim (λ (s : lead miss n < n). s)
      (λ (s : n ≤ lead miss n).
      absurd (not_missed k l (λ i li e. omega (arith, lead_before miss n i li (ap not (eq-eqb (f i) k e))))))
      (lt_or_le (lead miss n) n) in
      (found, eqb-true (f (lead miss n)) k (not-false (eqb (f (lead miss n)) k) (lead_false miss n found)))

-- COUNTS
-- the passing index before which k others pass
nth : (ℕ → Bool) → ℕ → ℕ → ℕ
nth p n k = lead (λ i. not (p i && eqb (count p i) k)) n

nth_found : (p : ℕ → Bool) (n k : ℕ) → k < count p n → (nth p n k < n) × (p (nth p n k) ≡ true) × (count p (nth p n k) ≡ k)
unfolding nth
nth_found p n k l =
    let w = count_nth p n k l in
    let q = first_passing (λ i. p i && eqb (count p i) k) n w.0 w.1 (and_both (p w.0) _ w.2 (eq-eqb (count p w.0) k w.3)) in
    (q.0, and_left (p (nth p n k)) _ q.1, eqb-true (count p (nth p n k)) k (and_right (p (nth p n k)) _ q.1))

-- how many pass before an index that passes tells it apart
pub count_apart : (q : ℕ → Bool) (x y : ℕ) → q x ≡ true → q y ≡ true → count q x ≡ count q y → x ≡ y
count_apart q x y hx hy e =
    let up : ¬ (x < y) = λ l. omega (arith, count_in_lem q x hx, count_mono q (x + 1) y (omega arith)) in
    let down : ¬ (y < x) = λ l. omega (arith, count_in_lem q y hy, count_mono q (y + 1) x (omega arith)) in
    omega arith

-- f takes what passes p to different indices that pass q
pub count_into : (p q : ℕ → Bool) (n m : ℕ) (f : ℕ → ℕ) → ((i : ℕ) → i < n → p i ≡ true → (f i < m) × (q (f i) ≡ true))
    → ((i j : ℕ) → i < n → j < n → f i ≡ f j → i ≡ j) → count p n ≤ count q m
count_into p q n m f into differ =
    pigeonhole (count q m) (count p n) (λ k. count q (f (nth p n k)))
    (λ k l.
    let w = nth_found p n k l in
    let v = into (nth p n k) w.0 w.1 in
    omega (arith, count_in_lem q (f (nth p n k)) v.1, count_mono q (f (nth p n k) + 1) m (omega (arith, v.0))))
    (λ k j lk lj e.
    let w = nth_found p n k lk in
    let u = nth_found p n j lj in
    let same = differ (nth p n k) (nth p n j) w.0 u.0
    (count_apart q (f (nth p n k)) (f (nth p n j)) (into (nth p n k) w.0 w.1).1 (into (nth p n j) u.0 u.1).1 e) in
    sym w.2 ∙ ap (count p) same ∙ u.2)

-- UNDER A RENUMBERING
module _ (n m : ℕ) (to from : ℕ → ℕ) (to_in : (r : ℕ) → r < n → to r < m) (from_in : (r : ℕ) → r < m → from r < n)
    (from_to : (r : ℕ) → r < n → from (to r) ≡ r) (to_from : (r : ℕ) → r < m → to (from r) ≡ r) where
  pub to_apart : (i j : ℕ) → i < n → j < n → to i ≡ to j → i ≡ j
  to_apart i j li lj e = sym (from_to i li) ∙ ap from e ∙ from_to j lj

  from_apart : (i j : ℕ) → i < m → j < m → from i ≡ from j → i ≡ j
  from_apart i j li lj e = sym (to_from i li) ∙ ap to e ∙ to_from j lj

  pub count_renumbered : (p q : ℕ → Bool) → ((i : ℕ) → i < n → q (to i) ≡ p i) → count p n ≡ count q m
  count_renumbered p q same =
      let up : count p n ≤ count q m = count_into p q n m to (λ i l h. (to_in i l, same i l ∙ h)) to_apart in
      let down : count q m ≤ count p n =
      count_into q p m n from (λ j l h. (from_in j l, sym (same (from j) (from_in j l)) ∙ ap q (to_from j l) ∙ h)) from_apart in
      omega arith

  pub least_renumbered : (limit : ℕ) (f g : ℕ → ℕ) → ((i : ℕ) → i < n → g (to i) ≡ f i) → least limit f n ≡ least limit g m
  least_renumbered limit f g same =
      let up : least limit f n ≤ least limit g m =
      least_ge limit g m (least limit f n) (least_limit limit f n)
      (λ j l. omega (arith, least_le limit f n (from j) (from_in j l), same (from j) (from_in j l), ap g (to_from j l))) in
      let down : least limit g m ≤ least limit f n =
      least_ge limit f n (least limit g m) (least_limit limit g m) (λ i l. omega (arith, least_le limit g m (to i) (to_in i l), same i l)) in
      omega arith

  pub most_renumbered : (f g : ℕ → ℕ) → ((i : ℕ) → i < n → g (to i) ≡ f i) → most f n ≡ most g m
  most_renumbered f g same =
      let up : most f n ≤ most g m = most_le f n (most g m) (λ i l. omega (arith, most_ge g m (to i) (to_in i l), same i l)) in
      let down : most g m ≤ most f n =
      most_le g m (most f n) (λ j l. omega (arith, most_ge f n (from j) (from_in j l), same (from j) (from_in j l), ap g (to_from j l))) in
      omega arith
