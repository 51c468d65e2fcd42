-- Sums and counts over the indices below a bound, and how one index changes them.
use Prim.Native.Nat.{ℕ, zero, suc, ◌+◌, ◌*◌, ◌≤◌, ◌<◌}
use mathlib.Core.Bool.{Bool, true, false, cond, ◌||◌, or-true, or-false}
use mathlib.Core.Path.{◌≡◌, refl, sym, ap, ◌∙◌}
use mathlib.Core.Logic.{◌≢◌, ◌⊎◌, inl, ⊎_elim}
use native.Mathlib.Omega.{arith}
use borrow.Author.Tests.{eqb-true, eq-eqb, ne_eqb}
use lib.Dec.{eqb}
use Rattle.indices.specs.Tests.{count, total}
use Rattle.indices.proofs.Steps.{by_equal, by_truth}
use Rattle.indices.proofs.Tests.{or_then, count_out_all}

pub total_same : (f g : ℕ → ℕ) (n : ℕ) → ((i : ℕ) → i < n → g i ≡ f i) → total g n ≡ total f n
unfolding total
total_same f g zero e = refl
total_same f g (suc n) e = omega (arith, total_same f g n (λ i l. e i (omega arith)), e n (omega arith))

-- g is f but at k
pub total_one : (f g : ℕ → ℕ) (k n : ℕ) → k < n → ((i : ℕ) → i < n → i ≢ k → g i ≡ f i) → total g n + f k ≡ total f n + g k
unfolding total
total_one f g k zero l e = absurd (omega arith)
total_one f g k (suc n) l e =
    by_equal k n
    (λ w. omega (arith, total_same f g n (λ i li. e i (omega arith) (λ v. omega arith)), ap f w, ap g w))
    (λ w. omega (arith, total_one f g k n (omega arith) (λ i li ni. e i (omega arith) ni), e n (omega arith) (λ v. w (sym v))))

pub total_le : (f : ℕ → ℕ) (n b : ℕ) → ((i : ℕ) → i < n → f i ≤ b) → total f n ≤ n * b
unfolding total
total_le f zero b h = omega arith
total_le f (suc n) b h = omega (arith, total_le f n b (λ i l. h i (omega arith)), h n (omega arith))

-- no term is greater, and so the sum
pub total_mono : (f g : ℕ → ℕ) (n : ℕ) → ((i : ℕ) → i < n → f i ≤ g i) → total f n ≤ total g n
unfolding total
total_mono f g zero h = omega arith
total_mono f g (suc n) h = omega (arith, total_mono f g n (λ i l. h i (omega arith)), h n (omega arith))

-- a count is a sum
count_total : (p : ℕ → Bool) (n : ℕ) → count p n ≡ total (λ i. cond (p i) 1 0) n
unfolding count total
count_total p zero = refl
count_total p (suc n) = omega (arith, count_total p n)

-- p' is p but at k
pub count_one : (p p' : ℕ → Bool) (k n : ℕ) → k < n → ((i : ℕ) → i < n → i ≢ k → p' i ≡ p i) → count p' n + cond (p k) 1 0 ≡ count p n + cond (p' k) 1 0
count_one p p' k n l e =
    omega (
      arith,
      count_total p n,
      count_total p' n,
      total_one (λ i. cond (p i) 1 0) (λ i. cond (p' i) 1 0) k n l (λ i li ni. ap (λ (b : Bool). cond b 1 0) (e i li ni)),
    )

-- what passes p' passes p or h
pub count_join : (p h p' : ℕ → Bool) (n : ℕ) → ((i : ℕ) → i < n → p' i ≡ true → (p i ≡ true) ⊎ (h i ≡ true)) → count p' n ≤ count p n + count h n
unfolding count
count_join p h p' zero e = omega arith
count_join p h p' (suc n) e = omega (arith, count_join p h p' n (λ i l t. e i (omega arith) t), at (p' n) (p n) (h n) (e n (omega arith)))
  where
    at : (x y z : Bool) → (x ≡ true → (y ≡ true) ⊎ (z ≡ true)) → cond x 1 0 ≤ cond y 1 0 + cond z 1 0
    at false y z f = omega arith
    at true y z f = ⊎_elim (λ (w : y ≡ true). rw w (omega arith)) (λ (w : z ≡ true). rw w (omega arith)) (f refl)

-- what passes p' passes p
pub count_within : (p p' : ℕ → Bool) (n : ℕ) → ((i : ℕ) → i < n → p' i ≡ true → p i ≡ true) → count p' n ≤ count p n
count_within p p' n e = omega (arith, count_join p (λ _. false) p' n (λ i l t. inl (e i l t)), count_out_all (λ _. false) n (λ i l. refl))

-- what passes p' passes p, and k passes p alone
pub count_less : (p p' : ℕ → Bool) (k n : ℕ) → k < n → ((i : ℕ) → i < n → p' i ≡ true → p i ≡ true) → p' k ≡ false → p k ≡ true → count p' n < count p n
count_less p p' k n l more out here =
    let q : ℕ → Bool = λ i. p' i || eqb i k in
    let same : (i : ℕ) → i < n → i ≢ k → q i ≡ p' i = λ i li ne. ap (λ (x : Bool). p' i || x) (ne_eqb i k ne) ∙ or-false (p' i) in
    let added : q k ≡ true = ap (λ (x : Bool). p' k || x) (eq-eqb k k refl) ∙ or-true (p' k) in
    let within : count q n ≤ count p n =
    count_within p q n (λ i li t. by_truth (p' i) (more i li) (λ e. ap p (eqb-true i k (or_then (p' i) (eqb i k) t e)) ∙ here)) in
    omega (arith, count_one p' q k n l same, ap {B = ℕ} (λ (x : Bool). cond x 1 0) out, ap {B = ℕ} (λ (x : Bool). cond x 1 0) added)

-- k passes, and no other index
pub count_single : (p : ℕ → Bool) (n k : ℕ) → k < n → p k ≡ true → ((i : ℕ) → i < n → p i ≡ true → i ≡ k) → count p n ≡ 1
count_single p n k l here only =
    let none : ℕ → Bool = λ _. false in
    let out : (i : ℕ) → i < n → i ≢ k → p i ≡ false = λ i li ne. by_truth (p i) (λ e. absurd (ne (only i li e))) (λ e. e) in
    omega (arith, count_one none p k n l out, count_out_all none n (λ _ _. refl), ap {B = ℕ} (λ (x : Bool). cond x 1 0) here)

-- p' is passed by what passes p or h, and nothing passes both
pub count_sum : (p h p' : ℕ → Bool) (n : ℕ) → ((i : ℕ) → i < n → cond (p' i) 1 0 ≡ cond (p i) 1 0 + cond (h i) 1 0) → count p' n ≡ count p n + count h n
unfolding count
count_sum p h p' zero e = refl
count_sum p h p' (suc n) e = omega (arith, count_sum p h p' n (λ i l. e i (omega arith)), e n (omega arith))
