-- Laws of `most`, the largest value below a bound.
use Prim.Native.Nat.{ℕ, zero, suc, max, ◌<◌, ◌≤◌}
use mathlib.Core.Bool.{Bool, cond}
use mathlib.Core.Path.{◌≡◌, refl, ap}
use mathlib.Core.Logic.{⊎_elim}
use native.Mathlib.Nat.{eq-or-lt_of_le, le_of_suc-le-suc, not-suc-le-zero}
use native.Mathlib.Omega.{arith}
use Rattle.indices.specs.Tests.{most}
use Rattle.indices.proofs.Steps.{by_truth}

pub most_ext : (f g : ℕ → ℕ) (n : ℕ) → ((k : ℕ) → k < n → f k ≡ g k) → most f n ≡ most g n
unfolding most
most_ext f g zero h = refl
most_ext f g (suc n) h = rw (most_ext f g n (λ k l. h k (omega arith)), h n (omega arith))

pub most_le : (f : ℕ → ℕ) (n top : ℕ) → ((k : ℕ) → k < n → f k ≤ top) → most f n ≤ top
unfolding most
most_le f zero top h = omega arith
most_le f (suc n) top h = omega (arith, most_le f n top (λ k l. h k (omega arith)), h n (omega arith))

-- g is f but at k, where f is 0
pub most_one : (f g : ℕ → ℕ) (k n : ℕ) → k < n → ((j : ℕ) → j < n → (j ≡ k → ⊥) → f j ≡ g j) → f k ≡ 0
    → most g n ≡ max (most f n) (g k)
unfolding most
most_one f g k zero l same z = absurd (not-suc-le-zero l)
most_one f g k (suc n) l same z =
    ⊎_elim
    (λ e.
    let rest : most f n ≡ most g n = most_ext f g n (λ j m. same j (omega arith) (λ q. omega arith)) in
    omega (arith, ap f e, ap g e))
    (λ lt.
    let rest : most g n ≡ max (most f n) (g k) = most_one f g k n lt (λ j m ne. same j (omega arith) ne) z in
    let here : f n ≡ g n = same n (omega arith) (λ q. omega arith) in
    omega arith)
    (eq-or-lt_of_le (le_of_suc-le-suc l))

pub most_ge : (f : ℕ → ℕ) (n k : ℕ) → k < n → f k ≤ most f n
unfolding most
most_ge f zero k l = absurd (not-suc-le-zero l)
most_ge f (suc n) k l =
    ⊎_elim (λ e. omega (arith, ap f e)) (λ lt. omega (arith, most_ge f n k lt)) (eq-or-lt_of_le (le_of_suc-le-suc l))

-- one more at each index that passes is one more in all, where any passes
pub most_suc : (p : ℕ → Bool) (h : ℕ → ℕ) (n : ℕ) → max 1 (most (λ c. cond (p c) (suc (h c)) 0) n) ≡ suc (most (λ c. cond (p c) (h c) 0) n)
unfolding most
most_suc p h zero = omega arith
most_suc p h (suc n) = let ih = most_suc p h n in by_truth (p n) (λ e. rw e (omega arith)) (λ e. rw e (omega arith))
