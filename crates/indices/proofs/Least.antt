-- Laws of `least`, the least value below a bound: at most the limit and each value, and one of the values where it is below the limit.
use Prim.Native.Nat.{ℕ, zero, suc, ◌≤◌, ◌<◌}
use mathlib.Core.Path.{◌≡◌, ap}
use mathlib.Core.Logic.{⊎_elim}
use native.Mathlib.Nat.{not-suc-le-zero, eq-or-lt_of_le, le_of_suc-le-suc}
use native.Mathlib.Omega.{arith}
use Rattle.indices.specs.Tests.{least}
use Rattle.indices.proofs.Steps.{by_order}

module _ (limit : ℕ) (f : ℕ → ℕ) where
  pub least_limit : (n : ℕ) → least limit f n ≤ limit
  unfolding least
  least_limit zero = omega arith
  least_limit (suc n) = omega (arith, least_limit n)

  pub least_le : (n i : ℕ) → i < n → least limit f n ≤ f i
  unfolding least
  least_le zero i l = absurd (not-suc-le-zero l)
  least_le (suc n) i l =
      ⊎_elim (λ (e : i ≡ n). omega (arith, ap f e)) (λ (s : i < n). omega (arith, least_le n i s)) (eq-or-lt_of_le (le_of_suc-le-suc l))

  pub least_ge : (n x : ℕ) → x ≤ limit → ((i : ℕ) → i < n → x ≤ f i) → x ≤ least limit f n
  unfolding least
  least_ge zero x t h = t
  least_ge (suc n) x t h = omega (arith, least_ge n x t (λ i l. h i (omega arith)), h n (omega arith))

  -- below the limit it is the value at some index
  pub least_at : (n : ℕ) → least limit f n < limit → (i : ℕ) × (i < n) × (f i ≡ least limit f n)
  unfolding least
  least_at zero l = absurd (omega arith)
  least_at (suc n) l =
      by_order (f n) (least limit f n) (λ s. (n, omega arith, omega arith))
      (λ s. let w = least_at n (omega arith) in (w.0, omega (arith, w.1), omega (arith, w.2)))
