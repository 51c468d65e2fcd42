-- The pigeonhole: m different numbers below n are at most n, by moving the value n - 1 out of the way.
use Rattle.std.specs.Prelude.{if◌then◌else◌}
use Prim.Native.Nat.{ℕ, zero, suc, ◌≤◌, ◌<◌}
use native.Mathlib.Omega.{arith}
use mathlib.Core.Path.{◌≡◌, sym, ◌∙◌}
use mathlib.Core.Logic.{◌≢◌}
use lib.Dec.{eqb, eqb→eq}
use Rattle.indices.proofs.Steps.{if_elim, neqb→ne}

-- f with its value n replaced by p
moved : (ℕ → ℕ) → ℕ → ℕ → ℕ → ℕ
moved f n p i = if eqb (f i) n then p else f i

moved_elim : (P : ℕ → Type 0) (f : ℕ → ℕ) (n p i : ℕ) → (f i ≡ n → P p) → (f i ≢ n → P (f i)) → P (moved f n p i)
unfolding moved
moved_elim P f n p i a b = if_elim P (eqb (f i) n) (λ t. a (eqb→eq _ _ t)) (λ t. b (neqb→ne _ _ t))

-- f sends the numbers below m to different numbers below n: m is at most n
pub pigeonhole : (n m : ℕ) (f : ℕ → ℕ) → ((i : ℕ) → i < m → f i < n) → ((i j : ℕ) → i < m → j < m → f i ≡ f j → i ≡ j) → m ≤ n
pigeonhole n zero f below differ = omega arith
pigeonhole zero (suc m) f below differ = absurd (omega (arith, below zero (omega arith)))
pigeonhole (suc n) (suc m) f below differ =
    omega (
      arith,
      pigeonhole n m (moved f n (f m))
          (λ i l. moved_elim (λ (x : ℕ). x < n) f n (f m) i
          (λ e. let last : f m ≢ n = λ w. not_last i l (e ∙ sym w) in omega (arith, below m (omega arith)))
          (λ e. omega (arith, below i (omega arith))))
          (λ i j li lj. moved_elim (λ (x : ℕ). x ≡ moved f n (f m) j → i ≡ j) f n (f m) i
          (λ e. moved_elim (λ (x : ℕ). f m ≡ x → i ≡ j) f n (f m) j
          (λ e' _. differ i j (omega arith) (omega arith) (e ∙ sym e')) (λ _ w. absurd (not_last j lj (sym w))))
          (λ _. moved_elim (λ (x : ℕ). f i ≡ x → i ≡ j) f n (f m) j
          (λ _ w. absurd (not_last i li w)) (λ _ w. differ i j (omega arith) (omega arith) w))),
    )
  where
    not_last : (i : ℕ) → i < m → f i ≢ f m
    not_last i l e = omega (arith, differ i m (omega arith) (omega arith) e)
