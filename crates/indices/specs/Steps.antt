-- Steps repeated. Each is computed. Definitions.
use Rattle.std.specs.Prelude.{ℕ, zero, suc, Bool, cond}

-- step 0, then step 1, and so on up to step (n - 1)
unfoldable pub up_to {ℓ} : {S : Type ℓ} → ℕ → (ℕ → S → S) → S → S
up_to zero step s = s
up_to (suc n) step s = step n (up_to n step s)

-- up to n steps, while the test holds
unfoldable pub times {ℓ} : {S : Type ℓ} → ℕ → (S → Bool) → (S → S) → S → S
times zero test step s = s
times (suc n) test step s = let rest = times n test step (step s) in cond (test s) rest s
