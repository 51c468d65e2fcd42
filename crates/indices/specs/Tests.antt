-- Tests and figures over the indices below a bound. Each is computed. Definitions.
use Rattle.std.specs.Prelude.{ℕ, zero, suc, ◌+◌, max, min, Bool, true, false, ◌&&◌, ◌||◌, if◌then◌else◌}

-- every index below n passes
unfoldable pub all : (ℕ → Bool) → ℕ → Bool
all p zero = true
all p (suc n) = all p n && p n

-- some index below n passes
unfoldable pub any : (ℕ → Bool) → ℕ → Bool
any p zero = false
any p (suc n) = any p n || p n

-- how many indices below n pass
unfoldable pub count : (ℕ → Bool) → ℕ → ℕ
count p zero = 0
count p (suc n) = count p n + (if p n then 1 else 0)

-- how many indices pass, from 0 on and below n, before the first that does not
unfoldable pub lead : (ℕ → Bool) → ℕ → ℕ
lead p zero = 0
lead p (suc n) = if p 0 then suc (lead (λ k. p (suc k)) n) else 0

-- the largest value at an index below n, 0 where there is none
unfoldable pub most : (ℕ → ℕ) → ℕ → ℕ
most f zero = 0
most f (suc n) = max (most f n) (f n)

-- the least value at an index below n, and the limit where there is none below it
unfoldable pub least : ℕ → (ℕ → ℕ) → ℕ → ℕ
least limit f zero = limit
least limit f (suc n) = min (least limit f n) (f n)

-- f 0 + f 1 + .. + f (n - 1)
unfoldable pub total : (ℕ → ℕ) → ℕ → ℕ
total f zero = 0
total f (suc n) = total f n + f n
