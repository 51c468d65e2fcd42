-- Columns: lists of numbers, read by index. Definitions.
use Rattle.std.specs.Prelude.{ℕ, zero, suc, Bool, List, [], ◌∷◌, ◌++◌, get_or, if◌then◌else◌}

-- the entry at i, as a slice is read
abbrev pub at : List ℕ → ℕ → ℕ
at column i = get_or column i 0

-- f 0, f 1, and so on up to f (n - 1)
unfoldable pub column : ℕ → (ℕ → ℕ) → List ℕ
column zero f = []
column (suc n) f = f 0 ∷ column n (λ i. f (suc i))

-- the entries that pass the test, in order
unfoldable pub passing : (ℕ → Bool) → List ℕ → List ℕ
passing test [] = []
passing test (x ∷ xs) = let rest = passing test xs in if test x then x ∷ rest else rest

-- the entries of each index below n that passes the test, one index after the other: what is left is in its old order, and the new number of an index that is
-- left is the `count` of those before it
unfoldable pub selected : (ℕ → Bool) → (ℕ → List ℕ) → ℕ → List ℕ
selected test entries zero = []
selected test entries (suc n) = selected test entries n ++ (if test n then entries n else [])
