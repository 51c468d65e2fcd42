-- Links: the indices below m at which a column has a value, in order, found without a search. Definitions.
use Rattle.std.specs.Prelude.{ℕ, zero, suc, ◌+◌, ◌-◌, ◌<◌, ◌≡◌, List, length, eqb, cond, if◌then◌else◌}
use Rattle.indices.specs.Columns.{at}
use Rattle.run_arrays.specs.Rows.{row_count, row_tail, row_head, row_leaf, row_next}

module _ (column : ℕ → ℕ) where
  -- the first of n indices from a on at which the column has v, and a + n where there is none
  unfoldable pub next_for : ℕ → ℕ → ℕ → ℕ
  next_for v zero a = a
  next_for v (suc n) a = let later = next_for v n (suc a) in if eqb (column a) v then a else later

  -- the first index from a on at which the column has v; m where there is none
  unfoldable pub next_from : ℕ → ℕ → ℕ → ℕ
  next_from m v a = next_for v (m - a) a

  -- `first` has the first index of each value below n, `next` after each index below m the next one with the same value
  pub record Links (m n : ℕ) (first next : ℕ → ℕ) : Type 0 where
    pub short : m < 65536
    pub below : (a : ℕ) → a < m → column a < n
    pub firsts : (v : ℕ) → v < n → first v ≡ next_from m v 0
    pub nexts : (a : ℕ) → a < m → next a ≡ next_from m (column a) (a + 1)

  -- step a, if the column has v at a
  abbrev pub step_from {ℓ} : {S : Type ℓ} → ℕ → (ℕ → S → S) → ℕ → S → S
  step_from v step a s = let stepped = step a s in cond (eqb (column a) v) stepped s

-- arcs that can be linked: each tail is one of the nodes that have a first arc
pub record Linkable (arcs firsts : List ℕ) : Type 0 where
  pub short : row_count arcs < 65536
  pub below : (a : ℕ) → a < row_count arcs → row_tail arcs a < length firsts

-- The arcs' rows and each node's first arc once they are linked. Tails, heads and leaves are as they were.
pub record Linked (arcs arcs' firsts' : List ℕ) : Type 0 where
  pub tails : (a : ℕ) → row_tail arcs' a ≡ row_tail arcs a
  pub heads : (a : ℕ) → row_head arcs' a ≡ row_head arcs a
  pub leaves : (a : ℕ) → row_leaf arcs' a ≡ row_leaf arcs a
  pub links : Links (row_tail arcs) (row_count arcs) (length firsts') (at firsts') (row_next arcs')
