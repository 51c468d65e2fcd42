-- The counts that are written into a table, each of which fits two times 28 bits. Definitions.
use Rattle.std.specs.Prelude.{ℕ, ◌^◌, ◌<◌, ◌≡◌, List, length}
use Rattle.indices.specs.Columns.{at}
use Rattle.procedure.specs.Table.{counts_length}

pub record Countable (counts : List ℕ) : Type 0 where
  pub all : length counts ≡ counts_length
  pub small : (i : ℕ) → i < counts_length → at counts i < 2 ^ 56
