-- What a run of an accepted sheet gives. Definitions.
use Rattle.std.specs.Prelude.{ℕ, Bool, ◌≡◌, List}
use Rattle.calls.specs.Runs.{ended_after, filled_table}

-- whether the run has ended, and the table of the state after at most k rounds, in the form whose length the lent table has
pub record Outcome (b : List ℕ) (k : ℕ) (table : List ℕ) (hasEnded : Bool) (table' : List ℕ) : Type 0 where
  pub status : hasEnded ≡ ended_after b k
  pub words : table' ≡ filled_table b k table
