-- What resuming a sheet and a table that are not refused gives. Definitions.
use Rattle.std.specs.Prelude.{ℕ, Bool, ◌≡◌, List}
use Rattle.procedure.specs.OfSheet.{graph_of, division_of}
use Rattle.procedure.specs.Procedure.{ended}
use Rattle.calls.specs.Resume.{resumed, resumed_table}

-- whether the new state has ended, and its table
pub record Outcome (b table : List ℕ) (k : ℕ) (hasEnded : Bool) (table' : List ℕ) : Type 0 where
  pub status : hasEnded ≡ ended (graph_of b) (division_of b) (resumed b table k)
  pub words : table' ≡ resumed_table b table k
