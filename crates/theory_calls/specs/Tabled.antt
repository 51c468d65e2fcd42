-- What is asked of a state that is written into a table. Definitions.
use Rattle.std.specs.Prelude.{ℕ, List}
use Rattle.procedure.specs.OfSheet.{graph_of, division_of}
use Rattle.procedure.specs.State.{State}
use Rattle.theory.specs.Sound.{Shape, Sound, Root}
use Rattle.theory.specs.Counts.{Small, Levelled}

-- a state between rounds that a table of the sheet can hold: the invariant, and counts that fit, 0 at unused heights
pub record Tabled (b : List ℕ) (s : State) : Type 0 where
  pub shape : Shape (graph_of b) (division_of b) s
  pub sound : Sound (graph_of b) (division_of b) Root s
  pub levelled : Levelled (division_of b) s
  pub small : Small s
