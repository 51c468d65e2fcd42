-- The work of a run by graph, labels and counts: what the theory of the procedure shows of states, and tables are read by. Definitions.
use Rattle.std.specs.Prelude.{ℕ, ◌+◌, ◌*◌, ◌≤◌, ◌<◌, ◌≡◌, List, ltb}
use Rattle.indices.specs.Columns.{at}
use Rattle.indices.specs.Tests.{count}
use Rattle.sheet.specs.Words.{top}
use Rattle.procedure.specs.Graph.{Graph, arcs, tail}

-- how many arcs leave a reached node
abbrev pub reached_tails : Graph → List ℕ → ℕ
reached_tails g labels = count (λ a. ltb (at labels (tail g a)) top) (arcs g)

-- a leaf worked for each of them, and a round for each leaf
pub record RoundEach (g : Graph) (labels : List ℕ) (rounds leaves : ℕ) : Type 0 where
  pub each_once : leaves ≡ reached_tails g labels
  pub each_round : rounds ≡ leaves

-- a leaf worked for each of them, shared out to the rounds in shares of the span's size, the last perhaps smaller
pub record RoundShared (g : Graph) (labels : List ℕ) (span rounds leaves : ℕ) : Type 0 where
  pub each_once : leaves ≡ reached_tails g labels
  pub enough : leaves ≤ rounds * span
  pub needed : rounds * span < leaves + span
