-- What it is for a round to work the leaf of the smallest key, as Dijkstra's procedure does. Definitions.
use Rattle.std.specs.Prelude.{ℕ, ◌≤◌, ◌<◌, true, ◌≡◌, List}
use Rattle.indices.specs.Columns.{at}
use Rattle.sheet.specs.Words.{top}
use Rattle.procedure.specs.Graph.{Graph, arcs}
use Rattle.procedure.specs.Division.{Division, regions, arc_of, is_leaf}
use Rattle.procedure.specs.State.{State}
use Rattle.procedure.specs.Procedure.{process_leaf}

-- arc a has the smallest own key of all
abbrev pub LeastKey : Graph → State → ℕ → Type 0
LeastKey g s a = (b : ℕ) → b < arcs g → at s.queues.own a ≤ at s.queues.own b

-- labels, predecessors, own keys and leaves come of s by the working of one leaf, which has the smallest key of all; and the rounds are as many as said
pub record WorkedLeast (g : Graph) (d : Division) (s : State) (rounds : ℕ) (labels' predecessors' own' : List ℕ) (leaves' rounds' : ℕ) : Type 0 where
  pub region : ℕ
  pub in_range : region < regions d
  pub leaf : is_leaf d region ≡ true
  pub keyed : at s.queues.own (arc_of d region) < top
  pub least : LeastKey g s (arc_of d region)
  pub labels : labels' ≡ (process_leaf g d region s).labels
  pub predecessors : predecessors' ≡ (process_leaf g d region s).predecessors
  pub own : own' ≡ (process_leaf g d region s).queues.own
  pub leaves : leaves' ≡ (process_leaf g d region s).leaves
  pub counted : rounds' ≡ rounds

-- t comes of s so; the keys and the counts of inner regions, and the updates, are left open
abbrev pub WorksLeast : Graph → Division → ℕ → State → State → Type 0
WorksLeast g d rounds s t = WorkedLeast g d s rounds t.labels t.predecessors t.queues.own t.leaves t.rounds
