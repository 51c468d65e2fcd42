use Prim.Native.Nat.{ℕ, ◌+◌, ◌*◌, ◌-◌}
use mathlib.Core.Bool.{false}
use mathlib.Core.Path.{◌≡◌}
use mathlib.Core.List.{List}
use Rattle.indices.specs.Columns.{at}
use Rattle.procedure.specs.Graph.{Graph}
use Rattle.procedure.specs.Division.{Division, is_leaf}
use Rattle.procedure.specs.State.{State}
use Rattle.procedure.specs.Procedure.{alive, process}
use Rattle.run_arrays.specs.States.{Represents, Workable}
use Rattle.run_engine.proofs.region.Loops.{Looping, turn}
use Rattle.run_engine.proofs.region.+process_inner_process_region.Given as goal

abbrev pub invariant-process_inner-loop-turn : goal.invariant-process_inner-loop-turn
invariant-process_inner-loop-turn l = (g : Graph) (d : Division) (spans : List ℕ) (s₀ : State) → Represents g d spans s₀ l.layout l.fn.run
    → Workable d l.r.0 (process g d spans l.r.0 s₀) → is_leaf d l.r.0 ≡ false
    → ((s : State) × Looping g d spans l.layout (alive g d l.r.0) (turn g d spans l.r.0) (l._turn-end - l._turn) (process g d spans l.r.0 s₀) s l.run)

abbrev pub decreases-process_inner : goal.decreases-process_inner
decreases-process_inner l = at l.layout.now.heights l.r.0 * 2

abbrev pub decreases-process_region : goal.decreases-process_region
decreases-process_region l = at l.layout.now.heights l.r.0 * 2 + 1
