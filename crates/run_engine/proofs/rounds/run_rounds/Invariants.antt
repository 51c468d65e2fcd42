use Prim.Native.Nat.{ℕ, ◌-◌}
use mathlib.Core.List.{List}
use Rattle.procedure.specs.Graph.{Graph}
use Rattle.procedure.specs.Division.{Division}
use Rattle.procedure.specs.State.{State}
use Rattle.procedure.specs.Procedure.{round, more}
use Rattle.theory.specs.Counts.{Small}
use Rattle.run_arrays.specs.States.{Represents}
use Rattle.run_engine.proofs.region.Loops.{Looping}
use Rattle.run_engine.proofs.rounds.Loops.{running}
use Rattle.run_engine.proofs.rounds.run_rounds.Given as goal

abbrev pub invariant-loop-round : goal.invariant-loop-round
invariant-loop-round l = (g : Graph) (d : Division) (spans : List ℕ) (s₀ : State) → Represents g d spans s₀ l.layout l.fn.run
    → Small (more g d spans l.fn.limit s₀)
    → ((s : State) × Looping g d spans l.layout (running g d) (round g d spans) (l.fn.limit - l._round) (more g d spans l.fn.limit s₀) s l.run)
