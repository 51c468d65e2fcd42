use Prim.Native.Nat.{◌-◌}
use Rattle.procedure.specs.Graph.{Graph}
use Rattle.procedure.specs.Division.{Division}
use Rattle.procedure.specs.State.{Queues}
use Rattle.run_arrays.specs.States.{HoldsQueues, UpdatingOutgoing}
use Rattle.run_engine.proofs.updates.Updates.{Spread}
use Rattle.run_engine.proofs.updates.update_outgoing.Given as goal

abbrev pub invariant-loop-a : goal.invariant-loop-a
invariant-loop-a l = (g : Graph) (d : Division) (q₀ : Queues) → HoldsQueues g d q₀ l.layout l.fn.keys l.fn.count
    → UpdatingOutgoing g d q₀ l.layout l.fn.v.0 l.key → ((q : Queues) × Spread g d l.layout l.fn.v.0 l.key q₀ q l.keys l.n l.a.0)

abbrev pub decreases-loop-a : goal.decreases-loop-a
decreases-loop-a l = l.layout.arcs - l.a.0
