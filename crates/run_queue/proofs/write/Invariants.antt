use Prim.Native.Nat.{ℕ, ◌<◌}
use mathlib.Core.List.{List}
use lib.ListN.{set}
use Rattle.procedure.specs.Division.{Division, regions, parent}
use Rattle.run_arrays.specs.Trees.{QueuesOk}
use Rattle.run_queue.proofs.Repair.{Repairing}
use Rattle.run_queue.proofs.write.Given as goal

abbrev pub invariant-loop-place : goal.invariant-loop-place
invariant-loop-place l = (d : Division) (keys : List ℕ) → QueuesOk d l.rows keys l.fn.winners → l.fn.child.0 < regions d
    → Repairing d (parent d l.fn.child.0) l.rows (set keys l.fn.child.0 l.fn.key) l.winners l.start l.place l.best

abbrev pub decreases-loop-place : goal.decreases-loop-place
decreases-loop-place l = l.place
