use Prim.Native.Nat.{◌*◌}
use mathlib.Core.Path.{◌≡◌}
use lib.ListN.{length}
use Rattle.procedure.specs.Division.{Division, regions}
use Rattle.run_arrays.specs.Trees.{Started}
use Rattle.run_queue.proofs.planning.Planning.{Seating}
use Rattle.run_queue.proofs.planning.seat_children.Given as goal

abbrev pub invariant-loop-c : goal.invariant-loop-c
invariant-loop-c l = (d : Division) → Started d l.initial.rows → length l.initial.rows ≡ 4 * regions d → Seating d l.rows l.c
