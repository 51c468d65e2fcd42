use mathlib.Core.Path.{◌≡◌}
use Rattle.procedure.specs.Division.{Division, regions}
use Rattle.run_arrays.specs.Trees.{Buildable}
use Rattle.run_queue.proofs.building.Building.{Entering}
use Rattle.run_queue.proofs.building.enter_children.Given as goal

abbrev pub invariant-loop-c : goal.invariant-loop-c
invariant-loop-c l = (d : Division) → Buildable d l.rows l.heights l.fn.winners → l.count ≡ regions d → Entering d l.rows l.winners l.c
