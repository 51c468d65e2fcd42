use mathlib.Core.Path.{◌≡◌}
use lib.ListN.{replicate}
use Rattle.sheet.specs.Words.{top}
use Rattle.procedure.specs.Division.{Division, regions}
use Rattle.run_arrays.specs.Trees.{Buildable, ValidBelow}
use Rattle.run_queue.proofs.building.clear.Given as goal

abbrev pub invariant-loop-r : goal.invariant-loop-r
invariant-loop-r l = (d : Division) → Buildable d l.rows l.heights l.fn.winners → l.count ≡ regions d
    → ValidBelow d l.rows (replicate (regions d) top) l.winners l.r
