use Prim.Native.Nat.{◌*◌}
use mathlib.Core.Path.{◌≡◌}
use lib.ListN.{length}
use Rattle.procedure.specs.Division.{Division, regions}
use Rattle.run_arrays.specs.Trees.{Ranked}
use Rattle.run_queue.proofs.planning.Planning.{Laying}
use Rattle.run_queue.proofs.planning.lay_trees.Given as goal

abbrev pub invariant-loop-r : goal.invariant-loop-r
invariant-loop-r l = (d : Division) → Ranked d l.initial.rows → length l.initial.rows ≡ 4 * regions d → Laying d l.rows l.start l.r
