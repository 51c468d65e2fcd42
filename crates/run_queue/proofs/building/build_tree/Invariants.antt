use Prim.Native.Nat.{ℕ, ◌<◌}
use mathlib.Core.List.{List}
use Rattle.procedure.specs.Division.{Division, regions}
use Rattle.run_arrays.specs.Trees.{ValidBelow}
use Rattle.run_queue.proofs.building.Building.{Building}
use Rattle.run_queue.proofs.building.build_tree.Given as goal

abbrev pub invariant-loop-place : goal.invariant-loop-place
invariant-loop-place l =
    (d : Division) (keys : List ℕ) → ValidBelow d l.rows keys l.fn.winners l.fn.r.0 → l.fn.r.0 < regions d
    → Building d l.fn.r.0 l.rows keys l.winners l.start l.place
