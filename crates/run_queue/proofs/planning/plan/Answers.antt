-- `plan` meets its contract: the three passes, one after the other.
use Prim.Native.Nat.{ℕ, ◌*◌}
use mathlib.Core.Path.{◌≡◌}
use mathlib.Core.List.{List}
use native.Mathlib.Omega.{arith}
use lib.ListN.{length}
use Rattle.procedure.specs.Division.{Division, regions}
use Rattle.run_arrays.specs.Trees.{ParentsOf}
use Rattle.run_queue.specs.ForDivision.{ForDivision}
use Rattle.run_queue.proofs.planning.plan.Goals as goal

-- every division with these parents has as many regions as the given one
each_row : {parents rows : List ℕ} → ForDivision (λ d. ParentsOf d parents) rows → (d : Division) → ParentsOf d parents → length rows ≡ 4 * regions d
each_row given d P = omega (arith, given.each_row, given.known.all, P.all)

pub lay_trees-requires : goal.lay_trees-requires
lay_trees-requires c =
    let given = c.requires in
    record { division = _; known = c.count_children.ensures _ given.known; each_row = omega (arith, c.count_children.auto, given.each_row) }

pub seat_children-requires : goal.seat_children-requires
seat_children-requires c =
    let given = c.requires in
    record {
      division = _;
      known = c.lay_trees.ensures _ (c.count_children.ensures _ given.known) (omega (arith, c.count_children.auto, given.each_row));
      each_row = omega (arith, c.lay_trees.auto, c.count_children.auto, given.each_row);
    }

pub returns : goal.returns
returns c =
    λ d P.
    let all = each_row c.requires d P in
    c.seat_children.ensures d (c.lay_trees.ensures d (c.count_children.ensures d P) (omega (arith, c.count_children.auto, all)))
    (omega (arith, c.lay_trees.auto, c.count_children.auto, all))
