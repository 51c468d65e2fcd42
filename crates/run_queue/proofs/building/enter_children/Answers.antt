-- `enter_children` meets its contract: the regions passed stand at their places with key none and their rank.
use Prim.Native.Nat.{◌<◌}
use mathlib.Core.Path.{ap, ◌∙◌}
use native.Mathlib.Omega.{arith}
use Rattle.sheet.specs.Words.{top}
use Rattle.procedure.specs.Division.{regions}
use Rattle.run_arrays.specs.Trees.{rank_of}
use Rattle.run_queue.proofs.Entries.{height_fits}
use Rattle.run_queue.proofs.Trees.{up_row, seat_inside}
use Rattle.run_queue.proofs.building.Building.{entering_start, entering_step, entering_end}
use Rattle.run_queue.proofs.building.enter_children.Goals as goal

pub loop-c-init : goal.loop-c-init
loop-c-init c = λ d B _. entering_start B.laid

-- THE LOOP'S REGION, in the trees of the given division

pub parent_of-parent-requires : goal.parent_of-parent-requires
parent_of-parent-requires c =
    let given = c.requires in
    record {
      division = _;
      counted = given.buildable.laid.planned.counted;
      positive = (c.loop-c.invariant _ given.buildable given.all_regions).above;
      inside = omega (arith, c.loop-c-test.true, given.all_regions);
    }

pub start_of-start-requires : goal.start_of-start-requires
start_of-start-requires c =
    let given = c.requires in
    let inside : c.loop-c.c < regions given.division = omega (arith, c.loop-c-test.true, given.all_regions) in
    let planned = given.buildable.laid.planned in
    up_row planned (c.loop-c.invariant _ given.buildable given.all_regions).above inside (c.parent_of-parent.ensures _ planned.counted inside)

pub bounds-heights-c : goal.bounds-heights-c
bounds-heights-c c = omega (arith, c.loop-c-test.true, c.requires.all_regions, c.requires.buildable.few)

pub overflow_cast-height-in-loop-c : goal.overflow_cast-height-in-loop-c
overflow_cast-height-in-loop-c c =
    let given = c.requires in
    let read = given.buildable.tall c.loop-c.c (omega (arith, c.loop-c-test.true, given.all_regions)) in
    omega (arith, read, height_fits given.buildable.laid.planned.counted.numbered c.loop-c.c)

pub bounds-winners-start : goal.bounds-winners-start
bounds-winners-start c =
    let given = c.requires in
    let inside : c.loop-c.c < regions given.division = omega (arith, c.loop-c-test.true, given.all_regions) in
    let entering = c.loop-c.invariant _ given.buildable given.all_regions in
    let planned = given.buildable.laid.planned in
    seat_inside planned
    (record { over = c.parent_of-parent.ensures _ planned.counted inside; row = c.start_of-start.ensures; own = c.seat_of-place.ensures })
    entering.above inside entering.laid

pub loop-c-preserved : goal.loop-c-preserved
unfolding top
loop-c-preserved c =
    λ d B all.
    let inside : c.loop-c.c < regions d = omega (arith, c.loop-c-test.true, all) in
    entering_step (c.loop-c.invariant d B all) inside
    (record { over = c.parent_of-parent.ensures d B.laid.planned.counted inside; row = c.start_of-start.ensures; own = c.seat_of-place.ensures })
    (c.rank_of-rank.ensures ∙ ap (λ h. rank_of h c.loop-c.c) (B.tall _ inside)) c.entry_of.ensures

pub returns : goal.returns
returns c d B all = entering_end (c.loop-c.invariant d B all) (omega (arith, c.loop-c-test.false, all))
