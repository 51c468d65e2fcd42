-- `seat_children` meets its contract: the rows of the regions passed say their places.
use Prim.Native.Nat.{◌<◌}
use native.Mathlib.Omega.{arith}
use Rattle.procedure.specs.Division.{regions}
use Rattle.run_queue.proofs.planning.Planning.{seating_start, seat_row, seat_fits, seating_step, seating_end}
use Rattle.run_queue.proofs.planning.seat_children.Goals as goal

pub loop-c-init : goal.loop-c-init
loop-c-init c = λ d S _. seating_start S

pub parent_of-parent-requires : goal.parent_of-parent-requires
parent_of-parent-requires c =
    let seating = c.loop-c.invariant _ c.requires.known c.requires.each_row in
    record { division = _; counted = seating.counted; positive = seating.above; inside = omega (arith, c.loop-c-test.true, c.requires.each_row) }

pub children_of-requires : goal.children_of-requires
children_of-requires c =
    let seating = c.loop-c.invariant _ c.requires.known c.requires.each_row in
    let inside : c.loop-c.c < regions c.requires.division = omega (arith, c.loop-c-test.true, c.requires.each_row) in
    seat_row seating inside (c.parent_of-parent.ensures _ seating.counted inside)

pub overflow_add-place : goal.overflow_add-place
overflow_add-place c =
    let seating = c.loop-c.invariant _ c.requires.known c.requires.each_row in
    let inside : c.loop-c.c < regions c.requires.division = omega (arith, c.loop-c-test.true, c.requires.each_row) in
    omega (arith, seat_fits seating inside (c.parent_of-parent.ensures _ seating.counted inside) c.children_of.ensures c.seat_of.ensures)

pub loop-c-preserved : goal.loop-c-preserved
loop-c-preserved c =
    rw c.set_field.ensures
    (λ d S e.
    let seating = c.loop-c.invariant d S e in
    let inside : c.loop-c.c < regions d = omega (arith, c.loop-c-test.true, e) in
    seating_step seating inside (c.parent_of-parent.ensures d seating.counted inside) c.children_of.ensures c.seat_of.ensures)

pub returns : goal.returns
returns c d S e = seating_end (c.loop-c.invariant d S e) (omega (arith, c.loop-c-test.false, e))
