-- `write` meets its contract: the loop repairs the places above the child, one after the other, until one does not change.
use Prim.Native.Nat.{◌/◌}
use native.Mathlib.Omega.{arith}
use Rattle.run_queue.proofs.Trees.{up_row, seat_inside}
use Rattle.run_queue.proofs.Repair.{repair_start, repair_small, repair_bounds, repair_done, repair_step, repair_end}
use Rattle.run_queue.proofs.write.Goals as goal

pub start_of-start-requires : goal.start_of-start-requires
start_of-start-requires c =
    let Q = c.requires.queue in
    let P = Q.queues.seated.laid.planned in
    up_row P c.requires.positive Q.inside (c.parent_of-parent.ensures _ P.counted Q.inside)

-- THE CHILD'S PLACE

pub bounds-winners-start : goal.bounds-winners-start
bounds-winners-start c =
    let Q = c.requires.queue in
    let L = Q.queues.seated.laid in
    seat_inside L.planned
    (record { over = c.parent_of-parent.ensures _ L.planned.counted Q.inside; row = c.start_of-start.ensures; own = c.seat_of-place.ensures })
    c.requires.positive Q.inside L

pub bounds-winners-start-2 : goal.bounds-winners-start-2
bounds-winners-start-2 c =
    let Q = c.requires.queue in
    let L = Q.queues.seated.laid in
    seat_inside L.planned
    (record { over = c.parent_of-parent.ensures _ L.planned.counted Q.inside; row = c.start_of-start.ensures; own = c.seat_of-place.ensures })
    c.requires.positive Q.inside L

pub loop-place-init : goal.loop-place-init
loop-place-init c =
    λ d keys Q inside.
    repair_start _ Q
    (record {
      over = c.parent_of-parent.ensures d Q.seated.laid.planned.counted inside;
      row = c.start_of-start.ensures;
      own = c.seat_of-place.ensures;
    })
    c.requires.positive inside (omega (arith, c.ranges)) c.entry_rank-rank.ensures c.entry_of-best.ensures

-- THE REPAIR has come to the loop's place: the place beside it, and the place above

pub sibling-requires : goal.sibling-requires
sibling-requires c =
    let Q = c.requires.queue in
    repair_small (c.loop-place.invariant _ _ Q.queues Q.inside)

pub overflow_add-start-in-loop-place : goal.overflow_add-start-in-loop-place
overflow_add-start-in-loop-place c =
    let Q = c.requires.queue in
    omega (arith, repair_bounds (c.loop-place.invariant _ _ Q.queues Q.inside) c.sibling.result (omega (arith, c.sibling.ensures.above)))

pub offset_bounds-winners-start-in-loop-place : goal.offset_bounds-winners-start-in-loop-place
offset_bounds-winners-start-in-loop-place c =
    let Q = c.requires.queue in
    omega (arith, repair_bounds (c.loop-place.invariant _ _ Q.queues Q.inside) c.sibling.result (omega (arith, c.sibling.ensures.above)))

pub bounds-winners-start-in-loop-place : goal.bounds-winners-start-in-loop-place
bounds-winners-start-in-loop-place c =
    let Q = c.requires.queue in
    omega (arith, repair_bounds (c.loop-place.invariant _ _ Q.queues Q.inside) c.sibling.result (omega (arith, c.sibling.ensures.above)))

pub offset_bounds-winners-start-in-loop-place-2 : goal.offset_bounds-winners-start-in-loop-place-2
offset_bounds-winners-start-in-loop-place-2 c =
    let Q = c.requires.queue in
    omega (arith, repair_bounds (c.loop-place.invariant _ _ Q.queues Q.inside) (c.loop-place.place / 2) (omega arith))

pub bounds-winners-start-in-loop-place-2 : goal.bounds-winners-start-in-loop-place-2
bounds-winners-start-in-loop-place-2 c =
    let Q = c.requires.queue in
    omega (arith, repair_bounds (c.loop-place.invariant _ _ Q.queues Q.inside) (c.loop-place.place / 2) (omega arith))

pub returns-then-winners-start : goal.returns-then-winners-start
returns-then-winners-start c =
    λ d keys Q inside.
    repair_done (c.loop-place.invariant d keys Q inside) c.loop-place-test.true c.sibling.ensures c.lower-best.ensures c.if-winners-start.true

pub offset_bounds-winners-start-in-loop-place-3 : goal.offset_bounds-winners-start-in-loop-place-3
offset_bounds-winners-start-in-loop-place-3 c =
    let Q = c.requires.queue in
    omega (arith, repair_bounds (c.loop-place.invariant _ _ Q.queues Q.inside) (c.loop-place.place / 2) (omega arith))

pub bounds-winners-start-in-loop-place-3 : goal.bounds-winners-start-in-loop-place-3
bounds-winners-start-in-loop-place-3 c =
    let Q = c.requires.queue in
    omega (arith, repair_bounds (c.loop-place.invariant _ _ Q.queues Q.inside) (c.loop-place.place / 2) (omega arith))

pub loop-place-preserved : goal.loop-place-preserved
loop-place-preserved c =
    λ d keys Q inside.
    repair_step (c.loop-place.invariant d keys Q inside) c.loop-place-test.true c.sibling.ensures c.lower-best.ensures

pub returns : goal.returns
returns c d keys Q inside = repair_end (c.loop-place.invariant d keys Q inside) c.loop-place-test.false
