-- `count_children` meets its contract: each region passed has its parent, and its rank among the children that its parent had so far.
use mathlib.Core.Path.{◌≡◌}
use native.Mathlib.Omega.{arith}
use lib.ListN.{length, replicate}
use Rattle.std.proofs.Common.{rules}
use Rattle.run_queue.proofs.planning.Planning.{counting_start, count_row, count_bounds, counting_step, counting_end}
use Rattle.run_queue.proofs.planning.count_children.Goals as goal

pub loop-c-init : goal.loop-c-init
loop-c-init c =
    let filled : c.fill.new.self ≡ replicate (length c.args.rows.now) 0 = search rules in
    λ d Q. counting_start c.args.rows.now Q (omega (arith, c.requires.each_row, c.requires.known.all, Q.all)) filled

pub children_of-lower-requires : goal.children_of-lower-requires
children_of-lower-requires c = count_row c.requires.known (c.loop-c.invariant _ c.requires.known) c.loop-c-test.true

pub overflow_add-counted : goal.overflow_add-counted
overflow_add-counted c =
    omega (arith, count_bounds c.requires.known (c.loop-c.invariant _ c.requires.known) c.loop-c-test.true c.children_of-lower.ensures)

pub set_field-requires : goal.set_field-requires
set_field-requires c =
    omega (arith, count_bounds c.requires.known (c.loop-c.invariant _ c.requires.known) c.loop-c-test.true c.children_of-lower.ensures)

pub set_field-requires-in-loop-c : goal.set_field-requires-in-loop-c
set_field-requires-in-loop-c c =
    omega (arith, count_bounds c.requires.known (c.loop-c.invariant _ c.requires.known) c.loop-c-test.true c.children_of-lower.ensures, c.set_field.auto)

pub set_field-requires-in-loop-c-2 : goal.set_field-requires-in-loop-c-2
set_field-requires-in-loop-c-2 c =
    let bounds = count_bounds c.requires.known (c.loop-c.invariant _ c.requires.known) c.loop-c-test.true c.children_of-lower.ensures in
    (omega arith, omega (arith, bounds.row_parent, c.set_field-in-loop-c.auto, c.set_field.auto))

pub loop-c-preserved : goal.loop-c-preserved
loop-c-preserved c =
    rw (c.set_field-in-loop-c-2.ensures, c.set_field-in-loop-c.ensures, c.set_field.ensures)
    (λ d Q. counting_step Q (c.loop-c.invariant d Q) c.loop-c-test.true c.children_of-lower.ensures)

pub returns : goal.returns
returns c d Q = counting_end Q (c.loop-c.invariant d Q) c.loop-c-test.false
