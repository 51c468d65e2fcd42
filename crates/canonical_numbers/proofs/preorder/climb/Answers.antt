-- `climb` meets its contract: on the way up each region that has no rise gets what its parent has counted, until one has had its turn.
use mathlib.Core.Path.{ap, ◌∙◌}
use native.Mathlib.Omega.{arith}
use Rattle.indices.specs.Columns.{at}
use Rattle.canonical_numbers.proofs.preorder.Rises.{climb_begins, climb_later, climb_bounds, climb_on, climb_ends}
use Rattle.canonical_numbers.proofs.preorder.climb.Goals as goal

pub loop-rises-init : goal.loop-rises-init
loop-rises-init c d a A = rw c.from-r.ensures (climb_begins A)

pub overflow_add-nexts : goal.overflow_add-nexts
overflow_add-nexts c =
    let ready = c.requires.ready in
    let b = climb_bounds ready (c.loop-rises.invariant _ _ ready) c.loop-rises-test.true in
    omega (arith, ap (at c.loop-rises.nexts) c.from-p.ensures)

pub loop-rises-preserved : goal.loop-rises-preserved
loop-rises-preserved c =
    let zero = c.loop-rises-test.true in
    λ d a A.
    let C = c.loop-rises.invariant d a A in
    climb_on A C zero _ (c.from-p.ensures ∙ A.laid.column.same _ (climb_later A C zero) C.inside)

pub returns : goal.returns
returns c d a A = climb_ends A (c.loop-rises.invariant d a A) c.loop-rises-test.false
