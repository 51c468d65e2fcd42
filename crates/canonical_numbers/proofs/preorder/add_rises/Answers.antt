-- `add_rises` meets its contract: at each turn the parent has its new number, and the region's is so much higher as its rise says.
use mathlib.Core.Path.{ap}
use native.Mathlib.Omega.{arith}
use Rattle.indices.specs.Columns.{at}
use Rattle.canonical_numbers.proofs.preorder.Numbering.{numbering_begins, numbering_bounds, numbering_on, numbering_ends}
use Rattle.canonical_numbers.proofs.preorder.add_rises.Goals as goal

pub overflow_add-rises : goal.overflow_add-rises
overflow_add-rises c =
    let pre = c.requires in
    let b = numbering_bounds pre.laid (c.loop-r.invariant _ pre.laid (numbering_begins pre.laid pre.risen)) (omega arith) in
    omega (arith, ap (at c.loop-r.rises) c.from.ensures)

pub loop-r-preserved : goal.loop-r-preserved
loop-r-preserved c d L N = rw c.from.ensures (numbering_on L (c.loop-r.invariant d L N) (omega arith))

pub returns : goal.returns
returns c d L R = numbering_ends L (c.loop-r.invariant d L (numbering_begins L R)) (omega arith)
