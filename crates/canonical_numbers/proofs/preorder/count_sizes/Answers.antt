-- `count_sizes` meets its contract: from the last region back, each hands its size to its parent.
use Prim.Native.Nat.{◌-◌, ◌<◌}
use mathlib.Core.Path.{sym, ap, ◌∙◌}
use native.Mathlib.Omega.{arith}
use Rattle.indices.specs.Columns.{at}
use Rattle.canonical_numbers.proofs.preorder.Sizes.{sizing_begins, sizing_bounds, sizing_on, sizing_ends}
use Rattle.canonical_numbers.proofs.preorder.count_sizes.Goals as goal

pub loop-r-init : goal.loop-r-init
loop-r-init c = λ d L. sizing_begins L (c.requires.each_size ∙ sym c.requires.laid.column.all ∙ L.column.all) (c.fill.ensures.after (λ _ e. e))

pub overflow_add-sizes : goal.overflow_add-sizes
overflow_add-sizes c =
    let laid = c.requires.laid in
    let pos : 0 < c.loop-r.r - 1 = omega arith in
    let b = sizing_bounds laid (c.loop-r.invariant _ laid) pos in
    omega (arith, ap (at c.loop-r.sizes) c.from-p.ensures)

pub loop-r-preserved : goal.loop-r-preserved
loop-r-preserved c =
    let pos : 0 < c.loop-r.r - 1 = omega arith in
    λ d L. let S = c.loop-r.invariant d L in sizing_on L S pos _ (c.from-p.ensures ∙ L.column.same _ pos S.within)

pub returns : goal.returns
returns c = λ d L. sizing_ends L (c.loop-r.invariant d L) (omega arith)
