-- `lay_out` meets its contract: each part is laid in the front of its array.
use mathlib.Core.Path.{◌∙◌}
use native.Mathlib.Omega.{arith}
use lib.Seq.{length-take-le}
use Rattle.run_layout.proofs.Laying.{laid}
use Rattle.run_layout.proofs.lay_out.Goals as goal

pub returns : goal.returns
returns c =
    let outlined = c.args.o.now.outlined in
    let sizes = outlined.in_use in
    laid outlined _ _ _ _ _ _ _
    (c.lay_region_arcs.auto.arcs ∙ length-take-le _ _ (omega (arith, sizes.few_regions)))
    (c.lay_arcs.auto.arcs ∙ length-take-le _ _ (omega (arith, sizes.few_arcs)))
    (c.lay_arcs.auto.firsts ∙ length-take-le _ _ (omega (arith, sizes.few_nodes)))
    (c.lay_heights.auto.heights ∙ length-take-le _ _ (omega (arith, sizes.few_regions)))
    c.plan_trees.ensures c.lay_region_arcs.ensures c.lay_arcs.ensures c.enter_lengths.ensures c.enter_spans.ensures c.lay_heights.ensures
