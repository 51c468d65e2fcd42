-- `lay_arcs` meets its contract: each row gets the ends of its arc, then the leaf, and rows with both can be linked.
use mathlib.Core.Path.{◌∙◌}
use native.Mathlib.Omega.{arith}
use Rattle.judgement.proofs.Accepted.{few_arcs}
use Rattle.run_layout.proofs.Represented.{leaves_apart, ArcsFilled, arcs_filled, linkable, arcs_laid}
use Rattle.run_layout.proofs.lay_arcs.Goals as goal

pub enter_ends-requires : goal.enter_ends-requires
enter_ends-requires c = (few_arcs _ c.args.o.now.outlined.accepted, omega arith)

pub enter_leaves-requires : goal.enter_leaves-requires
enter_leaves-requires c = leaves_apart _ c.args.o.now.outlined.accepted c.region_words.ensures (omega (arith, c.enter_ends.auto, c.requires.0, c.args.o.now.outlined.in_use.arcs_all))

pub link-requires : goal.link-requires
link-requires c =
    -- the rows have ends and leaves
    let filled : ArcsFilled c.args.o.now.sheet.now c.enter_leaves.new.arcs =
    arcs_filled c.enter_ends.ensures c.region_words.ensures c.enter_leaves.ensures
    (omega (arith, c.enter_leaves.auto, c.enter_ends.auto, c.requires.0, c.args.o.now.outlined.in_use.arcs_all)) in
    linkable c.args.o.now.outlined.accepted filled (c.requires.1 ∙ c.args.o.now.outlined.in_use.nodes_all)

pub returns : goal.returns
returns c =
    -- the rows have ends and leaves
    let filled : ArcsFilled c.args.o.now.sheet.now c.enter_leaves.new.arcs =
    arcs_filled c.enter_ends.ensures c.region_words.ensures c.enter_leaves.ensures
    (omega (arith, c.enter_leaves.auto, c.enter_ends.auto, c.requires.0, c.args.o.now.outlined.in_use.arcs_all)) in
    arcs_laid c.args.o.now.outlined.accepted filled c.link.ensures (omega (arith, c.link.auto, c.requires.1, c.args.o.now.outlined.in_use.nodes_all))
