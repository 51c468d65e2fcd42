-- `plan_trees` meets its contract: the parents are those of the sheet's division, and the trees are planned from them.
use mathlib.Core.Path.{◌∙◌}
use native.Mathlib.Omega.{arith}
use Rattle.procedure.specs.OfSheet.{division_of}
use Rattle.procedure.proofs.OfSheet.{division_regions}
use Rattle.run_arrays.specs.Trees.{ParentsOf}
use Rattle.run_layout.proofs.Represented.{nested, parents_of}
use Rattle.run_layout.proofs.plan_trees.Goals as goal

pub enter_parents-requires : goal.enter_parents-requires
enter_parents-requires c =
    let words = c.region_words in
    record { nested = nested _ c.args.o.now.outlined.accepted words.ensures; each_region = rw words.ensures (c.requires.0 ∙ c.args.o.now.outlined.in_use.regions_all) }

pub plan-requires : goal.plan-requires
plan-requires c =
    let parents : ParentsOf (division_of c.args.o.now.sheet.now) c.enter_parents.new.parents =
    parents_of _ c.args.o.now.outlined.accepted c.region_words.ensures c.enter_parents.ensures in
    record { division = _; known = parents; each_row = omega (arith, c.requires.1, c.args.o.now.outlined.in_use.regions_all, division_regions c.args.o.now.sheet.now) }

pub returns : goal.returns
returns c =
    let parents : ParentsOf (division_of c.args.o.now.sheet.now) c.enter_parents.new.parents =
    parents_of _ c.args.o.now.outlined.accepted c.region_words.ensures c.enter_parents.ensures in
    c.plan.ensures _ parents
