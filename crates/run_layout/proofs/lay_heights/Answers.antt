-- `lay_heights` meets its contract: heights are found from the region words of an accepted sheet, and entered.
use mathlib.Core.Path.{◌∙◌}
use native.Mathlib.Omega.{arith}
use Rattle.judgement.proofs.Accepted.{few_region_words}
use Rattle.run_layout.proofs.Represented.{passable, heights_known, heights_laid}
use Rattle.run_layout.proofs.lay_heights.Goals as goal

pub invariant_of-nested : goal.invariant_of-nested
invariant_of-nested c = record { passable = passable _ c.args.o.now.outlined.accepted c.region_words.ensures }

pub enter_heights-requires : goal.enter_heights-requires
enter_heights-requires c = omega (arith, c.args.o.now.outlined.in_use.regions_all, few_region_words _ c.args.o.now.outlined.accepted)

pub returns : goal.returns
returns c =
    let ok = c.args.o.now.outlined.accepted in
    let is = c.region_words.ensures in
    heights_laid _ ok is (heights_known _ ok c.find_heights.result is c.find_heights.ensures.answer c.find_heights.ensures.found)
    (c.requires ∙ c.args.o.now.outlined.in_use.regions_all) c.enter_heights.ensures
