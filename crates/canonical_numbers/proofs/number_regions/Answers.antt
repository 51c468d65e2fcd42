-- `number_regions` meets its contract: leaves and parents are entered, and then sizes, rises and numbers found, of the division of the sheet.
use mathlib.Core.Path.{sym, ap, ◌∙◌}
use native.Mathlib.Omega.{arith}
use Rattle.sheet.specs.Regions.{region_count}
use Rattle.procedure.proofs.OfSheet.{division_regions}
use Rattle.run_layout.proofs.Represented.{leaves_apart}
use Rattle.canonical_numbers.proofs.Numbered.{numberable, parents_lent, parents_laid, starting}
use Rattle.canonical_numbers.proofs.number_regions.Goals as goal

pub enter_leaves-requires : goal.enter_leaves-requires
enter_leaves-requires c =
    let outlined = c.args.o.now.outlined in
    leaves_apart _ outlined.accepted c.region_words-d.ensures (omega (arith, outlined.in_use.arcs_all, c.requires.arcs_all))

pub enter_parents-requires : goal.enter_parents-requires
enter_parents-requires c =
    let outlined = c.args.o.now.outlined in
    let is = c.region_words-d.ensures in
    parents_lent (numberable outlined is) (c.requires.parents_all ∙ outlined.in_use.regions_all ∙ sym (ap region_count is))

pub count_sizes-requires : goal.count_sizes-requires
count_sizes-requires c =
    let outlined = c.args.o.now.outlined in
    record {
      division = _;
      laid = parents_laid (numberable outlined c.region_words-d.ensures) c.enter_parents.ensures;
      each_size = c.requires.sizes_all ∙ outlined.in_use.regions_all ∙ sym (division_regions _);
    }

pub count_rises-requires : goal.count_rises-requires
count_rises-requires c =
    let outlined = c.args.o.now.outlined in
    let N = numberable outlined c.region_words-d.ensures in
    let room = c.requires in
    let laid = parents_laid N c.enter_parents.ensures in
    record {
      division = _;
      starting = starting N (c.enter_leaves.auto.arcs ∙ room.arcs_all) c.enter_leaves.ensures laid (c.count_sizes.ensures _ laid);
      each_next = room.nexts_all ∙ outlined.in_use.regions_all ∙ sym (division_regions _);
      each_rise = room.numbers_all ∙ outlined.in_use.regions_all ∙ sym (division_regions _);
    }

pub add_rises-requires : goal.add_rises-requires
add_rises-requires c =
    let N = numberable c.args.o.now.outlined c.region_words-d.ensures in
    let laid = parents_laid N c.enter_parents.ensures in
    let leaves = starting N (c.enter_leaves.auto.arcs ∙ c.requires.arcs_all) c.enter_leaves.ensures laid (c.count_sizes.ensures _ laid) in
    record { division = _; laid = laid; risen = c.count_rises.ensures _ leaves }

pub returns : goal.returns
returns c =
    let N = numberable c.args.o.now.outlined c.region_words-d.ensures in
    let laid = parents_laid N c.enter_parents.ensures in
    let leaves = starting N (c.enter_leaves.auto.arcs ∙ c.requires.arcs_all) c.enter_leaves.ensures laid (c.count_sizes.ensures _ laid) in
    c.add_rises.ensures _ laid (c.count_rises.ensures _ leaves)
