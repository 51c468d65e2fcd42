-- `number_kept` meets its contract: the arcs are numbered, then heights are handed up, and by both the regions are numbered.
use Prim.Native.Nat.{ℕ, suc}
use mathlib.Core.Path.{◌≡◌, refl, ◌∙◌}
use mathlib.Core.List.{List}
use native.Mathlib.Omega.{arith}
use lib.ListN.{length}
use Rattle.sheet.specs.Sections.{arc_count, region_words}
use Rattle.sheet.specs.Regions.{region_count}
use Rattle.judgement.specs.Judgement.{Convertible}
use Rattle.judgement.proofs.Accepted.{few_arcs}
use Rattle.conversion.specs.Converted.{kept_arc, new_region, converted_regions}
use Rattle.conversion.specs.Inner.{Numbers}
use Rattle.conversion_numbers.specs.Numbers.{number_of, ArcsNumbered}
use Rattle.conversion_numbers.proofs.regions.Regions.{words_left}
use Rattle.conversion_numbers.proofs.number_kept.Goals as goal

-- once the arcs are numbered
numbered : {b arcs : List ℕ} → Convertible b → Numbers (number_of (kept_arc b)) arcs (arc_count b) → ArcsNumbered b (region_words b) arcs
numbered ok N = record { convertible = ok; words_of = refl; arc_numbers_lem = N }

-- region 0 is kept, and the other regions that are kept have their words
words_found : {b arcs : List ℕ} {n : ℕ} → ArcsNumbered b (region_words b) arcs → n ≡ new_region b (region_count (region_words b))
    → n ≡ suc (length (converted_regions b))
words_found known is = is ∙ words_left known

pub number_arcs-arcs_kept-requires : goal.number_arcs-arcs_kept-requires
number_arcs-arcs_kept-requires c = few_arcs _ c.requires

pub overflow_sub-result : goal.overflow_sub-result
overflow_sub-result c =
    let known = numbered c.requires c.number_arcs-arcs_kept.ensures.0 in
    let heights = (rw (c.new-numbered.ensures.0, c.new-numbered.ensures.1) at c.hand_heights-height.ensures) _ known in
    let regions = (rw (c.new-numbered.ensures.0, c.new-numbered.ensures.1) at c.number_regions-regions_kept.ensures) _ known heights.0 in
    omega (arith, words_found known (c.from-3.ensures ∙ regions.1))

pub returns : goal.returns
returns c =
    let known = numbered c.requires c.number_arcs-arcs_kept.ensures.0 in
    let heights = (rw (c.new-numbered.ensures.0, c.new-numbered.ensures.1) at c.hand_heights-height.ensures) _ known in
    let regions = (rw (c.new-numbered.ensures.0, c.new-numbered.ensures.1) at c.number_regions-regions_kept.ensures) _ known heights.0 in (
      record { arcs_numbered = known; region_numbers_lem = regions.0 },
      record {
        spans_kept = c.from.ensures ∙ heights.1;
        holds_kept = c.holds.ensures;
        arcs_kept = c.from-2.ensures ∙ c.number_arcs-arcs_kept.ensures.1;
        words_kept = omega (arith, words_found known (c.from-3.ensures ∙ regions.1));
      },
    )
