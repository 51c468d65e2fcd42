-- The new numbers of the arcs and regions that are kept, an entry for each arc and each region. Definitions.
use Rattle.std.specs.Prelude.{ℕ, Bool, List, ◌≡◌, length, if◌then◌else◌}
use Rattle.indices.specs.Tests.{count}
use Rattle.sheet.specs.Sections.{hold_count, arc_count, region_words}
use Rattle.sheet.specs.Regions.{region_count}
use Rattle.judgement.specs.Judgement.{Convertible}
use Rattle.conversion.specs.Converted.{kept_arc, new_arc, kept_region, converted_regions, new_height}
use Rattle.conversion.specs.Inner.{Numbers}
use Rattle.conversion_numbers.specs.declared.Kept.{Kept}

-- stands where the number would, if an index is not kept
abbrev pub dropped : ℕ
dropped = 65535

unfoldable pub number_of : (ℕ → Bool) → ℕ → ℕ
number_of kept i = if kept i then count kept i else dropped

-- a convertible sheet whose region words are d, and its arcs' numbers
pub record ArcsNumbered (b d arcs : List ℕ) : Type 0 where
  pub convertible : Convertible b
  pub words_of : d ≡ region_words b
  pub arc_numbers_lem : Numbers (number_of (kept_arc b)) arcs (arc_count b)

-- and the numbers of its regions
pub record Numbered (b d arcs regions : List ℕ) : Type 0 where
  pub arcs_numbered : ArcsNumbered b d arcs
  pub region_numbers_lem : Numbers (number_of (kept_region b)) regions (region_count d)

-- how much of a sheet is kept
pub record Counted (b : List ℕ) (kept : Kept) : Type 0 where
  pub spans_kept : kept.spans ≡ new_height b
  pub holds_kept : kept.holds ≡ hold_count b
  pub arcs_kept : kept.arcs ≡ new_arc b (arc_count b)
  pub words_kept : kept.words ≡ length (converted_regions b)
