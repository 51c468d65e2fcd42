-- What is known before a converted sheet, or its region words, are written: new numbers, how much is kept, and room for it. Definitions.
use Rattle.std.specs.Prelude.{ℕ, ◌+◌, ◌*◌, ◌≤◌, List, length}
use Rattle.sheet.specs.Sections.{region_words}
use Rattle.conversion.specs.Converted.{converted_regions, converted}
use Rattle.conversion_numbers.specs.declared.Kept.{Kept}
use Rattle.conversion_numbers.specs.Numbers.{Numbered, Counted}

pub record RegionsWritable (b d arcs regions out : List ℕ) (place : ℕ) : Type 0 where
  pub numbered : Numbered b d arcs regions
  pub room : 4 * (place + length (converted_regions b)) ≤ length out

pub record SheetWritable (b arcs regions : List ℕ) (kept : Kept) (out : List ℕ) : Type 0 where
  pub numbered : Numbered b (region_words b) arcs regions
  pub counted : Counted b kept
  pub room : length (converted b) ≤ length out
