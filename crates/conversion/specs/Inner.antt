-- What is computed of the regions that are kept: for contracts within the project. Definitions.
use Rattle.std.specs.Prelude.{ℕ, suc, max, ◌<◌, false, List, ◌≡◌, ltb, eqb, if◌then◌else◌}
use Rattle.indices.specs.Columns.{at}
use Rattle.indices.proofs.Entries.{Entered}
use Rattle.sheet.specs.Sections.{region_words}
use Rattle.sheet.specs.Regions.{region_count, is_leaf}
use Rattle.conversion.specs.Converted.{kept_leaf, kept_region, new_height}

-- what region r hands to its parent, once its children have handed up: 0 if it is not kept, and else its new height and one more
unfoldable pub hands_up : List ℕ → List ℕ → ℕ → ℕ
hands_up b best r =
    if is_leaf (region_words b) r then (if kept_leaf b r then 1 else 0) else (if eqb (at best r) 0 then 0 else suc (at best r))

-- what each region's children have handed up: 0 to an inner region that is not kept, and its new height to region 0, or 0 if it is left childless
pub record Heights (b best : List ℕ) : Type 0 where
  pub kept : (r : ℕ) → 0 < r → r < region_count (region_words b) → is_leaf (region_words b) r ≡ false → kept_region b r ≡ ltb 0 (at best r)
  pub high : new_height b ≡ max 1 (at best 0)

-- a list of the numbers of the indices below n
abbrev pub Numbers : (ℕ → ℕ) → List ℕ → ℕ → Type 0
Numbers number numbers n = Entered (λ i. i) number numbers n
