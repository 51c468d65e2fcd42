-- The regions' parents and arcs while they are entered, from a sheet's region words d. Definitions.
use Rattle.std.specs.Prelude.{ℕ, zero, suc, ◌≤◌, ◌<◌, ◌≡◌, List, length, if◌then◌else◌}
use Rattle.indices.specs.Columns.{at}
use Rattle.sheet.specs.Limits.{most_region_words}
use Rattle.sheet.specs.Words.{words}
use Rattle.sheet.specs.Inner.{Nesting}
use Rattle.sheet.specs.Regions.{region_count, leaf_word, arc_word, is_leaf, parent}
use Rattle.run_arrays.specs.Fixed.{no_arc}

-- few region words, which nest
pub record Nested (d : List ℕ) : Type 0 where
  pub few : words d ≤ most_region_words
  pub nesting : Nesting (is_leaf d) (parent d) (region_count d)

-- each region's parent, but for region 0, which has none
pub record ParentsEntered (d parents : List ℕ) : Type 0 where
  pub all : length parents ≡ region_count d
  pub same : (r : ℕ) → 0 < r → r < region_count d → at parents r ≡ parent d r

-- a parent for each region of such words
pub record ParentsLent (d parents : List ℕ) : Type 0 where
  pub nested : Nested d
  pub each_region : length parents ≡ region_count d

-- what is entered as a region's arc
abbrev pub arc_entered : List ℕ → ℕ → ℕ
arc_entered d zero = no_arc
arc_entered d (suc k) = if leaf_word d k then arc_word d k else no_arc
