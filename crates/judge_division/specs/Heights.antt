-- The pass from the last region back that finds heights, over the region words d and an entry for each region, which is 0 until the region is handed
-- something. Definitions.
use Rattle.std.specs.Prelude.{ℕ, max, ◌+◌, ◌≤◌, ◌<◌, Bool, false, ◌&&◌, not, List, ◌≡◌, eqb, get_or, set}
use Rattle.sheet.specs.Limits.{most_region_words}
use Rattle.sheet.specs.Words.{words}
use Rattle.sheet.specs.Regions.{region_count, is_leaf, parent, height}
use Rattle.judgement.specs.Division.{wrong_parents}

-- region words that the pass may go over: they are few, and refusal 11 does not apply
pub record Passable (d : List ℕ) : Type 0 where
  pub few : words d ≤ most_region_words
  pub parents : wrong_parents d ≡ false

-- entry r holds the largest of what the region is handed
abbrev pub raised : List ℕ → ℕ → ℕ → List ℕ
raised heights r x = set heights r (max (get_or heights r 0) x)

-- region r hands what it holds, and one more, to its parent
abbrev pub handed_up : List ℕ → List ℕ → ℕ → List ℕ
handed_up d heights r = raised heights (parent d r) (get_or heights r 0 + 1)

-- region r is inner, and nothing was handed to it
abbrev pub holds_none : List ℕ → List ℕ → ℕ → Bool
holds_none d heights r = not (is_leaf d r) && eqb (get_or heights r 0) 0

-- each region's height stands at its number
pub record HeightsFound (d heights : List ℕ) : Type 0 where
  pub each : (r : ℕ) → r < region_count d → get_or heights r 0 ≡ height d r
