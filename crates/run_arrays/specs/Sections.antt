-- How many regions and places the arrays of a run have room for: those of the largest sheet. Definitions.
use Rattle.std.specs.Prelude.{ℕ, ◌+◌, ◌*◌}
use Rattle.sheet.specs.Limits.{most_region_words}

-- region 0 has no word
abbrev pub most_regions : ℕ
most_regions = most_region_words + 1

-- two places of the trees for each region
abbrev pub most_places : ℕ
most_places = 2 * most_regions
