-- What is lent for a canonical form to be written. Definitions.
use Rattle.std.specs.Prelude.{ℕ, ◌*◌, ◌≤◌, ◌≡◌, List, length}
use Rattle.sheet.specs.Limits.{most_arcs}
use Rattle.run_arrays.specs.Sections.{most_regions}

-- a buffer as long as the sheet b or longer, with a row for each arc and four entries for each region that a sheet may have
pub record FormLent (b arcs parents sizes nexts numbers out : List ℕ) : Type 0 where
  pub out_room : length b ≤ length out
  pub arc_room : length arcs ≡ 4 * most_arcs
  pub parent_room : length parents ≡ most_regions
  pub size_room : length sizes ≡ most_regions
  pub next_room : length nexts ≡ most_regions
  pub number_room : length numbers ≡ most_regions
