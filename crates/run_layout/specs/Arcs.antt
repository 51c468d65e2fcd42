-- The arcs' rows while they are filled, from a sheet b or from its region words d. Definitions.
use Rattle.std.specs.Prelude.{ℕ, ◌+◌, ◌*◌, ◌≤◌, ◌<◌, true, ◌≡◌, List, set, if◌then◌else◌}
use Rattle.sheet.specs.Limits.{most_region_words}
use Rattle.sheet.specs.Words.{words}
use Rattle.sheet.specs.Sections.{arc_count}
use Rattle.sheet.specs.Arcs.{tail, head}
use Rattle.sheet.specs.Regions.{region_count, leaf_word, arc_word, is_leaf, leaf_arc}
use Rattle.run_arrays.specs.Rows.{field, row_tail, row_head, row_leaf}

-- each arc's row has its tail and head
pub record EndsEntered (b arcRows : List ℕ) : Type 0 where
  pub tails : (a : ℕ) → a < arc_count b → row_tail arcRows a ≡ tail b a
  pub heads : (a : ℕ) → a < arc_count b → row_head arcRows a ≡ head b a

-- few region words, whose leaves are of different arcs below m
pub record LeavesApart (d : List ℕ) (m : ℕ) : Type 0 where
  pub few : words d ≤ most_region_words
  pub below : (k : ℕ) → k < words d → leaf_word d k ≡ true → arc_word d k < m
  pub apart : (j k : ℕ) → j < words d → k < words d → leaf_word d j ≡ true → leaf_word d k ≡ true → arc_word d j ≡ arc_word d k → j ≡ k

-- the arcs' rows once word k, region k + 1, is entered as the leaf of its arc, if it is a leaf
abbrev pub leaf_entered : List ℕ → ℕ → List ℕ → List ℕ
leaf_entered d k arcRows = if leaf_word d k then set arcRows (4 * arc_word d k + 2) (k + 1) else arcRows

-- each leaf's region is in the row of its arc; tails and heads are as they were
pub record LeavesEntered (d arcRows arcRows' : List ℕ) : Type 0 where
  pub leaves : (r : ℕ) → r < region_count d → is_leaf d r ≡ true → row_leaf arcRows' (leaf_arc d r) ≡ r
  pub kept : (a k : ℕ) → k < 2 → field arcRows' a k ≡ field arcRows a k
