-- What functions and laws ask of a sheet and of a nesting: for contracts within the project. Definitions.
use Rattle.std.specs.Prelude.{ℕ, ◌+◌, ◌≤◌, ◌<◌, List, Bool, false, ◌≡◌, Option, Some, None, ltb, if◌then◌else◌}
use Rattle.sheet.specs.declared.Cursor.{Cursor}
use Rattle.sheet.specs.declared.Sections.{Sections}
use Rattle.sheet.specs.Words.{words, word}
use Rattle.sheet.specs.Sections.{span_count, arcs_at, arc_count, regions_at}

-- "A sheet is read word by word from its front": the word at a place with the place after it, or none
abbrev pub step_at : List ℕ → Cursor → Option (ℕ × Cursor)
step_at b c = if ltb c.place (words b) then Some (word b c.place, record { place = c.place + 1 }) else None

-- the sections of a sheet that has its first two words: how many spans, the word of arc 0, how many arcs, the word after the last of them
pub record Located (b : List ℕ) (sections : Sections) : Type 0 where
  pub front : 2 ≤ words b
  pub spans_all : sections.spans ≡ span_count b
  pub arcs_from_lem : sections.first ≡ arcs_at b
  pub arcs_all : sections.arcs ≡ arc_count b
  pub regions_from : sections.after ≡ regions_at b

-- region 0 has no parent among the regions, every other one a lower parent that is inner
pub record Nesting (leaf : ℕ → Bool) (parent : ℕ → ℕ) (n : ℕ) : Type 0 where
  pub root : 0 < n
  pub alone : n ≤ parent 0
  pub lower : (r : ℕ) → 0 < r → r < n → parent r < r
  pub inner : (r : ℕ) → 0 < r → r < n → leaf (parent r) ≡ false
