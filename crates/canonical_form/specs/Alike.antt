-- When two sheets share everything but the numbers of their regions. Definitions.
use Rattle.std.specs.Prelude.{ℕ, ◌<◌, Bool, ◌&&◌, ◌||◌, ◌≡◌, List, leb, eqb}
use Rattle.indices.specs.Columns.{column, passing}
use Rattle.sheet.specs.Words.{words, word, kind_of}
use Rattle.procedure.specs.Division.{Division, regions, parent, arc_of}
use Rattle.procedure.specs.OfSheet.{division_of}

-- "the same nesting under other region numbers", "chains of single children counted": as many regions, and a renumbering with an inverse that takes
-- region 0 to region 0, parents to parents, leaves to leaves of the same arc and inner regions to inner regions
pub record SameNesting (d d' : Division) : Type 0 where
  pub as_many : regions d ≡ regions d'
  pub to : ℕ → ℕ
  pub from : ℕ → ℕ
  pub to_in : (r : ℕ) → r < regions d → to r < regions d'
  pub from_in : (r : ℕ) → r < regions d' → from r < regions d
  pub from_to : (r : ℕ) → r < regions d → from (to r) ≡ r
  pub to_from : (r : ℕ) → r < regions d' → to (from r) ≡ r
  pub root : to 0 ≡ 0
  pub parents : (r : ℕ) → 0 < r → r < regions d → parent d' (to r) ≡ to (parent d r)
  pub arcs : (r : ℕ) → r < regions d → arc_of d' (to r) ≡ arc_of d r

-- nodes, source, spans and arcs are words of kinds 1 to 5, and 2026-08: "Sheets said to have or share the same nodes, source and arcs have the same kind 13
-- words as well, wherever this is said."
abbrev pub is_shared : ℕ → Bool
is_shared w = (leb 1 (kind_of w) && leb (kind_of w) 5) || eqb (kind_of w) 13

unfoldable pub shared_words : List ℕ → List ℕ
shared_words b = passing is_shared (column (words b) (word b))

-- "they share nodes, source, spans, arcs and nesting": the words of kinds 1 to 5 and 13 agree, in order, and the divisions are the same nesting
pub record Alike (b b' : List ℕ) : Type 0 where
  pub shared : shared_words b ≡ shared_words b'
  pub nesting : SameNesting (division_of b) (division_of b')
