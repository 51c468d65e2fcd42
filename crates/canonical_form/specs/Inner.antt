-- What the canonical numbering asks of a division, for contracts within the project: every accepted sheet's division is so. Definitions.
use Rattle.std.specs.Prelude.{ℕ, ◌<◌, ◌≡◌, ◌⊎◌}
use Rattle.sheet.specs.Words.{top}
use Rattle.procedure.specs.Division.{Division, regions, parent, arc_of}

-- parents fall, no two leaves have the same arc, and every region but 0 is a leaf or has a child
pub record Proper (d : Division) : Type 0 where
  pub some : 0 < regions d
  pub lower : (r : ℕ) → 0 < r → r < regions d → parent d r < r
  pub one_leaf : (r s : ℕ) → r < regions d → s < regions d → arc_of d r < top → arc_of d r ≡ arc_of d s → r ≡ s
  pub not_empty : (r : ℕ) → 0 < r → r < regions d → (arc_of d r < top) ⊎ ((c : ℕ) × (c < regions d) × (0 < c) × (parent d c ≡ r))
