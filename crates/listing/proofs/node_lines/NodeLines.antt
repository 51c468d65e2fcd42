-- Laws of the lines of the nodes: one line more, how long they may be, and what has room.
use Prim.Native.Nat.{ℕ, zero, suc, ◌+◌, ◌*◌, ◌≤◌, ◌<◌}
use mathlib.Core.Path.{◌≡◌}
use mathlib.Core.List.{List, ◌++◌}
use native.Mathlib.Numerals.{add-one}
use native.Mathlib.Omega.{arith}
use lib.ListN.{length, length-append}
use Rattle.calls.specs.Tables.{label_in, predecessor_in}
use Rattle.listing.specs.declared.text.Text.{Text}
use Rattle.listing.specs.Listing.{node_line, node_lines}
use Rattle.listing.specs.Inner.{Room, Wrote}
use Rattle.listing.proofs.text.Writing.{length_wrote}
use Rattle.listing.proofs.text.Numbers.{decimal_within}
use Rattle.listing.proofs.cells.Cells.{spaced_within}

-- a line more
pub line_more : (table : List ℕ) (v : ℕ) → node_lines table (v + 1) ≡ node_lines table v ++ node_line table v
unfolding node_lines
line_more table v = rw add-one

module _ (table : List ℕ) where
  node_line_within : (v : ℕ) → v < 1024 → length (node_line table v) ≤ 25
  unfolding node_line
  node_line_within v small =
      simp length-append
      (omega (
        arith,
        decimal_within 3 v (omega arith),
        spaced_within (label_in table v) (omega arith),
        spaced_within (predecessor_in table v) (omega arith),
      ))

  pub node_lines_within : (v : ℕ) → v ≤ 1024 → length (node_lines table v) ≤ 25 * v
  unfolding node_lines
  node_lines_within zero small = omega arith
  node_lines_within (suc v) small =
      simp length-append (omega (arith, node_line_within v (omega arith), node_lines_within v (omega arith)))

module _ (table : List ℕ) {before after : Text} {v nodes : ℕ} (w : Wrote before (node_lines table v) after) where
  -- a line more has room
  pub line_room : v < nodes → nodes ≤ 1024 → before.place + 25 * nodes ≤ length before.out.now → Room after (node_line table v)
  line_room inside small fits =
      record { fits = omega (arith, w.place, length_wrote w, node_lines_within table v (omega arith), node_line_within table v (omega arith)) }
