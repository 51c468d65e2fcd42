-- The arcs passed have their ends.
use Rattle.std.proofs.Common.{◌≡◌, ℕ, ◌*◌, ◌<◌, length}
use Rattle.sheet.specs.Sections.{arc_count}
use Rattle.sheet.specs.Arcs.{tail, head}
use Rattle.run_arrays.specs.Rows.{row_tail, row_head}
use Rattle.run_layout.proofs.arcs.enter_ends.Given as goal

abbrev pub invariant-loop-i : goal.invariant-loop-i
invariant-loop-i l =
    (length l.arcs ≡ 4 * arc_count l.s)
    × ((a : ℕ) → a < l.i → row_tail l.arcs a ≡ tail l.s a)
    × ((a : ℕ) → a < l.i → row_head l.arcs a ≡ head l.s a)
