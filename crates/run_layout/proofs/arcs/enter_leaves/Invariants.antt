-- The words passed are entered.
use Rattle.std.proofs.Common.{◌≡◌, ℕ, suc, ◌<◌, true, length}
use Rattle.sheet.specs.Regions.{leaf_word, arc_word}
use Rattle.run_arrays.specs.Rows.{field, row_leaf}
use Rattle.run_layout.proofs.arcs.enter_leaves.Given as goal

abbrev pub invariant-loop-k : goal.invariant-loop-k
invariant-loop-k l =
    (length l.arcs ≡ length l.initial.arcs)
    × ((j : ℕ) → j < l.k → leaf_word l.d j ≡ true → row_leaf l.arcs (arc_word l.d j) ≡ suc j)
    × ((a i : ℕ) → i < 2 → field l.arcs a i ≡ field l.initial.arcs a i)
