-- The words passed have given their parents.
use Rattle.std.proofs.Common.{◌≡◌, ℕ, ◌<◌, ◌≤◌, length}
use Rattle.indices.specs.Columns.{at}
use Rattle.sheet.specs.Regions.{region_count, parent}
use Rattle.run_layout.proofs.regions.enter_parents.Given as goal

abbrev pub invariant-loop-k : goal.invariant-loop-k
invariant-loop-k l = (length l.parents ≡ region_count l.d) × ((r : ℕ) → 0 < r → r ≤ l.k → at l.parents r ≡ parent l.d r)
