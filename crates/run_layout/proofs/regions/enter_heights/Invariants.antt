use lib.ListN.{length}
use Rattle.indices.specs.Columns.{at}
use Rattle.indices.proofs.Entries.{Prefix}
use Rattle.run_layout.proofs.regions.enter_heights.Given as goal

abbrev pub invariant-loop-i : goal.invariant-loop-i
invariant-loop-i l = Prefix (length l.initial.heights) (at l.found) l.heights l.i
