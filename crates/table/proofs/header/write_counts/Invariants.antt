use lib.ListN.{length}
use Rattle.table.proofs.Writing.{Writing, first_counts}
use Rattle.table.proofs.header.write_counts.Given as goal

abbrev pub invariant-loop-i : goal.invariant-loop-i
invariant-loop-i l = Writing 1 (length l.counts) (first_counts l.counts) l.initial.table l.table l.i
