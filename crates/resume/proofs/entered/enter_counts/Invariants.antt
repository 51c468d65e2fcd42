use Rattle.indices.proofs.Entries.{Prefix}
use Rattle.procedure.specs.Table.{counts_length}
use Rattle.calls.specs.Tables.{count_in}
use Rattle.resume.proofs.entered.enter_counts.Given as goal

abbrev pub invariant-loop-i : goal.invariant-loop-i
invariant-loop-i l = Prefix counts_length (count_in l.table) l.counts l.i
