use lib.ListN.{length}
use Rattle.indices.specs.Columns.{at}
use Rattle.indices.proofs.Entries.{Prefix}
use Rattle.procedure.specs.Table.{key_word}
use Rattle.table.proofs.keys.write_keys.Given as goal

abbrev pub invariant-loop-a : goal.invariant-loop-a
invariant-loop-a l = Prefix (length l.initial.words) (λ b. key_word (at l.own b)) l.words l.a
