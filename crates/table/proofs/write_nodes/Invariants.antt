use lib.ListN.{length}
use Rattle.procedure.specs.Table.{node_words, header_length}
use Rattle.table.proofs.Writing.{Writing}
use Rattle.table.proofs.write_nodes.Given as goal

abbrev pub invariant-loop-v : goal.invariant-loop-v
invariant-loop-v l = Writing header_length (length l.labels) (node_words l.labels l.predecessors) l.initial.table l.table l.v
