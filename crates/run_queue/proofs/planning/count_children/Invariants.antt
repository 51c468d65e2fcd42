use Rattle.procedure.specs.Division.{Division}
use Rattle.run_arrays.specs.Trees.{ParentsOf}
use Rattle.run_queue.proofs.planning.Planning.{Counting}
use Rattle.run_queue.proofs.planning.count_children.Given as goal

abbrev pub invariant-loop-c : goal.invariant-loop-c
invariant-loop-c l = (d : Division) → ParentsOf d l.parents → Counting d l.rows l.c
