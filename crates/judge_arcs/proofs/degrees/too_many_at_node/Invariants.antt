use Rattle.judge_arcs.proofs.degrees.Degrees.{Counting}
use Rattle.judge_arcs.proofs.degrees.too_many_at_node.Given as goal

abbrev pub invariant-loop-a : goal.invariant-loop-a
invariant-loop-a l = Counting l.s l.tails l.heads l.a
