use Rattle.resume.proofs.entered.Nodes.{NodesUpTo}
use Rattle.resume.proofs.entered.enter_nodes.Given as goal

abbrev pub invariant-loop-v : goal.invariant-loop-v
invariant-loop-v l = NodesUpTo l.table l.n l.initial.run l.run l.v
