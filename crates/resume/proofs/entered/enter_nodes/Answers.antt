-- `enter_nodes` meets its contract: the nodes passed are entered.
use native.Mathlib.Omega.{arith}
use Rattle.resume.proofs.entered.Nodes.{no_nodes, all_nodes}
use Rattle.resume.proofs.entered.enter_nodes.Goals as goal

pub loop-v-init : goal.loop-v-init
loop-v-init c = no_nodes c.requires.labels_room c.requires.predecessors_room

pub returns : goal.returns
returns c = all_nodes c.loop-v.invariant (omega arith)
