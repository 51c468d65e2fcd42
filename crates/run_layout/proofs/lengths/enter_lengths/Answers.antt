-- `enter_lengths` meets its contract: the arcs passed have their lengths, holds included.
use native.Mathlib.Omega.{arith}
use Rattle.procedure.specs.OfSheet.{graph_of}
use Rattle.indices.proofs.Entries.{prefix_all}
use Rattle.run_layout.proofs.lengths.enter_lengths.Goals as goal

pub returns : goal.returns
unfolding graph_of
returns c = prefix_all c.loop-a.invariant (omega arith)
