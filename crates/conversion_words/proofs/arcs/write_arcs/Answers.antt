-- `write_arcs` meets its contract: of the arcs passed those that are kept are written.
use native.Mathlib.Omega.{arith}
use Rattle.conversion.specs.Converted.{new_arc, converted_arcs}
use Rattle.conversion_words.proofs.Selected.{writing_none, writing_more, writing_end}
use Rattle.conversion_words.proofs.arcs.Arcs.{pair_long}
use Rattle.conversion_words.proofs.arcs.write_arcs.Goals as goal

pub loop-a-init : goal.loop-a-init
loop-a-init c = writing_none

pub loop-a-preserved : goal.loop-a-preserved
unfolding new_arc
loop-a-preserved c = writing_more c.loop-a.invariant 2 (pair_long _) (omega arith) c.write_arc.ensures

pub returns : goal.returns
unfolding converted_arcs
returns c = writing_end c.loop-a.invariant (omega arith)
