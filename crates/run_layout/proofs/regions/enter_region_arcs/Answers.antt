-- `enter_region_arcs` meets its contract: the regions passed have their arcs.
use native.Mathlib.Omega.{arith}
use Rattle.indices.proofs.Entries.{prefix_all}
use Rattle.run_layout.proofs.regions.enter_region_arcs.Goals as goal

pub returns : goal.returns
returns c = prefix_all c.loop-r.invariant (omega arith)
