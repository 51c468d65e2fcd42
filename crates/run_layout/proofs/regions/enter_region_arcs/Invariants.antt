use Rattle.indices.proofs.Entries.{Prefix}
use Rattle.sheet.specs.Regions.{region_count}
use Rattle.run_layout.specs.Regions.{arc_entered}
use Rattle.run_layout.proofs.regions.enter_region_arcs.Given as goal

abbrev pub invariant-loop-r : goal.invariant-loop-r
invariant-loop-r l = Prefix (region_count l.d) (arc_entered l.d) l.arcs l.r
