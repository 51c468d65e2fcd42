use Rattle.sheet.specs.Sections.{arc_count}
use Rattle.sheet.specs.Arcs.{taken_length}
use Rattle.indices.proofs.Entries.{Prefix}
use Rattle.run_layout.proofs.lengths.enter_lengths.Given as goal

abbrev pub invariant-loop-a : goal.invariant-loop-a
invariant-loop-a l = Prefix (arc_count l.s) (taken_length l.s) l.lengths l.a
