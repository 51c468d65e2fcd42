use Rattle.sheet.specs.Sections.{arc_count}
use Rattle.conversion.specs.Converted.{kept_arc, arc_pair}
use Rattle.conversion_words.proofs.Selected.{Writing}
use Rattle.conversion_words.proofs.arcs.write_arcs.Given as goal

abbrev pub invariant-loop-a : goal.invariant-loop-a
invariant-loop-a l = let b = l.s in Writing (kept_arc b) (arc_pair b) (arc_count b) l.initial.out l.place l.out l.a
