use Rattle.sheet.specs.Sections.{span_count, span}
use Rattle.indices.proofs.Entries.{Prefix}
use Rattle.run_layout.proofs.lengths.enter_spans.Given as goal

abbrev pub invariant-loop-i : goal.invariant-loop-i
invariant-loop-i l = Prefix (span_count l.s) (span l.s) l.spans l.i
