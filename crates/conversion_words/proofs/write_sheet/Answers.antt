-- `write_sheet` meets its contract: its parts, one after the other.
use native.Mathlib.Omega.{arith}
use Rattle.judgement.proofs.Accepted.{few_spans, few_arcs}
use Rattle.conversion_words.proofs.Sheet.{bounds, regions_writable, all_written}
use Rattle.conversion_words.proofs.write_sheet.Goals as goal

pub overflow_add-holds_at : goal.overflow_add-holds_at
overflow_add-holds_at c = let f = bounds c.requires in omega arith

pub overflow_add-arcs_at : goal.overflow_add-arcs_at
overflow_add-arcs_at c = let f = bounds c.requires in omega arith

pub overflow_mul-regions_at : goal.overflow_mul-regions_at
overflow_mul-regions_at c = let f = bounds c.requires in omega arith

pub overflow_add-regions_at : goal.overflow_add-regions_at
overflow_add-regions_at c = let f = bounds c.requires in omega arith

pub write_words-requires : goal.write_words-requires
write_words-requires c = let f = bounds c.requires in rw c.bytes.ensures.bytes (omega arith, omega arith)

pub overflow_add-spans : goal.overflow_add-spans
overflow_add-spans c = let f = bounds c.requires in omega (arith, c.spans.ensures, few_spans _ c.requires.numbered.arcs_numbered.convertible)

pub write_words-requires-2 : goal.write_words-requires-2
write_words-requires-2 c = let f = bounds c.requires in rw c.bytes-2.ensures.bytes (omega (arith, c.spans.ensures), omega arith)

pub write_arcs-requires-clause-few : goal.write_arcs-requires-clause-few
write_arcs-requires-clause-few c = few_arcs _ c.requires.numbered.arcs_numbered.convertible

pub write_arcs-requires-clause-room : goal.write_arcs-requires-clause-room
write_arcs-requires-clause-room c = let f = bounds c.requires in omega arith

pub write_regions-requires : goal.write_regions-requires
write_regions-requires c =
    rw (c.new-n.ensures.0, c.new-n.ensures.1, c.new-n.ensures.2) (_, regions_writable c.requires (omega arith) (omega arith))

pub returns : goal.returns
returns c =
    all_written c.requires _ _ _ (omega arith) (omega arith) (omega arith) (rw c.bytes.ensures.bytes at c.write_words.ensures)
    (rw (c.bytes-2.ensures.bytes, c.spans.ensures) at c.write_words-2.ensures) c.write_arcs.ensures
    ((rw (c.new-n.ensures.0, c.new-n.ensures.1, c.new-n.ensures.2) at c.write_regions.ensures) _
    (regions_writable c.requires (omega arith) (omega arith)))
