-- `write_converted` meets its contract: the line of the converter's refusal, or the converted sheet.
use Rattle.std.proofs.Common.{◌≤◌, length, sym, ap, ◌∙◌}
use lib.Seq.{length-take-le}
use Rattle.answer.specs.Said.{copied_said}
use Rattle.listing.proofs.Writing.{filled_within}
use Rattle.converter.proofs.Outcomes.{line_written, sheet_written}
use Rattle.converter.proofs.write_converted.Goals as goal

pub returns-in-Refused-clause-filled : goal.returns-in-Refused-clause-filled
returns-in-Refused-clause-filled c =
    line_written _ _ c.requires _ (ap copied_said (sym c.in-Refused.is) ∙ c.convert-copied.ensures.0)
    (rw (c.number.ensures, c.convert-copied.ensures.1) at c.write_refused.ensures)

pub returns-in-Written-clause-filled : goal.returns-in-Written-clause-filled
returns-in-Written-clause-filled c =
    rw c.convert-copied.ensures.1 (sheet_written _ _ c.requires _ (ap copied_said (sym c.in-Written.is) ∙ c.convert-copied.ensures.0))

pub returns-in-Written-clause-prefix_len : goal.returns-in-Written-clause-prefix_len
returns-in-Written-clause-prefix_len c =
    let within : c.in-Written.bytes ≤ length c.convert-copied.new.out = filled_within (returns-in-Written-clause-filled c) in
    (within, sym (length-take-le _ _ within))
