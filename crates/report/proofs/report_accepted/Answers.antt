-- `report_accepted` meets its contract: an accepted sheet has few nodes, so the words lent have room for its table, and the run gets just that part of them.
use Rattle.std.proofs.Common.{sym, ap, ◌∙◌, arith}
use lib.Seq.{length-take-le}
use Rattle.calls.specs.Tables.{table_length}
use Rattle.sheet.specs.Sections.{node_count}
use Rattle.judgement.proofs.Accepted.{few_nodes}
use Rattle.report.proofs.Outcomes.{reported_listing}
use Rattle.report.proofs.report_accepted.Goals as goal

pub slice_bounds-report_table-end-2 : goal.slice_bounds-report_table-end-2
slice_bounds-report_table-end-2 c =
    sym (length-take-le _ _ (omega (arith, few_nodes _ c.requires.0, ap node_count c.new-sheet.ensures)))

pub report_table-requires : goal.report_table-requires
report_table-requires c =
    let words = c.table_length-words.ensures ∙ ap table_length (c.node_count.ensures ∙ ap node_count c.new-sheet.ensures) in
    rw c.new-sheet.ensures
    (record { accepted = c.requires.0; sized = length-take-le _ _ (omega (arith, words, few_nodes _ c.requires.0)) ∙ words; room = c.requires.2 })

pub returns : goal.returns
returns c =
    let words = c.table_length-words.ensures ∙ ap table_length (c.node_count.ensures ∙ ap node_count c.new-sheet.ensures) in
    let made = rw c.new-sheet.ensures at c.report_table.ensures in
    rw words (reported_listing _ c.requires.0 made.0 made.1)
