-- `report_table` meets its contract: the run leaves the table of its end, whose listing is written.
use Rattle.report.proofs.Outcomes.{run_leaves}
use Rattle.report.proofs.report_table.Goals as goal

pub returns : goal.returns
returns c =
    let ended = run_leaves _ _ c.requires.accepted c.requires.sized (rw c.bytes.ensures.bytes at c.run.ensures.1) in
    (ended, rw (ended, c.spans.ensures, c.node_count.ensures) at c.write_listing.ensures)
