-- `write_nodes` meets its contract: the table is written from the labels and predecessors that the run lends, and from the counts, whose figures these are.
use borrow.Author.Rules.{rules}
use mathlib.Core.Path.{◌≡◌}
use lib.ListN.{length}
use Rattle.procedure.specs.Table.{counts_length}
use Rattle.run_counts.proofs.Figures.{written_out}
use Rattle.run_table.proofs.write_nodes.Goals as goal

pub write_table-requires : goal.write_table-requires
write_table-requires c =
    let counts = c.args.run.now.counts in
    let all : length counts ≡ counts_length = search rules in
    rw (written_out counts all, c.labels_of.ensures, c.predecessors_of.ensures) c.requires.writable

pub returns : goal.returns
returns c =
    let counts = c.args.run.now.counts in
    let all : length counts ≡ counts_length = search rules in
    rw (written_out counts all, c.labels_of.ensures, c.predecessors_of.ensures) at c.write_table.ensures
