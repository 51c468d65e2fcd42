-- `write_table` meets its contract: the header, and behind it the words of the nodes, fill the table.
use borrow.Author.Rules.{rules}
use Rattle.table.proofs.Writing.{whole_table}
use Rattle.table.proofs.write_table.Goals as goal

pub returns : goal.returns
returns c = search (rules, whole_table)
