-- `new` makes a table that fits: one that is not refused for its length has the words of the nodes.
use Rattle.calls.proofs.Outcome.{right_room}
use Rattle.table.proofs.lent.Table.new.Goals as goal

pub invariant_of-result : goal.invariant_of-result
invariant_of-result c = record { fits = record { accepted = c.requires.0; sized = right_room _ _ c.requires.1 } }
