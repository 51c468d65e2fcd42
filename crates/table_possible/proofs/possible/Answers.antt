-- `possible` meets its contract: labels, predecessors and keys, then the counts, then the status.
use Rattle.std.proofs.Common.{arith}
use Rattle.std.proofs.lemmas.Grind.{common_steps}
use Rattle.calls.specs.Possible.{possible?}
use Rattle.table_possible.proofs.possible.Goals as goal

pub returns-then-counts_held : goal.returns-then-counts_held
unfolding possible?
returns-then-counts_held c = grind (arith, common_steps)

pub returns-else-counts_held : goal.returns-else-counts_held
unfolding possible?
returns-else-counts_held c = grind (arith, common_steps)
