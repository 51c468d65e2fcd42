-- `count_reached` meets its contract: the reached ones of the nodes are counted.
use Rattle.std.proofs.Common.{rules}
use Rattle.indices.proofs.Counted.{count_scanned}
use Rattle.sheet.specs.Words.{top}
use Rattle.table_possible.specs.Held.{reached_in}
use Rattle.table_possible.proofs.bound.count_reached.Goals as goal

pub returns : goal.returns
unfolding top
returns c = count_scanned _ _ (reached_in c.args.table.now) c.args.nodes (search rules) _ _ c.filter.ensures.runs c.count.ensures.runs
