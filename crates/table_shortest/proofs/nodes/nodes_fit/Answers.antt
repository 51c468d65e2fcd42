-- `nodes_fit` meets its contract: a scan for `all`.
use Rattle.std.proofs.Common.{rules}
use native.Mathlib.Omega.{arith}
use Rattle.indices.proofs.Scans.{all_scanned}
use Rattle.judgement.proofs.Accepted.{few_nodes}
use Rattle.table_shortest.specs.NodeChecks.{node_fits}
use Rattle.table_shortest.proofs.nodes.nodes_fit.Goals as goal

pub overflow_cast-node_count : goal.overflow_cast-node_count
overflow_cast-node_count c = omega (arith, few_nodes _ c.args.table.now.fits.accepted)

pub returns : goal.returns
returns c = rw (← c.node_count.ensures)
    (all_scanned _ _ (node_fits c.args.table.now.sheet.now c.args.table.now.words.now c.args.allowed) c.node_count.result
    (search rules) (search rules) _ c.all.ensures.runs)
