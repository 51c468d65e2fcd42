-- `wrong_nodes` meets its contract: a scan for `any`.
use Rattle.std.proofs.Common.{rules}
use Rattle.indices.proofs.Scans.{any_scanned}
use Rattle.calls.specs.Routes.{wrong_node}
use Rattle.table_form.proofs.kinds.wrong_nodes.Goals as goal

pub returns : goal.returns
returns c = any_scanned _ _ (wrong_node c.args.table.now c.args.arcs) c.args.nodes (search rules) (search rules) _ c.any.ensures.runs
