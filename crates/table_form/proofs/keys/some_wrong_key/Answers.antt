-- `some_wrong_key` meets its contract: a scan for `any`.
use Rattle.std.proofs.Common.{rules}
use Rattle.indices.proofs.Scans.{any_scanned}
use Rattle.calls.specs.Routes.{wrong_key}
use Rattle.table_form.proofs.keys.some_wrong_key.Goals as goal

pub returns : goal.returns
returns c = any_scanned _ _ (wrong_key c.args.table.now c.args.nodes) c.args.arcs (search rules) (search rules) _ c.any.ensures.runs
