-- `wrong_counts` meets its contract: a scan for `any`.
use Prim.Native.Nat.{◌*◌}
use Rattle.std.proofs.Common.{rules}
use Rattle.indices.proofs.Scans.{any_scanned}
use Rattle.procedure.specs.Table.{counts_length}
use Rattle.calls.specs.Routes.{wrong_count}
use Rattle.table_form.proofs.kinds.wrong_counts.Goals as goal

pub returns : goal.returns
returns c = any_scanned _ _ (wrong_count c.args.table.now) (2 * counts_length) (search rules) (search rules) _ c.any.ensures.runs
