-- `counts_below` meets its contract: a scan for `all`.
use Prim.Native.Nat.{◌^◌}
use lib.Dec.{ltb}
use Rattle.std.proofs.Common.{rules}
use Rattle.indices.proofs.Scans.{all_scanned}
use Rattle.procedure.specs.Table.{counts_length}
use Rattle.calls.specs.Tables.{count_in}
use Rattle.table_possible.proofs.counts.counts_below.Goals as goal

pub returns : goal.returns
returns c = all_scanned _ _ (λ i. ltb (count_in c.args.table.now i) (2 ^ 55)) counts_length (search rules) (search rules) _ c.all.ensures.runs
