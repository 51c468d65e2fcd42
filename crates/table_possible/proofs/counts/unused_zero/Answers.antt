-- `unused_zero` meets its contract: a scan for `all`.
use Prim.Native.Nat.{◌+◌}
use mathlib.Core.Bool.{◌||◌}
use lib.Dec.{ltb, eqb}
use Rattle.std.proofs.Common.{rules}
use Rattle.indices.proofs.Scans.{all_scanned}
use Rattle.sheet.specs.Limits.{most_spans}
use Rattle.procedure.specs.Table.{inner_place}
use Rattle.calls.specs.Tables.{count_in}
use Rattle.table_possible.proofs.counts.unused_zero.Goals as goal

pub returns : goal.returns
returns c =
    all_scanned _ _ (λ i. ltb i c.args.spans || eqb (count_in c.args.table.now (inner_place + i)) 0) most_spans
    (search rules) (search rules) _ c.all.ensures.runs
