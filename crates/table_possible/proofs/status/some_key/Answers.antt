-- `some_key` meets its contract: a scan for `any`.
use Rattle.std.proofs.Common.{rules}
use native.Mathlib.Omega.{arith}
use Rattle.indices.proofs.Scans.{any_scanned}
use Rattle.judgement.proofs.Accepted.{few_arcs}
use Rattle.procedure.specs.OfSheet.{graph_of}
use Rattle.calls.specs.LongTables.{has_key}
use Rattle.table_possible.proofs.status.some_key.Goals as goal

pub overflow_cast-arcs : goal.overflow_cast-arcs
overflow_cast-arcs c = omega (arith, few_arcs _ c.args.long.now.table.fits.accepted)

pub returns : goal.returns
returns c = rw (← c.arcs.ensures)
    (any_scanned _ _ (has_key (graph_of c.args.long.now.table.sheet.now) c.args.long.now.table.words.now) c.arcs.result
    (search rules) (search rules) _ c.any.ensures.runs)
