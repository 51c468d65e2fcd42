-- `arcs_held` meets its contract: a scan for `all`.
use Rattle.std.proofs.Common.{rules}
use native.Mathlib.Omega.{arith}
use Rattle.indices.proofs.Scans.{all_scanned}
use Rattle.judgement.proofs.Accepted.{few_arcs}
use Rattle.table_possible.specs.Held.{arc_held}
use Rattle.table_possible.proofs.arcs.arcs_held.Goals as goal

pub overflow_cast-arcs : goal.overflow_cast-arcs
overflow_cast-arcs c = omega (arith, few_arcs _ c.args.long.now.table.fits.accepted)

pub returns : goal.returns
returns c = rw (← c.arcs.ensures)
    (all_scanned _ _ (arc_held c.args.long.now.table.sheet.now c.args.long.now.table.words.now) c.arcs.result
    (search rules) (search rules) _ c.all.ensures.runs)
