-- `arcs_relaxed` meets its contract: a scan for `all`.
use Rattle.std.proofs.Common.{rules}
use native.Mathlib.Omega.{arith}
use Rattle.indices.proofs.Scans.{all_scanned}
use Rattle.judgement.proofs.Accepted.{few_arcs}
use Rattle.table_shortest.specs.ArcChecks.{arc_relaxed}
use Rattle.table_shortest.proofs.arcs.arcs_relaxed.Goals as goal

pub overflow_cast-arcs : goal.overflow_cast-arcs
overflow_cast-arcs c = omega (arith, few_arcs _ c.args.table.now.fits.accepted)

pub returns : goal.returns
returns c = rw (← c.arcs.ensures)
    (all_scanned _ _ (arc_relaxed c.args.table.now.sheet.now c.args.table.now.words.now) c.arcs.result (search rules) (search rules) _ c.all.ensures.runs)
