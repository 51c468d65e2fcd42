-- `holds_outside` meets its contract: a scan for `any`.
use Rattle.std.proofs.Common.{rules}
use Rattle.indices.proofs.Scans.{any_scanned}
use Rattle.sheet.specs.Sections.{arc_count}
use Rattle.judgement.specs.Arcs.{too_long_held, holds_outside}
use Rattle.judge_arcs.proofs.holds_outside.Goals as goal

pub returns : goal.returns
unfolding holds_outside
returns c = any_scanned _ _ (too_long_held c.args.s.now) (arc_count c.args.s.now) (search rules) (search rules) _ (rw c.arcs.ensures at c.any.ensures.runs)
