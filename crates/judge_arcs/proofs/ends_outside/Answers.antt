-- `ends_outside` meets its contract: a scan for `any`.
use Rattle.std.proofs.Common.{rules}
use Rattle.indices.proofs.Scans.{any_scanned}
use Rattle.sheet.specs.Sections.{arc_count}
use Rattle.judgement.specs.Arcs.{end_outside, ends_outside}
use Rattle.judge_arcs.proofs.ends_outside.Goals as goal

pub returns : goal.returns
unfolding ends_outside
returns c = any_scanned _ _ (end_outside c.args.s.now) (arc_count c.args.s.now) (search rules) (search rules) _ (rw c.arcs.ensures at c.any.ensures.runs)
