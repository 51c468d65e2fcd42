-- `self_arcs` meets its contract: a scan for `any`.
use Rattle.std.proofs.Common.{rules}
use Rattle.indices.proofs.Scans.{any_scanned}
use Rattle.sheet.specs.Sections.{arc_count}
use Rattle.judgement.specs.Arcs.{self_arc, self_arcs}
use Rattle.judge_arcs.proofs.self_arcs.self_arcs.Goals as goal

pub returns : goal.returns
unfolding self_arcs
returns c = any_scanned _ _ (self_arc c.args.s.now) (arc_count c.args.s.now) (search rules) (search rules) _ (rw c.arcs.ensures at c.any.ensures.runs)
