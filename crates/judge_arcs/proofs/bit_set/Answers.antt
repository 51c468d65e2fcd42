-- `bit_set` meets its contract: a scan for `any`.
use Rattle.std.proofs.Common.{rules}
use Rattle.indices.proofs.Scans.{any_scanned}
use Rattle.sheet.specs.Sections.{arc_count}
use Rattle.judgement.specs.Form.{arc_bits}
use Rattle.judge_arcs.proofs.bit_set.Goals as goal

pub returns : goal.returns
returns c = any_scanned _ _ (arc_bits c.args.s.now) (arc_count c.args.s.now) (search rules) (search rules) _ (rw c.arcs.ensures at c.any.ensures.runs)
