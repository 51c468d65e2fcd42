-- `spans_outside` meets its contract: a scan for `any`.
use Rattle.std.proofs.Common.{rules}
use Rattle.indices.proofs.Scans.{any_scanned}
use Rattle.sheet.specs.Sections.{span_count}
use Rattle.judgement.specs.Form.{span_outside, spans_outside}
use Rattle.judge_form.proofs.limits.spans_outside.Goals as goal

pub returns : goal.returns
unfolding spans_outside
returns c = any_scanned _ _ (span_outside c.args.s.now) (span_count c.args.s.now) (search rules) (search rules) _ (rw c.spans.ensures at c.any.ensures.runs)
