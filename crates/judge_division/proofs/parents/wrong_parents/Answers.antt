-- `wrong_parents` meets its contract: a scan for `any`.
use Rattle.std.proofs.Common.{rules}
use Rattle.indices.proofs.Scans.{any_scanned}
use Rattle.sheet.specs.Words.{words}
use Rattle.judgement.specs.Division.{wrong_parent, wrong_parents}
use Rattle.judge_division.proofs.parents.wrong_parents.Goals as goal

pub returns : goal.returns
unfolding wrong_parents
returns c = any_scanned _ _ (wrong_parent c.args.d.now) (words c.args.d.now) (search rules) (search rules) _ c.any.ensures.runs
