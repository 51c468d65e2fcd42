-- `leaf_bits_set` meets its contract: a scan for `any`.
use Rattle.std.proofs.Common.{rules}
use Rattle.indices.proofs.Scans.{any_scanned}
use Rattle.sheet.specs.Words.{words}
use Rattle.judgement.specs.Form.{leaf_bits}
use Rattle.judge_division.proofs.leaves.leaf_bits_set.Goals as goal

pub returns : goal.returns
returns c = any_scanned _ _ (leaf_bits c.args.d.now) (words c.args.d.now) (search rules) (search rules) _ c.any.ensures.runs
