use mathlib.Core.Path.{◌≡◌}
use lib.ListN.{length}
use Rattle.indices.proofs.Tally.{Tally}
use Rattle.sheet.specs.Limits.{most_region_words}
use Rattle.judgement.specs.Division.{leaf_of_arc}
use Rattle.judge_division.proofs.leaves.count_leaves.Given as goal

abbrev pub invariant-loop-k : goal.invariant-loop-k
invariant-loop-k l = (length l.seen ≡ 2048) × Tally (leaf_of_arc l.d) most_region_words l.seen l.k
