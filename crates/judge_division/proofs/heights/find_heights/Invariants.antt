use Rattle.judge_division.proofs.heights.Childless.{Passed}
use Rattle.judge_division.proofs.heights.find_heights.Given as goal

abbrev pub invariant-loop-r : goal.invariant-loop-r
invariant-loop-r l = Passed l.n.bytes.now l.heights l.r
