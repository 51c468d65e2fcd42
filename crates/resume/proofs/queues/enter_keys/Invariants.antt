use Rattle.resume.proofs.queues.Rebuilding.{Entering}
use Rattle.resume.proofs.queues.enter_keys.Given as goal

abbrev pub invariant-loop-a : goal.invariant-loop-a
invariant-loop-a l = Entering l.long.table.sheet.now l.layout l.long.table.words.now l.initial.run l.run l.a l.count
