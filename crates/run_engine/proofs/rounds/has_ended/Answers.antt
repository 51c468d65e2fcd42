-- `has_ended` meets its contract: a run has ended where region 0's smallest key is none.
use Rattle.run_engine.proofs.rounds.Loops.{ended_by_key}
use Rattle.sheet.specs.Words.{top}
use Rattle.run_engine.proofs.rounds.has_ended.Goals as goal

pub returns : goal.returns
unfolding top
returns c g d s valid inner =
    let q = s.queues in
    ended_by_key g d s _ (c.min_key.ensures d q.keys valid valid.seated.laid.planned.counted.numbered.root inner q.own q.updates)
