use Rattle.run_engine.proofs.updates.+update.Given as goal

abbrev pub decreases-update : goal.decreases-update
decreases-update l = l.r.0
