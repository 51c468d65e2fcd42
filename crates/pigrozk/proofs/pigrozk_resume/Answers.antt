-- `pigrozk_resume` meets its contract: the code of the answer.
use Rattle.calls.proofs.Resume.{state_known}
use Rattle.pigrozk.proofs.Told.{same_code}
use Rattle.pigrozk.proofs.pigrozk_resume.Goals as goal

pub returns : goal.returns
returns c =
    let done = c.resume.ensures in
    (same_code c.code.ensures done.0, done.1, state_known _ _ _, λ good. done.3 (rw done.0 good))
