-- `pigrozk_run_limited` meets its contract: the code of the run's answer.
use Rattle.pigrozk.proofs.Told.{same_code}
use Rattle.pigrozk.proofs.pigrozk_run_limited.Goals as goal

pub returns : goal.returns
returns c =
    let done = c.run_limited.ensures in
    let coded = c.code.ensures in (
      same_code coded done.0,
      done.1,
      λ ok room. ((done.2 ok room).0, same_code coded (done.2 ok room).1),
      λ ok room. ((done.3 ok room).0, same_code coded (done.3 ok room).1),
    )
