-- `pigrozk_judge` meets its contract: the code of the judge's answer.
use Rattle.pigrozk.proofs.Told.{same_code}
use Rattle.pigrozk.proofs.pigrozk_judge.Goals as goal

pub returns : goal.returns
returns c = same_code c.code.ensures c.judge.ensures
