-- `pigrozk_convert` meets its contract: the code of the call's answer, which counts few bytes.
use Rattle.pigrozk.proofs.Figures.{few_converted}
use Rattle.pigrozk.proofs.Told.{same_code}
use Rattle.pigrozk.proofs.pigrozk_convert.Goals as goal

pub code-requires : goal.code-requires
code-requires c = rw c.convert.ensures.0 (few_converted _ _)

pub returns : goal.returns
returns c =
    let done = c.convert.ensures in
    (same_code c.code.ensures done.0, done.1)
