-- `pigrozk_canonical` meets its contract: the code of the call's answer, which counts few bytes.
use Rattle.pigrozk.proofs.Figures.{few_bytes}
use Rattle.pigrozk.proofs.Told.{same_code}
use Rattle.pigrozk.proofs.pigrozk_canonical.Goals as goal

pub code-requires : goal.code-requires
code-requires c = rw c.canonical.ensures.0 (few_bytes _ _)

pub returns : goal.returns
returns c =
    let done = c.canonical.ensures in
    (same_code c.code.ensures done.0, done.1)
