-- `pigrozk_route` meets its contract: the code of the route reader's answer, which counts few arcs.
use Rattle.calls.proofs.Routes.{table_known}
use Rattle.pigrozk.proofs.Figures.{few_arcs}
use Rattle.pigrozk.proofs.Told.{same_code}
use Rattle.pigrozk.proofs.pigrozk_route.Goals as goal

pub code-requires : goal.code-requires
code-requires c = rw c.route.ensures.0 (few_arcs _ _ _ _)

pub returns : goal.returns
returns c =
    let done = c.route.ensures in
    (same_code c.code.ensures done.0, done.1, table_known _ _ _ _)
