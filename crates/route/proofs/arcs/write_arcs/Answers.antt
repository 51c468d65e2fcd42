-- `write_arcs` meets its contract: what is written and what is to come make the route.
use Rattle.route.proofs.arcs.Following.{write_on}
use Rattle.route.proofs.arcs.write_arcs.Goals as goal

pub loop-place-preserved : goal.loop-place-preserved
loop-place-preserved c =
    rw (c.previous-u.ensures.0, c.predecessor.ensures)
    (write_on c.args.table.now.fits.accepted c.requires.passed c.loop-place.invariant c.loop-place-test.true)
