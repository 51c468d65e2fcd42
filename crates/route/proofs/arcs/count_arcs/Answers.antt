-- `count_arcs` meets its contract: the arcs passed and those still to pass are the route's.
use borrow.Author.Rules.{rules}
use native.Mathlib.Omega.{arith}
use Rattle.route.proofs.arcs.Following.{not_home, route_few, count_on, count_less, count_end}
use Rattle.route.proofs.arcs.count_arcs.Goals as goal

pub loop-u-smaller : goal.loop-u-smaller
loop-u-smaller c = rw c.previous-u.ensures.0 (search (rules, count_less, not_home))

pub loop-u-preserved : goal.loop-u-preserved
loop-u-preserved c = rw c.previous-u.ensures.0 (search (rules, count_on, not_home))

pub returns : goal.returns
returns c =
    let ok = c.args.table.now.fits.accepted in
    let few = route_few ok c.requires.0 c.requires.1 in
    let all = count_end ok c.requires.0 c.loop-u.invariant (cc) in
    (all, omega (arith, few))
