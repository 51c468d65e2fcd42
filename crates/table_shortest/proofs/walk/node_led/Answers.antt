-- `node_led` meets its contract: from a reached node a walk is on its way, until it meets a stamp.
use borrow.Author.Rules.{rules}
use Rattle.sheet.specs.Words.{top}
use Rattle.table_shortest.proofs.walk.Walks.{walk_arc, walk_on, walk_end}
use Rattle.table_shortest.proofs.walk.node_led.Goals as goal

pub returns-then-met-ne0 : goal.returns-then-met-ne0
unfolding top
returns-then-met-ne0 c =
    let ok = c.args.table.now.fits.accepted in
    walk_end ok c.requires.followable c.loop-u.invariant c.requires.inside c.label.ensures c.if-label-eq-NONE.false c.if-met-ne0.true

pub previous-u-requires : goal.previous-u-requires
unfolding top
previous-u-requires c = search (rules, walk_arc)

pub loop-u-preserved : goal.loop-u-preserved
unfolding top
loop-u-preserved c = rw c.previous-u.ensures.0 (search (rules, walk_on))
