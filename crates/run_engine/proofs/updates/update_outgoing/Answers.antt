-- `update_outgoing` meets its contract. The loop's invariant: the walk along the node's links has come to arc `a`, with the arcs before it updated.
use native.Mathlib.Omega.{arith}
use Rattle.run_engine.proofs.updates.Updates.{arc_fits, spread_start, spread_asks, spread_falls, spread_step, spread_end}
use Rattle.run_engine.proofs.updates.update_outgoing.Goals as goal

pub first-a-requires : goal.first-a-requires
first-a-requires c = omega (arith, c.requires.updating.in_range, c.requires.updating.updatable.graph.few_nodes)

pub loop-a-init : goal.loop-a-init
loop-a-init c g d q H U = (q, spread_start H U c.first-a.ensures)

-- THE WALK, of the graph, division and queues that are asked for, has come to an arc

pub update_arc-n-requires : goal.update_arc-n-requires
update_arc-n-requires c =
    let W = c.loop-a.invariant _ _ _ c.requires.holds c.requires.updating in
    record {
      graph = c.requires.graph;
      division = c.requires.division;
      queues = W.0;
      holds = W.1.left;
      updating = spread_asks W.1 c.loop-a-test.true;
    }

pub next-a-requires : goal.next-a-requires
next-a-requires c = arc_fits (spread_asks (c.loop-a.invariant _ _ _ c.requires.holds c.requires.updating).1 c.loop-a-test.true)

pub loop-a-smaller : goal.loop-a-smaller
loop-a-smaller c = spread_falls (c.loop-a.invariant _ _ _ c.requires.holds c.requires.updating).1 c.loop-a-test.true c.next-a.ensures

pub loop-a-preserved : goal.loop-a-preserved
loop-a-preserved c g d q H U =
    let W = c.loop-a.invariant g d q H U in
    (_, spread_step W.1 c.loop-a-test.true c.next-a.ensures (c.update_arc-n.ensures g d W.0 W.1.left (spread_asks W.1 c.loop-a-test.true)))

pub returns : goal.returns
returns c g d q H U = spread_end (c.loop-a.invariant g d q H U).1 c.loop-a-test.false
