-- `update_arc` meets its contract: the arc's own key is its leaf's smallest, so where it falls the update goes on at the leaf's parent.
use native.Mathlib.Omega.{arith}
use Rattle.run_engine.proofs.updates.Updates.{arc_fits, arc_count_fits, leaf_region, leaf_below, leaf_held, arc_stops, arc_climb_asks, arc_climbed}
use Rattle.run_engine.proofs.updates.update_arc.Goals as goal

pub own_key-old-requires : goal.own_key-old-requires
own_key-old-requires c = arc_fits c.requires.updating

pub set_own_key-requires : goal.set_own_key-requires
set_own_key-requires c = arc_fits c.requires.updating

pub overflow_add-result : goal.overflow_add-result
overflow_add-result c = omega (arith, arc_count_fits c.requires.updating c.requires.holds.held.counted)

pub returns-then-old-key : goal.returns-then-old-key
returns-then-old-key c g d q H U = arc_stops U H c.set_own_key.ensures (omega (arith, c.own_key-old.ensures, c.if-old-key.true))

pub leaf-leaf-requires : goal.leaf-leaf-requires
leaf-leaf-requires c = arc_fits c.requires.updating

-- THE KEY FELL, and the leaf's parent is found

pub parent_of-up-requires : goal.parent_of-up-requires
parent_of-up-requires c =
    let pre = c.requires in
    record {
      division = pre.division;
      counted = pre.holds.held.valid.seated.laid.planned.counted;
      positive = leaf_below pre.updating c.leaf-leaf.ensures;
      inside = leaf_region pre.updating c.leaf-leaf.ensures;
    }

pub overflow_add-count : goal.overflow_add-count
overflow_add-count c = omega (arith, arc_count_fits c.requires.updating c.requires.holds.held.counted)

pub update-requires : goal.update-requires
update-requires c =
    let H = c.requires.holds in
    let U = c.requires.updating in
    let K = c.set_own_key.ensures in
    let up = c.parent_of-up.ensures _ H.held.valid.seated.laid.planned.counted (leaf_region U c.leaf-leaf.ensures) in
    record {
      division = c.requires.division;
      queues = _;
      holds = leaf_held U H K;
      updating = arc_climb_asks U H K (omega (arith, c.own_key-old.ensures, c.if-old-key.false)) c.leaf-leaf.ensures up;
    }

pub returns : goal.returns
returns c g d q H U =
    let K = c.set_own_key.ensures in
    let leaf = c.leaf-leaf.ensures in
    let up = c.parent_of-up.ensures d H.held.valid.seated.laid.planned.counted (leaf_region U leaf) in
    let asks = arc_climb_asks U H K (omega (arith, c.own_key-old.ensures, c.if-old-key.false)) leaf up in
    arc_climbed U H K (omega (arith, c.own_key-old.ensures, c.if-old-key.false)) leaf up (c.update.ensures d _ (leaf_held U H K) asks)
