-- The cycle of `process_inner` and `process_region` meets its contracts, by the measure of twice the region's height, and one more for `process_region`,
-- which calls `process_inner` on the same region. The loop's invariant: the turns that are left lead to the same end.
use native.Mathlib.Omega.{arith}
use Rattle.sheet.specs.Words.{top}
use Rattle.run_engine.proofs.leaf.Leaves.{region_fits}
use Rattle.run_engine.proofs.region.Loops.{
  span_asks,
  inner_count_fits,
  turns_first,
  loop-spent,
  turn_queue,
  turns_none,
  turning,
  child_in_lem,
  child_positive,
  child_lower,
  child_asks,
  key_asks,
  turned,
  region_inner,
  region_leaf,
  leaf_asks,
  leaf_worked,
}
use Rattle.run_engine.proofs.region.+process_inner_process_region.Goals as goal

-- SPAN AND LEVEL are read

pub process_inner-span-turn-end-requires : goal.process_inner-span-turn-end-requires
process_inner-span-turn-end-requires t c = span_asks c.requires.region.represents c.requires.region.workable c.requires.inner

pub process_inner-level-requires : goal.process_inner-level-requires
process_inner-level-requires t c = span_asks c.requires.region.represents c.requires.region.workable c.requires.inner

-- THE REGION IS COUNTED

pub process_inner-count_inner-requires : goal.process_inner-count_inner-requires
process_inner-count_inner-requires t c =
    inner_count_fits c.requires.region.represents c.requires.region.workable c.requires.inner c.level.ensures

pub process_inner-loop-turn-init : goal.process_inner-loop-turn-init
process_inner-loop-turn-init t c g d spans s R W inner = (
  _,
  turns_first (record {
    represents = R;
    workable = W;
    inner = inner;
    span = c.span-turn-end.ensures;
    found = c.level.ensures;
    counted = c.count_inner.ensures;
  })
      (omega arith),
)

-- A TURN: the smallest key is none, or the first-chosen child is worked

pub process_inner-min_key-least-requires : goal.process_inner-min_key-least-requires
process_inner-min_key-least-requires t c =
    let asks = c.requires.region in
    turn_queue (c.loop-turn.invariant _ _ _ _ asks.represents asks.workable c.requires.inner).1 asks.workable.in_range

pub process_inner-returns-then-least-ge-NONE : goal.process_inner-returns-then-least-ge-NONE
unfolding top
process_inner-returns-then-least-ge-NONE t c g d spans s R W inner =
    let L = c.loop-turn.invariant g d spans s R W inner in
    let q = L.0.queues in
    turns_none _ L.1 (c.min_key-least.ensures d q.keys L.1.represents.queues.held.valid W.in_range inner q.own q.updates) c.if-least-ge-NONE.true

pub process_inner-min_item-child-requires : goal.process_inner-min_item-child-requires
process_inner-min_item-child-requires t c =
    let asks = c.requires.region in
    turn_queue (c.loop-turn.invariant _ _ _ _ asks.represents asks.workable c.requires.inner).1 asks.workable.in_range

pub process_inner-process_region-requires : goal.process_inner-process_region-requires
unfolding top
process_inner-process_region-requires t c =
    let asks = c.requires.region in
    let L = c.loop-turn.invariant _ _ _ _ asks.represents asks.workable c.requires.inner in
    let T = turning asks.workable c.requires.inner L.1 (omega arith) (omega arith) (c.min_key-least.ensures _) (c.min_item-child.ensures _) in (
      omega (arith, child_lower T),
      record {
        graph = asks.graph;
        division = asks.division;
        spans = asks.spans;
        current = L.0;
        represents = L.1.represents;
        workable = child_asks T;
      },
    )

pub process_inner-key_of-key-requires : goal.process_inner-key_of-key-requires
unfolding top
process_inner-key_of-key-requires t c =
    let asks = c.requires.region in
    let L = c.loop-turn.invariant _ _ _ _ asks.represents asks.workable c.requires.inner in
    let T = turning asks.workable c.requires.inner L.1 (omega arith) (omega arith) (c.min_key-least.ensures _) (c.min_item-child.ensures _) in
    let R = c.process_region.ensures asks.graph asks.division asks.spans _ L.1.represents (child_asks T) in
    record { graph = asks.graph; division = asks.division; queues = _; count = _; holds = R.queues; keyed = key_asks T }

pub process_inner-write-requires : goal.process_inner-write-requires
unfolding top
process_inner-write-requires t c =
    let asks = c.requires.region in
    let L = c.loop-turn.invariant _ _ _ _ asks.represents asks.workable c.requires.inner in
    let T = turning asks.workable c.requires.inner L.1 (omega arith) (omega arith) (c.min_key-least.ensures _) (c.min_item-child.ensures _) in
    let R = c.process_region.ensures asks.graph asks.division asks.spans _ L.1.represents (child_asks T) in
    record {
      queue = record { division = asks.division; keys = _; queues = R.queues.held.valid; inside = child_in_lem T };
      positive = child_positive T;
    }

pub process_inner-loop-turn-preserved : goal.process_inner-loop-turn-preserved
unfolding top
process_inner-loop-turn-preserved t c g d spans s R W inner =
    let L = c.loop-turn.invariant g d spans s R W inner in
    let T = turning W inner L.1 (omega arith) (omega arith) (c.min_key-least.ensures d) (c.min_item-child.ensures d) in
    let worked = c.process_region.ensures g d spans _ L.1.represents (child_asks T) in
    let new = c.key_of-key.ensures g d _ _ worked.queues (key_asks T) in
    let valid = c.write.ensures d _ worked.queues.held.valid (child_in_lem T) in
    (_, turned T worked new valid (omega arith))

pub process_inner-returns : goal.process_inner-returns
process_inner-returns t c g d spans s R W inner = loop-spent (c.loop-turn.invariant g d spans s R W inner).1 (omega (arith, c.loop-turn-test.false))

-- THE REGION is inner, or a leaf

pub process_region-arc-a-requires : goal.process_region-arc-a-requires
process_region-arc-a-requires t c = region_fits c.requires.represents c.requires.workable

pub process_region-process_inner-requires : goal.process_region-process_inner-requires
process_region-process_inner-requires t c =
    let asks = c.requires in (
      omega arith,
      record { region = asks; inner = region_inner asks.represents asks.workable c.arc-a.ensures c.if-a.true },
    )

pub process_region-returns-then-a : goal.process_region-returns-then-a
process_region-returns-then-a t c g d spans s R W = c.process_inner.ensures g d spans s R W (region_inner R W c.arc-a.ensures c.if-a.true)

pub process_region-process_leaf-requires : goal.process_region-process_leaf-requires
process_region-process_leaf-requires t c =
    let asks = c.requires in
    record {
      graph = asks.graph;
      division = asks.division;
      spans = asks.spans;
      current = asks.current;
      represents = asks.represents;
      workable = leaf_asks asks.represents asks.workable c.arc-a.ensures c.if-a.false;
      leaf = region_leaf asks.represents asks.workable c.arc-a.ensures c.if-a.false;
    }

pub process_region-returns : goal.process_region-returns
process_region-returns t c g d spans s R W =
    let arc = c.arc-a.ensures in
    let some = c.if-a.false in
    leaf_worked R W arc some (c.process_leaf.ensures g d spans s R (leaf_asks R W arc some) (region_leaf R W arc some))
