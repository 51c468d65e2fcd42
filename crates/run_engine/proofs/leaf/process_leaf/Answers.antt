-- `process_leaf` meets its contract: the sum of the tail's label and the arc's length is weighed against the head's label, which stays or falls as the
-- definition says.
use borrow.Author.Rules.{rules}
use mathlib.Core.Path.{◌∙◌}
use Rattle.sheet.specs.Words.{top}
use Rattle.run_engine.proofs.leaf.Leaves.{
  region_fits,
  leaf_count_fits,
  leaf_arc_in,
  leaf_tail_in,
  leaf_head_in,
  weighed,
  leaf_stays,
  leaf_asks,
  lowered_held,
  lowered_count_fits,
  leaf_falls,
}
use Rattle.run_engine.proofs.leaf.process_leaf.Goals as goal

-- THE ARC, its tail and its head are in range

pub arc-a-requires : goal.arc-a-requires
arc-a-requires c = region_fits c.requires.represents c.requires.workable

pub head-head-requires : goal.head-head-requires
head-head-requires c = leaf_arc_in c.requires.represents c.requires.workable c.requires.leaf c.arc-a.ensures

pub tail-requires : goal.tail-requires
tail-requires c = leaf_arc_in c.requires.represents c.requires.workable c.requires.leaf c.arc-a.ensures

pub label-requires : goal.label-requires
label-requires c = search (rules, leaf_tail_in)

pub arc_length-requires : goal.arc_length-requires
arc_length-requires c = leaf_arc_in c.requires.represents c.requires.workable c.requires.leaf c.arc-a.ensures

pub label-requires-2 : goal.label-requires-2
label-requires-2 c = search (rules, leaf_head_in)

pub set_own_key-requires : goal.set_own_key-requires
set_own_key-requires c = leaf_arc_in c.requires.represents c.requires.workable c.requires.leaf c.arc-a.ensures

pub lower_label-requires : goal.lower_label-requires
lower_label-requires c = search (rules, leaf_head_in)

pub set_own_key-requires-2 : goal.set_own_key-requires-2
set_own_key-requires-2 c = leaf_arc_in c.requires.represents c.requires.workable c.requires.leaf c.arc-a.ensures

-- THE COUNT fits

pub count_leaf-requires : goal.count_leaf-requires
count_leaf-requires c = leaf_count_fits c.requires.represents c.requires.workable c.requires.leaf

pub count_leaf-requires-2 : goal.count_leaf-requires-2
count_leaf-requires-2 c =
    let w =
    weighed c.requires.represents c.requires.workable c.requires.leaf c.arc-a.ensures c.tail.ensures c.head-head.ensures (c.from.ensures ∙ c.label.ensures)
    (c.from-2.ensures ∙ c.arc_length.ensures) (c.from-3.ensures ∙ c.label-2.ensures) in
    lowered_count_fits w c.if-from-sum.false c.lower_label.ensures

-- THE SUM is weighed against the head's label

pub returns-then-from-sum : goal.returns-then-from-sum
unfolding top
returns-then-from-sum c g d spans s R W leaf =
    let w =
    weighed R W leaf c.arc-a.ensures c.tail.ensures c.head-head.ensures (c.from.ensures ∙ c.label.ensures)
    (c.from-2.ensures ∙ c.arc_length.ensures) (c.from-3.ensures ∙ c.label-2.ensures) in
    leaf_stays w c.if-from-sum.true c.set_own_key.ensures c.updates_of-old.ensures c.count_leaf.ensures

pub update_outgoing-n-requires : goal.update_outgoing-n-requires
update_outgoing-n-requires c =
    let pre = c.requires in
    let w =
    weighed pre.represents pre.workable pre.leaf c.arc-a.ensures c.tail.ensures c.head-head.ensures (c.from.ensures ∙ c.label.ensures)
    (c.from-2.ensures ∙ c.arc_length.ensures) (c.from-3.ensures ∙ c.label-2.ensures) in
    record {
      graph = pre.graph;
      division = pre.division;
      queues = pre.current.queues;
      holds = lowered_held w c.if-from-sum.false c.lower_label.ensures c.updates_of-old.ensures;
      updating = leaf_asks w c.if-from-sum.false;
    }

pub returns : goal.returns
unfolding top
returns c g d spans s R W leaf =
    let w =
    weighed R W leaf c.arc-a.ensures c.tail.ensures c.head-head.ensures (c.from.ensures ∙ c.label.ensures)
    (c.from-2.ensures ∙ c.arc_length.ensures) (c.from-3.ensures ∙ c.label-2.ensures) in
    let lower = c.if-from-sum.false in
    let held = lowered_held w lower c.lower_label.ensures c.updates_of-old.ensures in
    let done = c.update_outgoing-n.ensures g d s.queues held (leaf_asks w lower) in
    leaf_falls w lower c.lower_label.ensures done c.set_own_key-2.ensures c.count_leaf-2.ensures
