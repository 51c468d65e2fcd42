-- `run_rounds` meets its contract. The loop's invariant: the rounds that are left lead to the same end.
use mathlib.Core.Path.{sym, ◌∙◌}
use native.Mathlib.Omega.{arith}
use Rattle.procedure.specs.Procedure.{count_round}
use Rattle.run_engine.proofs.region.Loops.{loop-spent, turn_queue}
use Rattle.run_engine.proofs.rounds.Loops.{round_count_fits, round_begun, round_asks, rounds_first, rounds_ended, next_asks, rounds_step}
use Rattle.run_engine.proofs.rounds.run_rounds.Goals as goal

pub loop-round-init : goal.loop-round-init
loop-round-init c g d spans s R small = (s, rounds_first R (omega arith))

pub has_ended-requires : goal.has_ended-requires
has_ended-requires c =
    let L = c.loop-round.invariant _ _ _ _ c.requires.represents c.requires.small in
    turn_queue L.1 L.1.represents.fixed_ok.ok.division.nesting.root

pub returns-then-has_ended : goal.returns-then-has_ended
returns-then-has_ended c g d spans s R small =
    let L = c.loop-round.invariant g d spans s R small in
    let told = sym (c.has_ended.ensures g d L.0 L.1.represents.queues.held.valid L.1.represents.fixed_ok.ok.division.root_inner) in
    rounds_ended L.1 (told ∙ c.if-has_ended.true)

-- A ROUND is to be made

pub count_round-requires : goal.count_round-requires
count_round-requires c =
    let pre = c.requires in
    let L = c.loop-round.invariant _ _ _ _ pre.represents pre.small in
    let told = sym (c.has_ended.ensures pre.graph pre.division L.0 L.1.represents.queues.held.valid L.1.represents.fixed_ok.ok.division.root_inner) in
    round_count_fits L.1.represents (next_asks _ _ _ _ L.1.sofar (omega arith) (told ∙ c.if-has_ended.false) L.1.represents.fixed_ok.ok.division pre.small)

pub process_inner-requires : goal.process_inner-requires
process_inner-requires c =
    let pre = c.requires in
    let L = c.loop-round.invariant _ _ _ _ pre.represents pre.small in
    let told = sym (c.has_ended.ensures pre.graph pre.division L.0 L.1.represents.queues.held.valid L.1.represents.fixed_ok.ok.division.root_inner) in
    let W = next_asks _ _ _ _ L.1.sofar (omega arith) (told ∙ c.if-has_ended.false) L.1.represents.fixed_ok.ok.division pre.small in
    record {
      region = record {
        graph = pre.graph;
        division = pre.division;
        spans = pre.spans;
        current = count_round pre.graph pre.division L.0;
        represents = round_begun L.1.represents W c.count_round.ensures;
        workable = round_asks L.1.represents W;
      };
      inner = pre.represents.fixed_ok.ok.division.root_inner;
    }

pub loop-round-preserved : goal.loop-round-preserved
loop-round-preserved c g d spans s R small =
    let L = c.loop-round.invariant g d spans s R small in
    let told = sym (c.has_ended.ensures g d L.0 L.1.represents.queues.held.valid L.1.represents.fixed_ok.ok.division.root_inner) in
    let runs = told ∙ c.if-has_ended.false in
    let W = next_asks _ _ _ _ L.1.sofar (omega arith) runs L.1.represents.fixed_ok.ok.division small in
    let begun = round_begun L.1.represents W c.count_round.ensures in
    let done = c.process_inner.ensures g d spans _ begun (round_asks L.1.represents W) R.fixed_ok.ok.division.root_inner in
    (_, rounds_step L.1 (omega arith) runs done (omega arith))

pub returns : goal.returns
returns c g d spans s R small = loop-spent (c.loop-round.invariant g d spans s R small).1 (omega (arith, c.loop-round-test.false))
