-- `too_many_at_node` meets its contract: the counters say how many of the arcs passed each node has, each way.
use Prim.Native.Nat.{ℕ, ◌≤◌}
use mathlib.Core.Bool.{true, false}
use mathlib.Core.List.{List}
use mathlib.Core.Path.{◌≡◌, refl, sym, ◌∙◌}
use native.Mathlib.Omega.{arith}
use lib.ListN.{length-set, get_or}
use Rattle.indices.proofs.Tally.{tally_none}
use Rattle.sheet.specs.Limits.{most_arcs_each_way}
use Rattle.sheet.specs.Arcs.{end_of}
use Rattle.judgement.specs.Arcs.{too_many_at_node}
use Rattle.judge_arcs.proofs.degrees.Degrees.{one_too_many, one_more, none_too_many}
use Rattle.judge_arcs.proofs.degrees.too_many_at_node.Goals as goal

pub loop-a-init : goal.loop-a-init
loop-a-init c =
    record {
      passed = omega arith;
      tails_long = refl;
      heads_long = refl;
      out = tally_none _ most_arcs_each_way 1024;
      into = tally_none _ most_arcs_each_way 1024;
    }

-- a node that has no room for one of them
pub returns-then-tails-tail-ge-MOST_ARCS_EACH_WAY : goal.returns-then-tails-tail-ge-MOST_ARCS_EACH_WAY
returns-then-tails-tail-ge-MOST_ARCS_EACH_WAY c =
    let sheet : List ℕ = c.args.s.now in
    let now = c.loop-a.invariant in
    let tail : c.from-tail.result ≡ end_of false sheet c.loop-a.a = c.from-tail.ensures ∙ c.tail.ensures.0 in
    let head : c.from-head.result ≡ end_of true sheet c.loop-a.a = c.from-head.ensures ∙ c.head.ensures.0 in
    let out : most_arcs_each_way ≤ get_or c.loop-a.tails c.from-tail.result 0 → too_many_at_node most_arcs_each_way sheet ≡ true =
    one_too_many _ false now.out tail (omega arith) c.requires.ends_in (omega arith) in
    let into : most_arcs_each_way ≤ get_or c.loop-a.heads c.from-head.result 0 → too_many_at_node most_arcs_each_way sheet ≡ true =
    one_too_many _ true now.into head (omega arith) c.requires.ends_in (omega arith) in
    grind (arith, out, into)

-- both have room
pub loop-a-preserved : goal.loop-a-preserved
loop-a-preserved c =
    let sheet : List ℕ = c.args.s.now in
    let now = c.loop-a.invariant in
    let tail : c.from-tail.result ≡ end_of false sheet c.loop-a.a = c.from-tail.ensures ∙ c.tail.ensures.0 in
    let head : c.from-head.result ≡ end_of true sheet c.loop-a.a = c.from-head.ensures ∙ c.head.ensures.0 in
    record {
      passed = omega arith;
      tails_long = simp length-set now.tails_long;
      heads_long = simp length-set now.heads_long;
      out = one_more _ false now.out tail (omega arith) c.if-tails-tail-ge-MOST_ARCS_EACH_WAY.false;
      into = one_more _ true now.into head (omega arith) c.if-heads-head-ge-MOST_ARCS_EACH_WAY.false;
    }

-- all arcs are passed
pub returns : goal.returns
returns c = sym (none_too_many _ c.loop-a.invariant c.requires.few_nodes (omega arith))
