-- `count_leaves` meets its contract: the counters say how many of the words passed are a leaf of each arc.
use mathlib.Core.Path.{refl}
use native.Mathlib.Omega.{arith}
use lib.ListN.{length-set}
use Rattle.indices.proofs.Tally.{tally_none}
use Rattle.sheet.specs.Limits.{most_region_words}
use Rattle.judge_division.proofs.leaves.Counted.{room, word_counted}
use Rattle.judge_division.proofs.leaves.count_leaves.Goals as goal

pub loop-k-init : goal.loop-k-init
loop-k-init c = (refl, tally_none _ most_region_words 2048)

pub overflow_add-seen : goal.overflow_add-seen
overflow_add-seen c =
    let arc = c.arc_word-arc in
    let few = room _ c.loop-k.invariant.1 (omega arith) arc.result.0 (omega arith) in
    grind arith

pub loop-k-preserved : goal.loop-k-preserved
loop-k-preserved c =
    let arc = c.arc_word-arc in (
      simp length-set c.loop-k.invariant.0,
      rw (c.from-in-loop-k.ensures, c.from.ensures)
          (word_counted _ c.loop-k.invariant.1 (omega arith) arc.result.0 (omega arith) c.leaf_word.result c.leaf_word.ensures arc.ensures.0),
    )
