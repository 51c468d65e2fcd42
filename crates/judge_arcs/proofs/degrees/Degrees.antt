-- What the counters say of the arcs at each node: one too many, or none.
use Prim.Native.Nat.{ℕ, ◌+◌, ◌<◌, ◌≤◌}
use mathlib.Core.Bool.{Bool, true, false, or-true}
use mathlib.Core.List.{List}
use mathlib.Core.Path.{◌≡◌, sym, ◌∙◌}
use borrow.Author.Tests.{eq-eqb, ne_eqb, lt-ltb}
use native.Mathlib.Omega.{arith}
use lib.ListN.{length, get_or, set}
use Rattle.indices.specs.Tests.{count}
use Rattle.indices.proofs.Tally.{Tally, tally_in}
use Rattle.indices.proofs.Tests.{any_hit, count_in_lem, count_mono}
use Rattle.sheet.specs.Limits.{most_arcs_each_way, node_numbers, most_nodes}
use Rattle.sheet.specs.Sections.{node_count, arc_count}
use Rattle.sheet.specs.Arcs.{end_of}
use Rattle.judgement.specs.Arcs.{ends_outside, ends_at, crowded, crowded_nodes, too_many_at_node}
use Rattle.judgement.proofs.Clear.{end_in, few_at_nodes}

-- the counters, once a arcs are passed: how many of them leave each node, and enter it
pub record Counting (b tails heads : List ℕ) (a : ℕ) : Type 0 where
  pub passed : a ≤ arc_count b
  pub tails_long : length tails ≡ node_numbers
  pub heads_long : length heads ≡ node_numbers
  pub out : Tally (ends_at false b) most_arcs_each_way tails a
  pub into : Tally (ends_at true b) most_arcs_each_way heads a

module _ (b : List ℕ) where
  -- one way is enough
  one_way : (heads : Bool) → crowded_nodes most_arcs_each_way heads b ≡ true → too_many_at_node most_arcs_each_way b ≡ true
  unfolding too_many_at_node
  one_way true e = rw (e, or-true)
  one_way false e = rw e

  -- v is the end of arc a, and the counters tell of the arcs before it
  module _ (heads : Bool) {seen : List ℕ} {a v : ℕ} (t : Tally (ends_at heads b) most_arcs_each_way seen a) (e : v ≡ end_of heads b a)
      (inside : v < length seen) where
    -- arc a is one more than v may have
    pub one_too_many : ends_outside b ≡ false → a < arc_count b → most_arcs_each_way ≤ get_or seen v 0 → too_many_at_node most_arcs_each_way b ≡ true
    unfolding crowded_nodes
    one_too_many ok l full =
        let here : count (ends_at heads b v) (a + 1) ≡ count (ends_at heads b v) a + 1 =
        count_in_lem (ends_at heads b v) a (eq-eqb (end_of heads b a) v (sym e)) in
        one_way heads (any_hit (crowded most_arcs_each_way heads b) v (node_count b) (omega (arith, end_in b ok heads a l))
        (lt-ltb most_arcs_each_way (count (ends_at heads b v) (arc_count b))
        (omega (arith, t.counts v inside, count_mono (ends_at heads b v) (a + 1) (arc_count b) (omega arith)))))

    -- v has room for it
    pub one_more : get_or seen v 0 < most_arcs_each_way → Tally (ends_at heads b) most_arcs_each_way (set seen v (get_or seen v 0 + 1)) (a + 1)
    one_more room =
        tally_in (ends_at heads b) most_arcs_each_way seen a t v inside (eq-eqb (end_of heads b a) v (sym e))
        (λ w ne. ne_eqb (end_of heads b a) w (λ h. ne (sym h ∙ sym e))) room

  -- counters of all arcs say that each node has few, out of it or into it
  few_seen : (heads : Bool) (seen : List ℕ) → node_count b ≤ length seen → Tally (ends_at heads b) most_arcs_each_way seen (arc_count b)
      → (v : ℕ) → v < node_count b → count (ends_at heads b v) (arc_count b) ≤ most_arcs_each_way
  few_seen heads seen fits t v l = omega (arith, t.counts v (omega arith), t.below v (omega arith))

  -- no node has one too many, either way
  pub none_too_many : {tails heads : List ℕ} {a : ℕ} → Counting b tails heads a → node_count b ≤ most_nodes → a ≡ arc_count b
      → too_many_at_node most_arcs_each_way b ≡ false
  none_too_many {tails} {heads} now few all = (few_at_nodes b most_arcs_each_way).1 seen
    where
      seen : (way : Bool) (v : ℕ) → v < node_count b → count (ends_at way b v) (arc_count b) ≤ most_arcs_each_way
      seen false = few_seen false tails (omega (arith, now.tails_long)) (rw all at now.out)
      seen true = few_seen true heads (omega (arith, now.heads_long)) (rw all at now.into)
