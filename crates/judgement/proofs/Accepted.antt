-- A sheet is accepted just where none of the refusals applies to it; and what each of them says then. All but 35 are said of a sheet that is accepted with
-- self-arcs retired, and of one that is accepted without, which is at fault in nothing else.
use Prim.Native.Nat.{ℕ, suc, ◌<◌, ◌≤◌}
use mathlib.Core.Bool.{Bool, true, false, ◌&&◌, ◌||◌, and-false, true≢false}
use mathlib.Core.List.{List}
use mathlib.Core.Path.{◌≡◌, sym, ◌∙◌}
use mathlib.Core.Logic.{◌⊎◌, inl, inr}
use borrow.Author.Tests.{ltb-false, leb-false, eqb-true, eqb-false, eq-eqb, ne_eqb, not-false}
use native.Mathlib.Omega.{arith}
use lib.Dec.{ltb, eqb}
use Rattle.indices.specs.Tests.{any, count}
use Rattle.indices.proofs.Steps.{by_order, by_truth}
use Rattle.indices.proofs.Tests.{any_hit, any_at, or_left, or_right, or_then, count_out_all, count_some}
use Rattle.sheet.specs.Limits.{most_nodes, most_spans, most_span, most_arcs, most_region_words, most_length, most_arcs_each_way}
use Rattle.sheet.specs.Words.{words, kind}
use Rattle.sheet.specs.Sections.{node_count, source, span_count, span, hold_count, arc_count, region_words}
use Rattle.sheet.specs.Arcs.{tail, head, arc_length, end_of, taken_length}
use Rattle.sheet.specs.Inner.{Nesting}
use Rattle.sheet.specs.Regions.{region_count, leaf_word, parent_word, arc_word, is_leaf, parent, height}
use Rattle.answer.proofs.Lowest.{clear_of}
use Rattle.judgement.specs.Form.{wrong_size, wrong_front, no_region_word, wrong_sections, wrong_holds, out_of_order, bit_set, nodes_outside}
use Rattle.judgement.specs.Form.{source_outside, span_outside, spans_outside, too_many}
use Rattle.judgement.specs.Arcs.{ends_outside, too_long, lengths_outside, too_long_held, holds_outside, ends_at, too_many_at_node, self_arc, self_arcs}
use Rattle.judgement.specs.Division.{wrong_parents, no_such_arc, leaf_of_arc, not_one_leaf, wrong_leaves, child_of, childless, childless_regions, spans_differ}
use Rattle.judgement.specs.Judgement.{form_refusals, count_refusals, arc_refusals, division_refusals, refusals_by, judgement_by}
use Rattle.judgement.specs.Judgement.{AcceptedBy, Accepted, Convertible}
use Rattle.judgement.proofs.Parents as parents
use Rattle.judgement.proofs.Clear as clear

-- no refusal applies, a field for each
pub record NoRefusal (retired : Bool) (b : List ℕ) : Type 0 where
  pub size : wrong_size b ≡ false
  pub order : out_of_order b ≡ false
  pub bits : bit_set b ≡ false
  pub nodes : nodes_outside b ≡ false
  pub source : source_outside b ≡ false
  pub spans : spans_outside b ≡ false
  pub many : too_many b ≡ false
  pub ends : ends_outside b ≡ false
  pub lengths : lengths_outside b ≡ false
  pub holds : holds_outside b ≡ false
  pub degrees : too_many_at_node most_arcs_each_way b ≡ false
  pub self_arcs_lem : retired && self_arcs b ≡ false
  pub parents : wrong_parents (region_words b) ≡ false
  pub leaves : wrong_leaves (region_words b) (arc_count b) ≡ false
  pub children : childless_regions (region_words b) ≡ false
  pub height : spans_differ (region_words b) (span_count b) ≡ false

pub none_applies : (b : List ℕ) {retired : Bool} → AcceptedBy retired b → NoRefusal retired b
unfolding judgement_by refusals_by form_refusals count_refusals arc_refusals division_refusals
none_applies b {retired} ok = let free = clear_of (refusals_by most_arcs_each_way retired b) ok.judged in record {
  size = free 1;
  order = free 2;
  bits = free 3;
  nodes = free 4;
  source = free 5;
  spans = free 6;
  many = free 7;
  ends = free 8;
  lengths = free 9;
  holds = free 34;
  degrees = free 10;
  self_arcs_lem = free 35;
  parents = free 11;
  leaves = free 12;
  children = free 13;
  height = free 14;
}

pub none_accepts : (b : List ℕ) {retired : Bool} → NoRefusal retired b → AcceptedBy retired b
unfolding judgement_by refusals_by form_refusals count_refusals arc_refusals division_refusals
none_accepts b none = record {
  judged =
      rw (
        none.size,
        none.order,
        none.bits,
        none.nodes,
        none.source,
        none.spans,
        none.many,
        none.ends,
        none.lengths,
        none.holds,
        none.degrees,
        none.self_arcs_lem,
        none.parents,
        none.leaves,
        none.children,
        none.height,
      );
}

-- the same of a sheet whose self-arcs are looked at, or not, where it draws none
pub none_drawn : (b : List ℕ) {retired : Bool} → NoRefusal retired b → self_arcs b ≡ false → (other : Bool) → NoRefusal other b
none_drawn b none clear other = record {
  size = none.size;
  order = none.order;
  bits = none.bits;
  nodes = none.nodes;
  source = none.source;
  spans = none.spans;
  many = none.many;
  ends = none.ends;
  lengths = none.lengths;
  holds = none.holds;
  degrees = none.degrees;
  self_arcs_lem = rw clear (and-false other);
  parents = none.parents;
  leaves = none.leaves;
  children = none.children;
  height = none.height;
}

-- A sheet is accepted just where it is convertible and draws no self-arc.
pub accepted_draws_none : (b : List ℕ) → Accepted b → self_arcs b ≡ false
accepted_draws_none b ok = (none_applies b ok).self_arcs_lem

pub accepted_convertible : (b : List ℕ) → Accepted b → Convertible b
accepted_convertible b ok = none_accepts b (none_drawn b (none_applies b ok) (accepted_draws_none b ok) false)

pub convertible_accepted : (b : List ℕ) → Convertible b → self_arcs b ≡ false → Accepted b
convertible_accepted b ok clear = none_accepts b (none_drawn b (none_applies b ok) clear true)

module _ (b : List ℕ) {retired : Bool} (ok : AcceptedBy retired b) where
  none : NoRefusal retired b
  none = none_applies b ok

  -- 2. the first two words are there, and the words after the last arc are of kinds 6 and 7
  pub front_there : 2 ≤ words b
  front_there = clear.front_there b (clear.in_sections b none.order)

  pub region_kinds : (k : ℕ) → k < words (region_words b) → eqb (kind (region_words b) k) 6 || eqb (kind (region_words b) k) 7 ≡ true
  unfolding wrong_sections
  region_kinds k l =
      not-false _ (any_at (no_region_word (region_words b)) (words (region_words b)) k (or_right (wrong_front b) _ (clear.in_sections b none.order)) l)

  pub holds_all_or_none : (hold_count b ≡ 0) ⊎ (hold_count b ≡ node_count b)
  unfolding wrong_holds
  holds_all_or_none =
      let right = not-false _ (clear.holds_right b none.order) in
      by_truth (eqb (hold_count b) 0) (λ none. inl (eqb-true (hold_count b) 0 none))
      (λ some. inr (eqb-true (hold_count b) (node_count b) (or_then (eqb (hold_count b) 0) (eqb (hold_count b) (node_count b)) right some)))

  -- 4 and 5. node count and source
  pub few_nodes : node_count b ≤ most_nodes
  few_nodes = clear.few_nodes b none.nodes

  pub source_in : source b < node_count b
  unfolding source_outside
  source_in = leb-false (node_count b) (source b) none.source

  -- 6. spans
  span_inside : (k : ℕ) → k < span_count b → span_outside b k ≡ false
  unfolding spans_outside
  span_inside k l = any_at (span_outside b) (span_count b) k none.spans l

  pub span_positive : (k : ℕ) → k < span_count b → 0 < span b k
  span_positive k l = ltb-false (span b k) 1 (or_left (ltb (span b k) 1) _ (span_inside k l))

  pub span_below : (k : ℕ) → k < span_count b → span b k ≤ most_span
  span_below k l = ltb-false most_span (span b k) (or_right (ltb (span b k) 1) _ (span_inside k l))

  -- 7. how many spans, arcs and region words
  pub few_spans : span_count b ≤ most_spans
  unfolding too_many
  few_spans =
      ltb-false most_spans (span_count b)
      (or_left (ltb most_spans (span_count b)) _ (or_left (ltb most_spans (span_count b) || ltb most_arcs (arc_count b)) _ none.many))

  pub few_arcs : arc_count b ≤ most_arcs
  few_arcs = clear.few_arcs b none.many

  pub few_region_words : words (region_words b) ≤ most_region_words
  few_region_words = clear.few_region_words b none.many

  -- 8 and 9. ends and lengths of arcs
  pub tail_in_lem : (a : ℕ) → a < arc_count b → tail b a < node_count b
  tail_in_lem = clear.end_in b none.ends false

  pub head_in : (a : ℕ) → a < arc_count b → head b a < node_count b
  head_in = clear.end_in b none.ends true

  pub length_short : (a : ℕ) → a < arc_count b → arc_length b a ≤ most_length
  unfolding lengths_outside
  length_short a l = ltb-false most_length (arc_length b a) (any_at (too_long b) (arc_count b) a none.lengths l)

  -- 34. lengths with the tail's hold
  pub taken_short : (a : ℕ) → a < arc_count b → taken_length b a ≤ most_length
  unfolding holds_outside
  taken_short a l = ltb-false most_length (taken_length b a) (any_at (too_long_held b) (arc_count b) a none.holds l)

  -- 10. no node has more arcs each way than it may have, and what is no node has none
  pub few_ends : (heads : Bool) (v : ℕ) → count (ends_at heads b v) (arc_count b) ≤ most_arcs_each_way
  few_ends heads v =
      by_order v (node_count b)
      ((clear.few_at_nodes b most_arcs_each_way).0 none.degrees heads v)
      (λ l. omega (arith, count_out_all (ends_at heads b v) (arc_count b) (elsewhere l)))
    where
      elsewhere : node_count b ≤ v → (a : ℕ) → a < arc_count b → ends_at heads b v a ≡ false
      elsewhere l a la = ne_eqb (end_of heads b a) v (λ e. omega (arith, clear.end_in b none.ends heads a la))

  -- 11 and 13 do not apply: every parent is right, and every inner region but 0 has a child
  pub parents_right : wrong_parents (region_words b) ≡ false
  parents_right = none.parents

  pub children_there : childless_regions (region_words b) ≡ false
  children_there = none.children

  -- 13. the region of word k, if it is inner, is the parent of another
  pub has_child_lem : (k : ℕ) → k < words (region_words b) → leaf_word (region_words b) k ≡ false
      → (j : ℕ) × (j < words (region_words b)) × (parent_word (region_words b) j ≡ suc k)
  unfolding childless_regions
  has_child_lem k l inner =
      let d = region_words b in
      let here = rw inner at (any_at (childless d) (words d) k none.children l) in
      let child = count_some (child_of d (suc k)) (words d) (omega (arith, eqb-false (count (child_of d (suc k)) (words d)) 0 here)) in
      (child.0, child.1, eqb-true (parent_word d child.0) (suc k) child.2)

  -- 11. parents fall and are inner
  pub nesting : Nesting (is_leaf (region_words b)) (parent (region_words b)) (region_count (region_words b))
  nesting = parents.nesting (region_words b) none.parents few_region_words

  -- 12. every leaf has an arc, and every arc exactly one leaf
  pub leaf_arc_lem : (k : ℕ) → k < words (region_words b) → leaf_word (region_words b) k ≡ true → arc_word (region_words b) k < arc_count b
  unfolding wrong_leaves
  leaf_arc_lem k l leaf =
      let d = region_words b in
      let here = any_at (no_such_arc d (arc_count b)) (words d) k (or_left (any (no_such_arc d (arc_count b)) (words d)) _ none.leaves) l in
      leb-false (arc_count b) (arc_word d k) (rw leaf at here)

  pub one_leaf : (a : ℕ) → a < arc_count b → count (leaf_of_arc (region_words b) a) (words (region_words b)) ≡ 1
  unfolding wrong_leaves
  one_leaf a l =
      let d = region_words b in
      let here = any_at (not_one_leaf d) (arc_count b) a (or_right (any (no_such_arc d (arc_count b)) (words d)) _ none.leaves) l in
      eqb-true _ _ (not-false _ here)

  -- 14. spans are as many as region 0 is high
  pub spans_height : span_count b ≡ height (region_words b) 0
  unfolding spans_differ
  spans_height = eqb-true _ _ (not-false _ none.height)

-- a single node has no arc, which would lead from it to itself
pub single_node : (b : List ℕ) → Accepted b → node_count b ≡ 1 → arc_count b ≡ 0
unfolding self_arcs self_arc
single_node b ok one =
    by_order 0 (arc_count b)
    (λ l.
    let home : tail b 0 ≡ head b 0 = omega (arith, tail_in_lem b ok 0 l, head_in b ok 0 l) in
    absurd (true≢false (sym (any_hit (self_arc b) 0 (arc_count b) l (eq-eqb (tail b 0) (head b 0) home)) ∙ accepted_draws_none b ok)))
    (λ l. omega arith)
