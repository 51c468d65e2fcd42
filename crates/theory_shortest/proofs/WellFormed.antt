-- The graph, the division and the spans of an accepted sheet are well formed: each field is the sheet's, of which the judgement tells. 35 plays no part, so the
-- same holds of a sheet that is at fault in nothing else.
use Prim.Native.Nat.{ℕ, zero, suc, ◌≤◌, ◌<◌}
use native.Mathlib.Omega.{arith}
use mathlib.Core.Bool.{Bool, true, false, not, cond, ◌&&◌}
use mathlib.Core.Path.{◌≡◌, refl, sym, ap, ◌∙◌}
use mathlib.Core.List.{List}
use lib.Dec.{eqb}
use borrow.Author.Tests.{ltb-true, eqb-true, eq-eqb, not-false}
use Rattle.indices.specs.Tests.{count, lead}
use Rattle.indices.proofs.Tests.{and_left, and_right, count_ext, count_some, count_once, lead_false, lead_before}
use Rattle.sheet.specs.Limits.{most_arcs_each_way}
use Rattle.sheet.specs.Words.{words, top}
use Rattle.sheet.specs.Sections.{span_count, arc_count, region_words}
use Rattle.sheet.specs.Regions.{region_count, leaf_word, arc_word, leaf_arc}
use Rattle.sheet.proofs.Heights.{nesting_ext}
use Rattle.judgement.specs.Arcs.{ends_at}
use Rattle.judgement.specs.Division.{leaf_of_arc}
use Rattle.judgement.specs.Judgement.{AcceptedBy}
use Rattle.judgement.proofs.Accepted.{
  few_nodes,
  source_in,
  few_arcs,
  tail_in_lem,
  head_in,
  taken_short,
  few_ends,
  few_region_words,
  nesting,
  leaf_arc_lem,
  one_leaf,
  few_spans,
  span_positive,
  span_below,
  spans_height,
}
use Rattle.procedure.specs.Graph.{arcs, tail}
use Rattle.procedure.specs.Division.{Division, regions, arc_of, is_leaf, leaf_of}
use Rattle.procedure.specs.OfSheet.{graph_of, division_of, spans_of}
use Rattle.procedure.proofs.OfSheet.{
  graph_arcs,
  graph_heads,
  graph_lengths,
  graph_tail,
  graph_head,
  graph_len,
  graph_nodes,
  graph_source,
  division_regions,
  division_arcs,
  division_parent,
  division_arc,
  division_leaf,
  division_height,
  spans_count,
  spans_at_lem,
}
use Rattle.theory_shortest.specs.WellFormed.{GraphOk, DivisionOk, SpansOk, WellFormed}

-- the first region that has a given arc, where some region r has it: it has that arc too, and is r or before r
leaf_first : (d : Division) (a r : ℕ) → r < regions d → arc_of d r ≡ a → (leaf_of d a ≤ r) × (arc_of d (leaf_of d a) ≡ a)
unfolding leaf_of
leaf_first d a r l e =
    let other : ℕ → Bool = λ q. not (eqb (arc_of d q) a) in
    let before = lead_before other (regions d) r l (ap not (eq-eqb (arc_of d r) a e)) in
    (before, eqb-true (arc_of d (lead other (regions d))) a (not-false _ (lead_false other (regions d) (omega arith))))

-- region k + 1 has arc a just where word k is the leaf of a
word_arc : (d : List ℕ) (a k : ℕ) → leaf_of_arc d a k ≡ true → leaf_arc d (suc k) ≡ a
word_arc d a k h =
    ap (λ (leaf : Bool). cond leaf (arc_word d k) top) (and_left (leaf_word d k) _ h) ∙ eqb-true (arc_word d k) a (and_right (leaf_word d k) _ h)

arc_word_lem : (d : List ℕ) (a r : ℕ) → a < top → leaf_arc d r ≡ a → (k : ℕ) × (r ≡ suc k) × (leaf_of_arc d a k ≡ true)
arc_word_lem d a zero l e = absurd (omega arith)
arc_word_lem d a (suc k) l e = (k, refl, at_word (leaf_word d k) e)
  where
    at_word : (leaf : Bool) → cond leaf (arc_word d k) top ≡ a → leaf && eqb (arc_word d k) a ≡ true
    at_word true e = eq-eqb (arc_word d k) a e
    at_word false e = absurd (omega arith)

module _ (b : List ℕ) {retired : Bool} (ok : AcceptedBy retired b) where
  is_arc_lem : (a : ℕ) → a < arcs (graph_of b) → a < arc_count b
  is_arc_lem a l = omega (arith, graph_arcs b)

  same_out : (v : ℕ) → count (λ a. eqb (tail (graph_of b) a) v) (arc_count b) ≡ count (ends_at false b v) (arc_count b)
  same_out v = count_ext _ _ (arc_count b) (λ a l. ap (λ (u : ℕ). eqb u v) (graph_tail b a l))

  graph_ok : GraphOk most_arcs_each_way (graph_of b)
  graph_ok = record {
    few_nodes = omega (arith, graph_nodes b, few_nodes b ok);
    few_arcs = omega (arith, graph_arcs b, few_arcs b ok);
    source_in = omega (arith, graph_nodes b, graph_source b, source_in b ok);
    heads_all = graph_heads b ∙ sym (graph_arcs b);
    lengths_all = graph_lengths b ∙ sym (graph_arcs b);
    tail_in_lem = λ a l. let la = is_arc_lem a l in omega (arith, graph_nodes b, graph_tail b a la, tail_in_lem b ok a la);
    head_in = λ a l. let la = is_arc_lem a l in omega (arith, graph_nodes b, graph_head b a la, head_in b ok a la);
    short = λ a l. let la = is_arc_lem a l in omega (arith, graph_len b a la, taken_short b ok a la);
    few_out = λ v. rw (graph_arcs b, same_out v) (few_ends b ok false v);
  }

  is_region : (r : ℕ) → r < regions (division_of b) → r < region_count (region_words b)
  is_region r l = omega (arith, division_regions b)

  -- a region that has arc a is the region of a leaf word of a
  leaf_word_lem : (a r : ℕ) → a < top → r < regions (division_of b) → arc_of (division_of b) r ≡ a
      → (k : ℕ) × (r ≡ suc k) × (k < words (region_words b)) × (leaf_of_arc (region_words b) a k ≡ true)
  leaf_word_lem a r l lr e =
      let p = arc_word_lem (region_words b) a r l (sym (division_arc b r (is_region r lr)) ∙ e) in
      (p.0, p.1, omega (arith, is_region r lr, p.1), p.2)

  arc_has_leaf : (a : ℕ) → a < arc_count b → (leaf_of (division_of b) a < regions (division_of b)) × (arc_of (division_of b) (leaf_of (division_of b) a) ≡ a)
  arc_has_leaf a l =
      let d = region_words b in
      let one = one_leaf b ok a l in
      let p = count_some (leaf_of_arc d a) (words d) (omega arith) in
      let k = p.0 in
      let here : suc k < regions (division_of b) = omega (arith, p.1, division_regions b) in
      let q = leaf_first (division_of b) a (suc k) here (division_arc b (suc k) (is_region (suc k) here) ∙ word_arc d a k p.2) in
      (omega (arith, q.0), q.1)

  leaf_has_arc : (r : ℕ) → r < regions (division_of b) → is_leaf (division_of b) r ≡ true
      → (arc_of (division_of b) r < arc_count b) × (leaf_of (division_of b) (arc_of (division_of b) r) ≡ r)
  leaf_has_arc r l leaf =
      let d = region_words b in
      let a = arc_of (division_of b) r in
      let there : a < top = ltb-true a top leaf in
      let p = leaf_word_lem a r there l refl in
      let k = p.0 in
      let same : arc_word d k ≡ a = eqb-true (arc_word d k) a (and_right (leaf_word d k) _ p.3) in
      let la : a < arc_count b = omega (arith, leaf_arc_lem b ok k p.2 (and_left (leaf_word d k) _ p.3)) in
      let q = leaf_first (division_of b) a r l refl in
      let j = leaf_word_lem a (leaf_of (division_of b) a) there (omega (arith, q.0)) q.1 in
      (la, j.1 ∙ ap suc (count_once (leaf_of_arc d a) (words d) (one_leaf b ok a la) j.0 k j.2 p.2 j.3 p.3) ∙ sym p.1)

  division_ok : DivisionOk (arcs (graph_of b)) (division_of b)
  division_ok = record {
    few_regions = omega (arith, division_regions b, few_region_words b ok);
    arcs_all = division_arcs b ∙ sym (division_regions b);
    nesting = rw (division_regions b) (nesting_ext _ _ _ _ (region_count (region_words b)) (division_leaf b) (division_parent b) (nesting b ok));
    root_inner = division_leaf b 0 (omega arith);
    leaf_arc_lem = λ r l leaf. let p = leaf_has_arc r l leaf in (omega (arith, p.0, graph_arcs b), p.1);
    arc_leaf = λ a l. arc_has_leaf a (is_arc_lem a l);
  }

  spans_ok : SpansOk (division_of b) (spans_of b)
  spans_ok = record {
    few = omega (arith, spans_count b, few_spans b ok);
    each_height = spans_count b ∙ spans_height b ok ∙ sym (division_height b 0 (omega arith));
    positive = λ i l. let li : i < span_count b = omega (arith, spans_count b) in omega (arith, spans_at_lem b i li, span_positive b ok i li);
    below = λ i l. let li : i < span_count b = omega (arith, spans_count b) in omega (arith, spans_at_lem b i li, span_below b ok i li);
  }

  -- An accepted sheet gives a graph, a division and spans that are well formed.
  pub accepted_well_formed : WellFormed most_arcs_each_way (graph_of b) (division_of b) (spans_of b)
  accepted_well_formed = record { graph = graph_ok; division = division_ok; attention = spans_ok }
