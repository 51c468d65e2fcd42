-- The converted sheet is accepted: each refusal reads what is as it was, or is fewer, or was shown of the region words; and 35 reads arcs that are kept.
use Prim.Native.Nat.{ℕ, suc, ◌%◌, ◌<◌, ◌≤◌}
use mathlib.Core.Bool.{Bool, true, false, not, ◌&&◌, ◌||◌}
use mathlib.Core.List.{List}
use mathlib.Core.Path.{◌≡◌, refl, sym, ap, ◌∙◌}
use borrow.Author.Tests.{le-ltb, lt-leb, not-true, ltb-false}
use native.Mathlib.Omega.{arith}
use lib.ListN.{length}
use lib.Dec.{eqb, ltb}
use Rattle.indices.specs.Tests.{any, count}
use Rattle.indices.proofs.Steps.{by_truth}
use Rattle.indices.proofs.Tests.{any_false, any_at, or_left, or_right, neither, and_right, right_kind, count_le}
use Rattle.indices.proofs.Totals.{count_within}
use Rattle.indices.proofs.Selected.{count_left}
use Rattle.sheet.specs.Limits.{most_bytes, most_nodes, most_spans, most_arcs, most_region_words, most_arcs_each_way}
use Rattle.sheet.specs.Words.{words, word, kind_of, kind, payload, bytes_of}
use Rattle.sheet.specs.Sections.{span_count, arc_count, region_words}
use Rattle.sheet.specs.Arcs.{end_of}
use Rattle.sheet.specs.Regions.{leaf_word, height}
use Rattle.sheet.proofs.Bounds.{region_words_lem, regions_inside}
use Rattle.judgement.specs.Form.{wrong_size, wrong_front, no_region_word, wrong_sections, wrong_holds, out_of_order, arc_bits, leaf_bits, bit_set}
use Rattle.judgement.specs.Form.{nodes_outside, source_outside, span_outside, spans_outside, too_many}
use Rattle.judgement.specs.Arcs.{
  end_outside,
  ends_outside,
  too_long,
  lengths_outside,
  too_long_held,
  holds_outside,
  ends_at,
  too_many_at_node,
  self_arc,
  self_arcs,
}
use Rattle.judgement.specs.Division.{spans_differ}
use Rattle.judgement.specs.Judgement.{Accepted, Convertible}
use Rattle.judgement.proofs.Clear.{holds_right, few_at_nodes}
use Rattle.judgement.proofs.Accepted.{NoRefusal, none_applies, none_accepts, front_there, few_spans, few_arcs}
use Rattle.judgement.proofs.Accepted.{few_ends}
use Rattle.judgement.proofs.Places.{front_kinds}
use Rattle.conversion.specs.Converted.{kept_arc, new_arc, kept_region, converted_regions, new_height, converted}
use Rattle.conversion.proofs.Regions as regions
use Rattle.conversion.proofs.Division as division
use Rattle.conversion.proofs.Heights.{height_lower}
use Rattle.conversion.proofs.Sections as sections

module _ (b : List ℕ) (ok : Convertible b) where
  abbrev b' : List ℕ
  b' = converted b

  abbrev d : List ℕ
  d = region_words b

  abbrev d' : List ℕ
  d' = bytes_of (converted_regions b)

  none : NoRefusal false b
  none = none_applies b ok

  -- what does not apply to any arc that is kept, under its new number, applies to no arc
  at_arcs : (p : ℕ → Bool) → ((a : ℕ) → a < arc_count b → kept_arc b a ≡ true → p (new_arc b a) ≡ false) → any p (arc_count b') ≡ false
  at_arcs p h =
      any_false p (arc_count b')
      (λ a' l. let q = sections.old_arc b a' (omega (arith, sections.new_arcs b ok)) in ap p (sym q.3) ∙ h q.0 q.1 q.2)

  -- 1
  pub no_longer : length b' ≤ length b
  no_longer =
      let two = front_there b ok in
      omega (
        arith,
        sections.new_bytes b ok,
        height_lower b ok,
        regions.new_arc_le b ok (arc_count b),
        regions.regions_long b ok,
        count_le (λ k. kept_region b (suc k)) (words d),
        region_words_lem b two,
        regions_inside b two,
      )

  size_right : wrong_size b' ≡ false
  unfolding wrong_size
  size_right =
      let few = ltb-false most_bytes (length b) (or_right (not (eqb (length b % 4) 0)) (ltb most_bytes (length b)) none.size) in
      neither _ _ (right_kind (length b' % 4) 0 (omega (arith, sections.new_bytes b ok))) (le-ltb most_bytes (length b') (omega (arith, no_longer)))

  -- 2
  front_right : wrong_front b' ≡ false
  unfolding kind
  front_right =
      let kinds = front_kinds b ok in
      neither _ _
      (neither _ _ (le-ltb (words b') 2 (omega (arith, sections.new_bytes b ok)))
      (right_kind (kind_of (word b' 0)) 1 (ap kind_of (sections.first_word b ok) ∙ kinds.0)))
      (right_kind (kind_of (word b' 1)) 2 (ap kind_of (sections.second_word b ok) ∙ kinds.1))

  sections_right : wrong_sections b' ≡ false
  unfolding wrong_sections
  sections_right =
      neither _ _ front_right
      (rw (sections.new_regions b ok) (division.at_each b ok (no_region_word d') (λ k l s. ap not (regions.kind_right b ok k l s))))

  as_many_holds : wrong_holds b' ≡ false
  unfolding wrong_holds
  as_many_holds = rw (sections.new_holds b ok, sections.new_nodes b ok) (holds_right b none.order)

  order_right : out_of_order b' ≡ false
  unfolding out_of_order
  order_right = neither _ _ sections_right as_many_holds

  -- 3
  leaf_bits_right : (k : ℕ) → k < words d → kept_region b (suc k) ≡ true → leaf_bits d' (count (λ k. kept_region b (suc k)) k) ≡ false
  leaf_bits_right k l s =
      rw (regions.same_leaf b ok k l s)
      (by_truth (leaf_word d k) (λ e. rw e (lt-leb 8388608 (payload d' (count (λ k. kept_region b (suc k)) k)) (regions.bits_clear b ok k l s e))) (λ e. rw e))

  bits_right : bit_set b' ≡ false
  unfolding bit_set
  bits_right =
      let clear = or_left (any (arc_bits b) (arc_count b)) (any (leaf_bits d) (words d)) none.bits in
      neither _ _ (at_arcs (arc_bits b') (λ a l s. rw (sections.new_ends b ok a l s) (any_at (arc_bits b) (arc_count b) a clear l)))
      (rw (sections.new_regions b ok) (division.at_each b ok (leaf_bits d') leaf_bits_right))

  -- 4 to 7
  nodes_right : nodes_outside b' ≡ false
  unfolding nodes_outside
  nodes_right = ap (λ (n : ℕ). ltb n 1 || ltb most_nodes n) (sections.new_nodes b ok) ∙ none.nodes

  source_right : source_outside b' ≡ false
  unfolding source_outside
  source_right = rw (sections.new_nodes b ok, sections.new_source b ok) none.source

  spans_right : spans_outside b' ≡ false
  unfolding spans_outside
  spans_right =
      any_false (span_outside b') (span_count b')
      (λ k l.
      let low : k < new_height b = omega (arith, sections.new_spans b ok) in
      rw (sections.new_span b ok k low) (any_at (span_outside b) (span_count b) k none.spans (omega (arith, height_lower b ok))))

  many_right : too_many b' ≡ false
  unfolding too_many
  many_right =
      neither _ _
      (neither _ _
      (le-ltb most_spans (span_count b') (omega (arith, sections.new_spans b ok, height_lower b ok, few_spans b ok)))
      (le-ltb most_arcs (arc_count b') (omega (arith, sections.new_arcs b ok, regions.new_arc_le b ok (arc_count b), few_arcs b ok))))
      (rw (sections.new_regions b ok) (le-ltb most_region_words (words d') (division.few_left b ok)))

  -- 8, 9 and 34
  ends_right : ends_outside b' ≡ false
  unfolding ends_outside
  ends_right =
      at_arcs (end_outside b')
      (λ a l s.
      rw (sections.new_nodes b ok, sections.new_tail b ok a l s, sections.new_head b ok a l s) (any_at (end_outside b) (arc_count b) a none.ends l))

  lengths_right : lengths_outside b' ≡ false
  unfolding lengths_outside
  lengths_right = at_arcs (too_long b') (λ a l s. rw (sections.new_length b ok a l s) (any_at (too_long b) (arc_count b) a none.lengths l))

  held_right : holds_outside b' ≡ false
  unfolding holds_outside
  held_right = at_arcs (too_long_held b') (λ a l s. rw (sections.new_taken b ok a l s) (any_at (too_long_held b) (arc_count b) a none.holds l))

  -- 10
  same_end : (heads : Bool) (a : ℕ) → a < arc_count b → kept_arc b a ≡ true → end_of heads b' (new_arc b a) ≡ end_of heads b a
  same_end true a l s = sections.new_head b ok a l s
  same_end false a l s = sections.new_tail b ok a l s

  few_right : (heads : Bool) (v : ℕ) → count (ends_at heads b' v) (arc_count b') ≤ most_arcs_each_way
  unfolding new_arc
  few_right heads v =
      rw (sections.new_arcs b ok)
      (omega (
        arith,
        count_left (kept_arc b) (ends_at heads b v) (ends_at heads b' v) (arc_count b) (λ a l s. ap (λ (u : ℕ). eqb u v) (same_end heads a l s)),
        count_within (ends_at heads b v) (λ a. kept_arc b a && ends_at heads b v a) (arc_count b) (λ a l. and_right (kept_arc b a) (ends_at heads b v a)),
        few_ends b ok heads v,
      ))

  degrees_right : too_many_at_node most_arcs_each_way b' ≡ false
  degrees_right = (few_at_nodes b' most_arcs_each_way).1 (λ heads v l. few_right heads v)

  -- 35
  pub no_self_arc : self_arcs b' ≡ false
  unfolding self_arcs self_arc
  no_self_arc = at_arcs (self_arc b') (λ a l s. rw (sections.new_tail b ok a l s, sections.new_head b ok a l s) (not-true (self_arc b a) s))

  -- 14: there are as many spans as region 0 is high among the region words that are left
  height_right : spans_differ d' (new_height b) ≡ false
  unfolding spans_differ new_height
  height_right = right_kind (height d' 0) (height d' 0) refl

  -- THE CONVERTED SHEET IS ACCEPTED
  pub converted_accepted : Accepted b'
  converted_accepted = none_accepts b' (record {
    size = size_right;
    order = order_right;
    bits = bits_right;
    nodes = nodes_right;
    source = source_right;
    spans = spans_right;
    many = many_right;
    ends = ends_right;
    lengths = lengths_right;
    holds = held_right;
    degrees = degrees_right;
    self_arcs_lem = no_self_arc;
    parents = rw (sections.new_regions b ok) (division.parents_right b ok);
    leaves = rw (sections.new_regions b ok, sections.new_arcs b ok) (division.leaves_right b ok);
    children = rw (sections.new_regions b ok) (division.children_right b ok);
    height = rw (sections.new_regions b ok, sections.new_spans b ok) height_right;
  })
