-- The canonical form of an accepted sheet is accepted: refusals 1 to 10, 34 and 35 read what is the same in both, and 11 to 14 the nesting, which is the same.
use Prim.Native.Nat.{ℕ, zero, suc, ◌+◌, ◌*◌, ◌/◌, ◌%◌, ◌≤◌, ◌<◌}
use mathlib.Core.Bool.{Bool, true, false, not, cond, ◌&&◌, ◌||◌}
use mathlib.Core.Path.{◌≡◌, refl, sym, ap, ◌∙◌}
use mathlib.Core.Logic.{◌≢◌, ⊎_elim}
use mathlib.Core.List.{List}
use native.Mathlib.Omega.{arith}
use borrow.Author.Tests.{eq-eqb, ne_eqb, lt-leb, le-ltb, ltb-false, lt-ltb, eqb-true}
use lib.Dec.{ltb, leb, eqb}
use Rattle.indices.specs.Tests.{any, count}
use Rattle.indices.proofs.Tests.{or_left, neither, and_left, and_right, and_both, any_ext, any_false, count_ext, count_hit}
use Rattle.indices.proofs.Totals.{count_single}
use Rattle.indices.proofs.Steps.{eq_or_ne}
use Rattle.sheet.specs.Limits.{most_bytes, most_nodes, most_span, most_length, most_arcs_each_way}
use Rattle.sheet.specs.Words.{words, payload, top}
use Rattle.sheet.specs.Sections.{node_count, source, span_count, span, holds_at, arc_count, region_words}
use Rattle.sheet.specs.Arcs.{tail, head, arc_length, ends_word, end_of, hold, taken_length}
use Rattle.sheet.specs.Regions.{region_count, leaf_word, parent_word, arc_word, is_leaf as leafRegion, height as heightField}
use Rattle.sheet.proofs.Holds.{hold_same_at, taken_same}
use Rattle.judgement.specs.Form.{wrong_size, no_region_word, wrong_front, wrong_sections, wrong_holds, out_of_order, arc_bits, leaf_bits, bit_set}
use Rattle.judgement.specs.Form.{nodes_outside, source_outside, span_outside, spans_outside, too_many}
use Rattle.judgement.specs.Arcs.{end_outside, ends_outside, too_long, lengths_outside, too_long_held, holds_outside}
use Rattle.judgement.specs.Arcs.{ends_at, crowded, crowded_nodes, too_many_at_node, self_arc, self_arcs}
use Rattle.judgement.specs.Division.{wrong_parent, wrong_parents, no_such_arc, leaf_of_arc, not_one_leaf, wrong_leaves}
use Rattle.judgement.specs.Division.{child_of, childless, childless_regions, spans_differ}
use Rattle.judgement.specs.Judgement.{Accepted}
use Rattle.judgement.proofs.Clear.{in_sections, holds_right}
use Rattle.judgement.proofs.Accepted.{none_applies, none_accepts, few_region_words, few_arcs, spans_height}
use Rattle.procedure.specs.Division.{Division, regions, parent, arc_of, is_leaf, leaf_of}
use Rattle.procedure.specs.OfSheet.{division_of}
use Rattle.procedure.proofs.OfSheet.{graph_arcs, division_regions, division_parent, division_leaf, division_height}
use Rattle.canonical_form.specs.Numbering.{new_number, old_number}
use Rattle.canonical_form.specs.Canonical.{canonical}
use Rattle.canonical_form.proofs.Numbering.{new_in, new_old, old_new, parent_first}
use Rattle.canonical_form.proofs.Invariance.{height_same}
use Rattle.canonical_form.proofs.Proper.{division_ok, proper}
use Rattle.canonical_form.proofs.Form.{canonical_length, same_words, front_kind, front_payload, same_region_words}
use Rattle.canonical_form.proofs.Form.{same_spans, same_holds_at, same_holds, same_arcs_at, same_arcs}
use Rattle.canonical_form.proofs.Form.{number_in, region_later, region_in, new_kind, new_payload, new_leaf, new_parent, new_arc_lem, same_arc, same_nesting}

-- the canonical form c of an accepted sheet b
module _ (b : List ℕ) (ok : Accepted b) where
  abbrev c : List ℕ
  c = canonical b

  -- NODES, SOURCE, SPANS, HOLDS AND ARCS
  same_nodes : node_count c ≡ node_count b
  same_nodes = front_payload b ok 0 (omega arith)

  same_source : source c ≡ source b
  same_source = front_payload b ok 1 (omega arith)

  same_span : (k : ℕ) → k < span_count b → span c k ≡ span b k
  same_span k l = front_payload b ok (2 + k) (omega arith)

  same_ends : (a : ℕ) → a < arc_count b → payload c (ends_word c a) ≡ payload b (ends_word b a)
  same_ends a l = ap (λ (n : ℕ). payload c (n + 2 * a)) (same_arcs_at b ok) ∙ front_payload b ok (ends_word b a) (omega arith)

  same_tail : (a : ℕ) → a < arc_count b → tail c a ≡ tail b a
  unfolding tail
  same_tail a l = ap (λ (p : ℕ). p / 1024 % 1024) (same_ends a l)

  same_head : (a : ℕ) → a < arc_count b → head c a ≡ head b a
  unfolding head
  same_head a l = ap (λ (p : ℕ). p % 1024) (same_ends a l)

  same_end : (heads : Bool) (a : ℕ) → a < arc_count b → end_of heads c a ≡ end_of heads b a
  same_end true a l = same_head a l
  same_end false a l = same_tail a l

  same_length : (a : ℕ) → a < arc_count b → arc_length c a ≡ arc_length b a
  unfolding arc_length
  same_length a l = ap (λ (n : ℕ). payload c (n + 2 * a + 1)) (same_arcs_at b ok) ∙ front_payload b ok (ends_word b a + 1) (omega arith)

  same_hold : (v : ℕ) → hold c v ≡ hold b v
  same_hold v = hold_same_at c b (same_holds b ok) v
      (λ l. ap (λ (n : ℕ). payload c (n + v)) (same_holds_at b ok) ∙ front_payload b ok (holds_at b + v) (omega (arith, same_holds b ok)))

  same_taken : (a : ℕ) → a < arc_count b → taken_length c a ≡ taken_length b a
  same_taken a l = taken_same c b same_source same_hold a (same_tail a l) (same_length a l)

  -- a test of every arc
  every_arc : (p q : ℕ → Bool) → ((a : ℕ) → a < arc_count b → p a ≡ q a) → any p (arc_count c) ≡ any q (arc_count b)
  every_arc p q same = ap (any p) (same_arcs b ok) ∙ any_ext p q (arc_count b) same

  -- REFUSALS 1 TO 10, 34 AND 35
  size : wrong_size c ≡ false
  unfolding wrong_size
  size = ap (λ (n : ℕ). not (eqb (n % 4) 0) || ltb most_bytes n) (canonical_length b ok) ∙ (none_applies b ok).size

  nodes : nodes_outside c ≡ false
  unfolding nodes_outside
  nodes = ap (λ (n : ℕ). ltb n 1 || ltb most_nodes n) same_nodes ∙ (none_applies b ok).nodes

  from_source : source_outside c ≡ false
  unfolding source_outside
  from_source = rw (same_nodes, same_source) (none_applies b ok).source

  spans : spans_outside c ≡ false
  unfolding spans_outside
  spans =
      ap (any (span_outside c)) (same_spans b ok)
      ∙ any_ext (span_outside c) (span_outside b) (span_count b) (λ k l. ap (λ (n : ℕ). ltb n 1 || ltb most_span n) (same_span k l))
      ∙ (none_applies b ok).spans

  many : too_many c ≡ false
  unfolding too_many
  many = rw (same_region_words b ok, same_arcs b ok, same_spans b ok) (none_applies b ok).many

  ends : ends_outside c ≡ false
  unfolding ends_outside
  ends =
      every_arc (end_outside c) (end_outside b) (λ a l. rw (same_nodes, same_tail a l, same_head a l))
      ∙ (none_applies b ok).ends

  lengths : lengths_outside c ≡ false
  unfolding lengths_outside
  lengths = every_arc (too_long c) (too_long b) (λ a l. ap (ltb most_length) (same_length a l)) ∙ (none_applies b ok).lengths

  holds : holds_outside c ≡ false
  unfolding holds_outside
  holds = every_arc (too_long_held c) (too_long_held b) (λ a l. ap (ltb most_length) (same_taken a l)) ∙ (none_applies b ok).holds

  same_crowded : (heads : Bool) → crowded_nodes most_arcs_each_way heads c ≡ crowded_nodes most_arcs_each_way heads b
  unfolding crowded_nodes
  same_crowded heads =
      ap (any (crowded most_arcs_each_way heads c)) same_nodes
      ∙ any_ext (crowded most_arcs_each_way heads c) (crowded most_arcs_each_way heads b) (node_count b)
      (λ v _. ap (ltb most_arcs_each_way)
      (ap (count (ends_at heads c v)) (same_arcs b ok)
      ∙ count_ext (ends_at heads c v) (ends_at heads b v) (arc_count b) (λ a l. ap (λ (n : ℕ). eqb n v) (same_end heads a l))))

  degrees : too_many_at_node most_arcs_each_way c ≡ false
  unfolding too_many_at_node
  degrees = rw (same_crowded false, same_crowded true) (none_applies b ok).degrees

  self_arcs_lem : self_arcs c ≡ false
  unfolding self_arc self_arcs
  self_arcs_lem = every_arc (self_arc c) (self_arc b) (λ a l. rw (same_tail a l, same_head a l)) ∙ (none_applies b ok).self_arcs_lem

  -- REGION WORDS: their kinds, and their bits
  -- what holds of the words of all regions
  of_words : (p : ℕ → Bool) → ((k : ℕ) → k < words (region_words b) → p k ≡ false) → any p (words (region_words c)) ≡ false
  of_words p h = ap (any p) (same_region_words b ok) ∙ any_false p (words (region_words b)) h

  abbrev d : Division
  d = division_of b

  region_word_lem : (k : ℕ) → k < words (region_words b) → no_region_word (region_words c) k ≡ false
  region_word_lem k l = rw (new_kind b ok k l) (six_or_seven (is_leaf d (old_number d (suc k))))
    where
      six_or_seven : (leaf : Bool) → not (eqb (cond leaf 7 6) 6 || eqb (cond leaf 7 6) 7) ≡ false
      six_or_seven true = refl
      six_or_seven false = refl

  same_front : wrong_front c ≡ wrong_front b
  same_front = rw (same_words b ok, front_kind b ok 0 (omega arith), front_kind b ok 1 (omega arith))

  sections : wrong_sections c ≡ false
  unfolding wrong_sections
  sections =
      rw (same_front, or_left (wrong_front b) _ (in_sections b (none_applies b ok).order)) (of_words (no_region_word (region_words c)) region_word_lem)

  holds_all : wrong_holds c ≡ false
  unfolding wrong_holds
  holds_all = rw (same_holds b ok, same_nodes) (holds_right b (none_applies b ok).order)

  order : out_of_order c ≡ false
  unfolding out_of_order
  order = neither _ _ sections holds_all

  pub arc_number : (r : ℕ) → r < regions d → is_leaf d r ≡ true → arc_of d r < arc_count b
  arc_number r l leaf = omega (arith, ((division_ok b ok).leaf_arc_lem r l leaf).0, graph_arcs b)

  no_leaf_bit : (k : ℕ) → k < words (region_words b) → leaf_bits (region_words c) k ≡ false
  no_leaf_bit k l =
      let r = old_number d (suc k) in
      let lr = region_in b ok k l in
      let pos = region_later b ok k l in
      let above : new_number d (parent d r) < 4096 =
      omega (arith, new_in d (proper b ok) (parent d r) (omega (arith, (proper b ok).lower r pos lr)), division_regions b, few_region_words b ok) in
      rw (new_leaf b ok k l, new_payload b ok k l) (low (is_leaf d r) (λ leaf. omega (arith, arc_number r lr leaf, few_arcs b ok)) above)
    where
      low : (leaf : Bool) {p a : ℕ} → (leaf ≡ true → a < 2048) → p < 4096 → leaf && leb 8388608 (cond leaf (p * 2048 + a) p) ≡ false
      low true {p} {a} arc l = let la = arc refl in lt-leb 8388608 (p * 2048 + a) (omega arith)
      low false arc l = refl

  bits : bit_set c ≡ false
  unfolding bit_set
  bits =
      let arcs : any (arc_bits c) (arc_count c) ≡ false =
      every_arc (arc_bits c) (arc_bits b) (λ a l. ap (leb 1048576) (same_ends a l)) ∙ or_left (any (arc_bits b) (arc_count b)) _ (none_applies b ok).bits in
      rw arcs (of_words (leaf_bits (region_words c)) no_leaf_bit)

  -- REFUSALS 11 TO 14
  -- region m of the canonical form is a leaf as the region was whose new number it is
  leaf_at : (r : ℕ) → r < regions d → leafRegion (region_words c) (new_number d r) ≡ is_leaf d r
  leaf_at r l =
      let m = new_number d r in
      let lm : m < region_count (region_words c) = omega (arith, new_in d (proper b ok) r l, division_regions b, same_region_words b ok) in
      sym (division_leaf c m lm) ∙ ap (λ (a : ℕ). ltb a top) (same_arc b ok r l)

  parent_right : (k : ℕ) → k < words (region_words b) → wrong_parent (region_words c) k ≡ false
  parent_right k l =
      let P = proper b ok in
      let r = old_number d (suc k) in
      let lr = region_in b ok k l in
      let pos = region_later b ok k l in
      let inside : parent d r < regions d = omega (arith, P.lower r pos lr) in
      let first : new_number d (parent d r) ≤ k = omega (arith, parent_first d P r pos lr, new_old d P (suc k) (number_in b ok k l)) in
      rw (new_parent b ok k l, le-ltb k (new_number d (parent d r)) first)
      (leaf_at (parent d r) inside ∙ (division_ok b ok).nesting.inner r pos lr)

  parents : wrong_parents (region_words c) ≡ false
  unfolding wrong_parents
  parents = of_words (wrong_parent (region_words c)) parent_right

  -- LEAVES AND CHILDREN: the word of a region other than 0
  word_of : (r : ℕ) → 0 < r → r < regions d → (k : ℕ) × (k < words (region_words b)) × (new_number d r ≡ suc k) × (old_number d (suc k) ≡ r)
  word_of r pos l =
      let P = proper b ok in
      let up = parent_first d P r pos l in
      let inside = new_in d P r l in
      by_number (new_number d r) refl (omega arith) (omega (arith, division_regions b))
    where
      by_number : (m : ℕ) → new_number d r ≡ m → 0 < m → m < suc (words (region_words b))
          → (k : ℕ) × (k < words (region_words b)) × (new_number d r ≡ suc k) × (old_number d (suc k) ≡ r)
      by_number zero e pos lm = absurd (omega arith)
      by_number (suc k) e pos lm = (k, omega arith, e, ap (old_number d) (sym e) ∙ old_new d (proper b ok) r l)

  arc_of_word : (a k : ℕ) → k < words (region_words b) → leaf_of_arc (region_words c) a k ≡ true → arc_of d (old_number d (suc k)) ≡ a
  arc_of_word a k l h =
      let leaf = sym (new_leaf b ok k l) ∙ and_left (leaf_word (region_words c) k) _ h in
      sym (new_arc_lem b ok k l leaf) ∙ eqb-true (arc_word (region_words c) k) a (and_right (leaf_word (region_words c) k) _ h)

  leaf_has_arc : (k : ℕ) → k < words (region_words b) → no_such_arc (region_words c) (arc_count c) k ≡ false
  leaf_has_arc k l = by_leaf (is_leaf d (old_number d (suc k))) refl
    where
      by_leaf : (leaf : Bool) → is_leaf d (old_number d (suc k)) ≡ leaf → no_such_arc (region_words c) (arc_count c) k ≡ false
      by_leaf true e =
          let r = old_number d (suc k) in
          rw (new_leaf b ok k l, e, new_arc_lem b ok k l e, same_arcs b ok) (lt-leb (arc_count b) (arc_of d r) (arc_number r (region_in b ok k l) e))
      by_leaf false e = rw (new_leaf b ok k l, e)

  pub arc_below_top : (a : ℕ) → a < arc_count b → a < top
  unfolding top
  arc_below_top a l = omega (arith, few_arcs b ok)

  -- the leaf of an arc, which is not region 0
  pub leaf_later : (s a : ℕ) → arc_of d s ≡ a → a < top → 0 < s
  leaf_later s a e l =
      ⊎_elim
      (λ (z : s ≡ 0).
      let root = ltb-false (arc_of d 0) top (division_ok b ok).root_inner in
      absurd (omega (arith, ap (arc_of d) z)))
      (λ (ne : s ≢ 0). omega arith) (eq_or_ne s 0)

  one_leaf : (a : ℕ) → a < arc_count b → not_one_leaf (region_words c) a ≡ false
  one_leaf a l =
      let there = (division_ok b ok).arc_leaf a (omega (arith, graph_arcs b)) in
      let s = leaf_of d a in
      let low = arc_below_top a l in
      let w = word_of s (leaf_later s a there.1 low) there.0 in
      let k = w.0 in
      let leaf : is_leaf d (old_number d (suc k)) ≡ true = ap (is_leaf d) w.3 ∙ lt-ltb (arc_of d s) top (omega (arith, there.1)) in
      let here : leaf_of_arc (region_words c) a k ≡ true =
      and_both (leaf_word (region_words c) k) _ (new_leaf b ok k w.1 ∙ leaf)
      (eq-eqb (arc_word (region_words c) k) a (new_arc_lem b ok k w.1 leaf ∙ ap (arc_of d) w.3 ∙ there.1)) in
      let only : (j : ℕ) → j < words (region_words b) → leaf_of_arc (region_words c) a j ≡ true → j ≡ k =
      λ j lj h.
      let e = arc_of_word a j lj h in
      let same = (proper b ok).one_leaf (old_number d (suc j)) s (region_in b ok j lj) there.0 (omega arith) (e ∙ sym there.1) in
      omega (arith, sym (new_old d (proper b ok) (suc j) (number_in b ok j lj)) ∙ ap (new_number d) same ∙ w.2) in
      rw (same_region_words b ok, count_single (leaf_of_arc (region_words c) a) (words (region_words b)) k w.1 here only)

  leaves : wrong_leaves (region_words c) (arc_count c) ≡ false
  unfolding wrong_leaves
  leaves =
      rw (of_words (no_such_arc (region_words c) (arc_count c)) leaf_has_arc)
      (ap (any (not_one_leaf (region_words c))) (same_arcs b ok) ∙ any_false (not_one_leaf (region_words c)) (arc_count b) one_leaf)

  has_child_lem : (k : ℕ) → k < words (region_words b) → is_leaf d (old_number d (suc k)) ≡ false
      → eqb (count (child_of (region_words c) (suc k)) (words (region_words c))) 0 ≡ false
  has_child_lem k l inner =
      let P = proper b ok in
      let r = old_number d (suc k) in
      ⊎_elim (λ (leaf : arc_of d r < top). absurd (omega (arith, ltb-false (arc_of d r) top inner)))
      (λ (child : (s : ℕ) × (s < regions d) × (0 < s) × (parent d s ≡ r)).
      let w = word_of child.0 child.2 child.1 in
      let j = w.0 in
      let hit : child_of (region_words c) (suc k) j ≡ true =
      eq-eqb (parent_word (region_words c) j) (suc k)
      (new_parent b ok j w.1
      ∙ ap (λ (q : ℕ). new_number d (parent d q)) w.3
      ∙ ap (new_number d) child.3
      ∙ new_old d P (suc k) (number_in b ok k l)) in
      ne_eqb (count (child_of (region_words c) (suc k)) (words (region_words c))) 0
      (λ e. omega (arith, count_hit (child_of (region_words c) (suc k)) j (words (region_words c)) (omega (arith, w.1, same_region_words b ok)) hit)))
      (P.not_empty r (region_later b ok k l) (region_in b ok k l))

  not_childless : (k : ℕ) → k < words (region_words b) → childless (region_words c) k ≡ false
  not_childless k l = by_leaf (is_leaf d (old_number d (suc k))) refl
    where
      by_leaf : (leaf : Bool) → is_leaf d (old_number d (suc k)) ≡ leaf → childless (region_words c) k ≡ false
      by_leaf true e = rw (new_leaf b ok k l, e)
      by_leaf false e = rw (new_leaf b ok k l, e) (has_child_lem k l e)

  children : childless_regions (region_words c) ≡ false
  unfolding childless_regions
  children = of_words (childless (region_words c)) not_childless

  no_parent : regions (division_of c) ≤ parent (division_of c) 0
  unfolding top
  no_parent =
      omega (arith, division_parent c 0 (omega arith), division_regions c, same_region_words b ok, few_region_words b ok)

  heights : spans_differ (region_words c) (span_count c) ≡ false
  unfolding spans_differ
  heights =
      let same : span_count c ≡ heightField (region_words c) 0 =
      same_spans b ok
      ∙ spans_height b ok
      ∙ sym (division_height b 0 (omega arith))
      ∙ sym (height_same (proper b ok) (same_nesting b ok) (division_ok b ok).nesting.alone no_parent)
      ∙ division_height c 0 (omega arith) in
      ap not (eq-eqb (span_count c) (heightField (region_words c) 0) same)

  -- "The neat copy is accepted"
  pub canonical_accepted : Accepted (canonical b)
  canonical_accepted = none_accepts (canonical b) (record {
    size = size;
    order = order;
    bits = bits;
    nodes = nodes;
    source = from_source;
    spans = spans;
    many = many;
    ends = ends;
    lengths = lengths;
    holds = holds;
    degrees = degrees;
    self_arcs_lem = self_arcs_lem;
    parents = parents;
    leaves = leaves;
    children = children;
    height = heights;
  })
