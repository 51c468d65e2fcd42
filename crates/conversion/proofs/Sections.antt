-- The converted sheet section by section: node count, source and holds as they were, of the spans the first, the arcs that are kept, and the region words of
-- the regions that are kept.
use Prim.Native.Nat.{ℕ, ◌+◌, ◌*◌, ◌/◌, ◌%◌, ◌<◌}
use mathlib.Core.Bool.{true}
use mathlib.Core.List.{List}
use mathlib.Core.Path.{◌≡◌, refl, ap, ◌∙◌}
use native.Mathlib.Omega.{arith}
use lib.ListN.{length}
use Rattle.indices.specs.Columns.{at}
use Rattle.indices.specs.Tests.{count}
use Rattle.indices.proofs.Columns.{length_column, at_column}
use Rattle.indices.proofs.Steps.{by_truth}
use Rattle.indices.proofs.Tests.{count_nth}
use Rattle.indices.proofs.Selected.{number_below, selected_length, selected_at}
use Rattle.sheet.specs.Limits.{node_numbers}
use Rattle.sheet.specs.Words.{word, kind_of, payload_of, kind, payload, bytes_of}
use Rattle.sheet.specs.Sections.{node_count, source, span_count, span, holds_at, hold_count, arcs_at, arc_count, region_words}
use Rattle.sheet.specs.Arcs.{ends_word, tail, head, arc_length, hold, charged, taken_length}
use Rattle.sheet.specs.Regions.{region_count, leaf_word, is_leaf, parent, leaf_arc}
use Rattle.sheet.proofs.Holds.{hold_same_at}
use Rattle.sheet.proofs.Assembled.{Assembled, assembled_bytes, assembled_first, assembled_second, assembled_span, assembled_spans}
use Rattle.sheet.proofs.Assembled.{assembled_hold, assembled_holds, assembled_arc, assembled_arcs, assembled_regions}
use Rattle.judgement.specs.Judgement.{Convertible}
use Rattle.judgement.proofs.Places.{span_kind, hold_kind_lem, arc_kinds}
use Rattle.conversion.specs.Converted.{kept_arc, new_arc, kept_region, new_region, arc_pair, converted_arcs, converted_regions, new_height}
use Rattle.conversion.specs.Converted.{converted_spans, converted_holds, converted_words, converted}
use Rattle.conversion.proofs.Regions as regions
use Rattle.conversion.proofs.Heights.{height_lower}

module _ (b : List ℕ) where
  -- HOW MUCH IS LEFT
  -- how many arcs
  abbrev pub arcs_left : ℕ
  arcs_left = new_arc b (arc_count b)

  pub new_arc_below : (a : ℕ) → a < arc_count b → kept_arc b a ≡ true → new_arc b a < arcs_left
  unfolding new_arc
  new_arc_below a l s = number_below (kept_arc b) a (arc_count b) l s

  -- each arc of the converted sheet is one that is kept
  pub old_arc : (a' : ℕ) → a' < arcs_left → (a : ℕ) × (a < arc_count b) × (kept_arc b a ≡ true) × (new_arc b a ≡ a')
  unfolding new_arc
  old_arc a' l = count_nth (kept_arc b) (arc_count b) a' l

  pair_long : (a : ℕ) → length (arc_pair b a) ≡ 2
  unfolding arc_pair
  pair_long a = refl

  pub arcs_long : length (converted_arcs b) ≡ 2 * arcs_left
  unfolding converted_arcs new_arc
  arcs_long = selected_length (kept_arc b) (arc_pair b) 2 (arc_count b) (λ a l. pair_long a)

  pub spans_long : length (converted_spans b) ≡ new_height b
  unfolding converted_spans
  spans_long = length_column (new_height b) (λ k. word b (2 + k))

  pub holds_long : length (converted_holds b) ≡ hold_count b
  unfolding converted_holds
  holds_long = length_column (hold_count b) (λ v. word b (holds_at b + v))

  -- WHAT IS LEFT
  span_at : (k : ℕ) → k < new_height b → at (converted_spans b) k ≡ word b (2 + k)
  unfolding converted_spans
  span_at k l = at_column (new_height b) (λ k. word b (2 + k)) k l

  hold_at : (v : ℕ) → v < hold_count b → at (converted_holds b) v ≡ word b (holds_at b + v)
  unfolding converted_holds
  hold_at v l = at_column (hold_count b) (λ v. word b (holds_at b + v)) v l

  module _ (a : ℕ) (l : a < arc_count b) (s : kept_arc b a ≡ true) where
    pair_at : (j : ℕ) → j < 2 → at (converted_arcs b) (2 * new_arc b a + j) ≡ at (arc_pair b a) j
    unfolding converted_arcs new_arc
    pair_at j lj = selected_at (kept_arc b) (arc_pair b) 2 (arc_count b) (λ a l. pair_long a) a j l s lj

    ends_at : at (converted_arcs b) (2 * new_arc b a) ≡ word b (ends_word b a)
    unfolding arc_pair
    ends_at = ap (at (converted_arcs b)) (let e : 2 * new_arc b a ≡ 2 * new_arc b a + 0 = omega arith in e) ∙ pair_at 0 (omega arith)

    length_at : at (converted_arcs b) (2 * new_arc b a + 1) ≡ word b (ends_word b a + 1)
    unfolding arc_pair
    length_at = pair_at 1 (omega arith)

  module _ (ok : Convertible b) where
    abbrev b' : List ℕ
    b' = converted b

    region_kinds : (j : ℕ) → j < length (converted_regions b) → (5 < kind_of (at (converted_regions b) j)) × (kind_of (at (converted_regions b) j) < 8)
    region_kinds j l =
        let q = regions.old_word b ok j (omega (arith, regions.new_words_lem b ok, regions.regions_long b ok)) in
        let here = regions.word_of_kind b ok q.0 q.1 in
        rw (← q.3, regions.word_at b ok q.0 q.1 q.2)
        (by_truth (leaf_word (region_words b) q.0) (λ e. let seven = rw e at here in (omega arith, omega arith))
        (λ e. let six = rw e at here in (omega arith, omega arith)))

    assembled : Assembled b' (converted_spans b) (converted_holds b) (converted_arcs b) (converted_regions b)
    unfolding converted converted_words kind
    assembled = record {
      first = word b 0;
      second = word b 1;
      whole = refl;
      count = arcs_left;
      pairs = arcs_long;
      span_kind = λ k l.
          let inside : k < new_height b = omega (arith, spans_long) in
          ap kind_of (span_at k inside) ∙ span_kind b k (omega (arith, height_lower b ok));
      hold_kind_lem = λ v l. let inside : v < hold_count b = omega (arith, holds_long) in ap kind_of (hold_at v inside) ∙ hold_kind_lem b v inside;
      ends_kind = λ a' l. let q = old_arc a' l in rw (← q.3, ends_at q.0 q.1 q.2) (arc_kinds b q.0 q.1).0;
      length_kind = λ a' l. let q = old_arc a' l in rw (← q.3, length_at q.0 q.1 q.2) (arc_kinds b q.0 q.1).1;
      region_kind_lem = region_kinds;
    }

    -- its byte length: two words, a span for each height, the holds, two words an arc, and the region words
    pub new_bytes : length b' ≡ 4 * (2 + new_height b + hold_count b + 2 * arcs_left + length (converted_regions b))
    new_bytes = omega (arith, assembled_bytes assembled, spans_long, holds_long, arcs_long)

    pub new_spans : span_count b' ≡ new_height b
    new_spans = assembled_spans assembled ∙ spans_long

    pub new_holds : hold_count b' ≡ hold_count b
    new_holds = assembled_holds assembled ∙ holds_long

    pub new_arcs : arc_count b' ≡ arcs_left
    unfolding assembled
    new_arcs = assembled_arcs assembled

    pub new_regions : region_words b' ≡ bytes_of (converted_regions b)
    new_regions = assembled_regions assembled

    -- NODES, SOURCE, SPANS, HOLDS
    pub first_word : word b' 0 ≡ word b 0
    unfolding assembled
    first_word = assembled_first assembled

    pub second_word : word b' 1 ≡ word b 1
    unfolding assembled
    second_word = assembled_second assembled

    pub new_nodes : node_count b' ≡ node_count b
    unfolding payload
    new_nodes = ap payload_of first_word

    pub new_source : source b' ≡ source b
    unfolding payload
    new_source = ap payload_of second_word

    pub new_span : (k : ℕ) → k < new_height b → span b' k ≡ span b k
    unfolding payload
    new_span k l = ap payload_of (assembled_span assembled k (omega (arith, spans_long)) ∙ span_at k l)

    hold_payload : (v : ℕ) → v < hold_count b → payload b' (holds_at b' + v) ≡ payload b (holds_at b + v)
    unfolding payload
    hold_payload v l = ap payload_of (assembled_hold assembled v (omega (arith, holds_long)) ∙ hold_at v l)

    pub new_hold : (v : ℕ) → hold b' v ≡ hold b v
    new_hold v = hold_same_at b' b new_holds v (λ l. hold_payload v (omega (arith, new_holds)))

    -- THE FIELDS of an arc that is kept
    module _ (a : ℕ) (l : a < arc_count b) (s : kept_arc b a ≡ true) where
      pub new_ends : payload b' (ends_word b' (new_arc b a)) ≡ payload b (ends_word b a)
      unfolding payload
      new_ends = ap payload_of (assembled_arc assembled (2 * new_arc b a) (omega (arith, arcs_long, new_arc_below a l s)) ∙ ends_at a l s)

      pub new_tail : tail b' (new_arc b a) ≡ tail b a
      unfolding tail
      new_tail = ap (λ (p : ℕ). p / node_numbers % node_numbers) new_ends

      pub new_head : head b' (new_arc b a) ≡ head b a
      unfolding head
      new_head = ap (λ (p : ℕ). p % node_numbers) new_ends

      pub new_length : arc_length b' (new_arc b a) ≡ arc_length b a
      unfolding arc_length payload
      new_length =
          ap payload_of
          (ap (word b') (let e : arcs_at b' + 2 * new_arc b a + 1 ≡ arcs_at b' + (2 * new_arc b a + 1) = omega arith in e)
          ∙ assembled_arc assembled (2 * new_arc b a + 1) (omega (arith, arcs_long, new_arc_below a l s))
          ∙ length_at a l s)

      pub new_taken : taken_length b' (new_arc b a) ≡ taken_length b a
      unfolding taken_length charged
      new_taken = rw (new_length, new_tail, new_source, new_hold (tail b a))

    pub arcs_all : arc_count b' ≡ count (kept_arc b) (arc_count b)
    unfolding new_arc
    arcs_all = new_arcs

    -- THE FIELDS of a region that is kept
    pub regions_all : region_count (region_words b') ≡ count (kept_region b) (region_count (region_words b))
    regions_all = rw new_regions (regions.regions_left b ok)

    module _ (r : ℕ) (l : r < region_count (region_words b)) (s : kept_region b r ≡ true) where
      pub new_leaf : is_leaf (region_words b') (new_region b r) ≡ is_leaf (region_words b) r
      new_leaf = rw new_regions (regions.same_leaf_region b ok r l s)

      pub new_parent : 0 < r → parent (region_words b') (new_region b r) ≡ new_region b (parent (region_words b) r)
      new_parent pos = rw new_regions (regions.same_parent_region b ok r pos l s)

      pub new_leaf_arc : is_leaf (region_words b) r ≡ true → leaf_arc (region_words b') (new_region b r) ≡ new_arc b (leaf_arc (region_words b) r)
      new_leaf_arc leaf = rw new_regions (regions.same_arc_region b ok r l s leaf)
