-- The change bounds how far a distance moves, by what is known of two sheets that differ in one length or hold. No function that is smaller anywhere, of
-- figures up to the limit of a length, does: in a hall with a single route to its last node, which takes as long as the figure says, that node moves by the
-- whole change.
use Prim.Native.Nat.{ℕ, zero, suc, ◌+◌, ◌≤◌, ◌<◌}
use mathlib.Core.Path.{◌≡◌, refl, sym, ap, ◌∙◌}
use mathlib.Core.List.{List, [], ◌∷◌}
use native.Mathlib.Omega.{arith}
use borrow.Author.Tests.{le-ltb}
use lib.ListN.{length}
use Rattle.indices.specs.Columns.{at, column}
use Rattle.indices.specs.Tests.{any, count, lead, most}
use Rattle.sheet.specs.Limits.{most_length}
use Rattle.sheet.specs.Words.{word, word_of, bytes_of, kind, payload, top}
use Rattle.sheet.specs.Sections.{kind_from, span_count, hold_count, arcs_from, arc_count, region_words}
use Rattle.sheet.specs.Arcs.{tail, head, arc_length, hold, charged, taken_length}
use Rattle.sheet.specs.Heights.{height_in, height_of}
use Rattle.sheet.specs.Regions.{leaf_word, parent_word, arc_word, height}
use Rattle.sheet.proofs.Bytes.{kind_word, payload_word, kinds_bytes, payloads_bytes}
use Rattle.judgement.specs.Form.{wrong_size, wrong_sections, wrong_holds, out_of_order, bit_set, nodes_outside, source_outside, spans_outside, too_many}
use Rattle.judgement.specs.Arcs.{ends_outside, lengths_outside, holds_outside, crowded_nodes, too_many_at_node, self_arc, self_arcs}
use Rattle.judgement.specs.Division.{wrong_parents, wrong_leaves, childless_regions, spans_differ}
use Rattle.judgement.specs.Judgement.{Accepted}
use Rattle.judgement.proofs.Accepted.{none_accepts}
use Rattle.procedure.specs.Graph.{Graph}
use Rattle.procedure.specs.OfSheet.{graph_of}
use Rattle.procedure.specs.Procedure.{enough_rounds}
use Rattle.procedure.specs.Routes.{Route, route_length, chain_to, Shortest}
use Rattle.theory_shortest.proofs.Travel.{for_sheet}
use Rattle.calls.specs.Tables.{label_in, labels_in, predecessors_in}
use Rattle.calls.specs.Runs.{run_table}
use Rattle.calls.specs.Sensitivity.{SameButWord, apart, LengthBound, HoldBound, LeastBound}
use Rattle.calls.proofs.Tables.{labels_at}
use Rattle.calls.proofs.Sensitivity.{same_but_one}
use Rattle.theory_calls.proofs.Delivered.{run_shortest}
use Rattle.theory_calls.proofs.Sensitivity.{sensitivity}

-- THE CHANGE IS A BOUND
length_bound : LengthBound apart
length_bound b b' ok ok' a l same =
    let known = sensitivity b b' ok ok' in
    ((known.other_length a (known.length_word_lem a l same)).shortest _ _ (run_shortest b ok) (run_shortest b' ok')).no_farther

hold_bound : HoldBound apart
hold_bound b b' ok ok' u l same =
    let known = sensitivity b b' ok ok' in
    ((known.other_hold u (known.hold_word_lem u l same)).shortest _ _ (run_shortest b ok) (run_shortest b' ok')).no_farther

-- THE GRAPH of the hall: from node 0 to node 1, and from there to node 2, which is n away
abbrev line : ℕ → Graph
line n = record { nodes = 3; source = 0; tails = 0 ∷ 1 ∷ []; heads = 1 ∷ 2 ∷ []; lengths = 0 ∷ n ∷ [] }

-- every way from another node to node 2 takes the second arc
way_long : (n u : ℕ) (way : List ℕ) → u < 2 → Route (line n) u way 2 → n ≤ route_length (line n) way
unfolding Route route_length
way_long n u [] l r = absurd (omega arith)
way_long n u (zero ∷ way) l r = omega (arith, way_long n 1 way (omega arith) r.2)
way_long n u (suc zero ∷ way) l r = omega arith
way_long n u (suc (suc a) ∷ way) l r = absurd (omega (arith, r.0))

line_distance : (n : ℕ) {labels predecessors : List ℕ} → Shortest (line n) labels predecessors → at labels 2 ≡ n
unfolding Route route_length
line_distance n {labels} {predecessors} s =
    let way : Route (line n) 0 (0 ∷ 1 ∷ []) 2 = (omega arith, refl, (omega arith, refl, refl)) in
    let chain = s.chain 2 (omega arith) (λ none. (s.unreached 2 (omega arith)).0 none (0 ∷ 1 ∷ []) way) in
    let far = way_long n 0 (chain_to (line n) predecessors 2) (omega arith) chain.0 in
    omega (arith, s.least 2 (omega arith) (0 ∷ 1 ∷ []) way, far, chain.1)

-- THE HALL: arcs 0 to 1 of length 0 and 1 to 2 of length x, their leaves on region 0, and holds 0, y and 0
abbrev leaves : List ℕ
leaves = 0x70000000 ∷ 0x70000001 ∷ []

abbrev hall : ℕ → ℕ → List ℕ
hall x y =
    0x10000003 ∷ 0x20000000 ∷ 0x30000001 ∷ 0xd0000000 ∷ word_of 13 y ∷ 0xd0000000 ∷ 0x40000001 ∷ 0x50000000 ∷ 0x40000402 ∷ word_of 5 x ∷ leaves

-- region 0 is one higher than its leaves, so there is one span
leaves_high : height (bytes_of leaves) 0 ≡ 1
unfolding height_of height_in most leaf_word parent_word kind payload word top
leaves_high = refl

-- b is its sheet, and no arc takes longer than it may
record Hall (x y : ℕ) (b : List ℕ) : Type 0 where
  whole : b ≡ bytes_of (hall x y)
  short : x + y ≤ most_length

module _ {b : List ℕ} {x y : ℕ} (h : Hall x y b) where
  size : length b ≡ 48
  size = ap length h.whole

  kinds : kind b ≡ at (1 ∷ 2 ∷ 3 ∷ 13 ∷ 13 ∷ 13 ∷ 4 ∷ 5 ∷ 4 ∷ 5 ∷ 7 ∷ 7 ∷ [])
  kinds = rw (h.whole, kinds_bytes (hall x y), kind_word 13 y (omega (arith, h.short)), kind_word 5 x (omega (arith, h.short)))

  fields : payload b ≡ at (3 ∷ 0 ∷ 1 ∷ 0 ∷ y ∷ 0 ∷ 1 ∷ 0 ∷ 0x402 ∷ x ∷ 0 ∷ 1 ∷ [])
  fields = rw (h.whole, payloads_bytes (hall x y), payload_word 13 y (omega (arith, h.short)), payload_word 5 x (omega (arith, h.short)))

  -- its sections
  one_span : span_count b ≡ 1
  unfolding kind_from lead
  one_span = rw (size, kinds)

  three_holds : hold_count b ≡ 3
  unfolding kind_from lead
  three_holds = rw (one_span, size, kinds)

  two_arcs : arc_count b ≡ 2
  unfolding arcs_from lead
  two_arcs = rw (three_holds, one_span, size, kinds)

  two_leaves_lem : region_words b ≡ bytes_of leaves
  unfolding region_words
  two_leaves_lem = rw (two_arcs, three_holds, one_span, h.whole)

  -- no refusal applies
  hall_accepted : Accepted b
  unfolding any count tail head arc_length hold charged taken_length leaf_word parent_word arc_word wrong_size wrong_sections wrong_holds out_of_order bit_set
      nodes_outside source_outside spans_outside too_many ends_outside lengths_outside holds_outside crowded_nodes too_many_at_node self_arc self_arcs
      wrong_parents
      wrong_leaves childless_regions spans_differ
  hall_accepted = none_accepts b record {
    size = rw size;
    order = rw (two_leaves_lem, kinds_bytes leaves, three_holds, size, kinds, fields);
    bits = rw (two_leaves_lem, kinds_bytes leaves, payloads_bytes leaves, two_arcs, three_holds, one_span, fields);
    nodes = rw fields;
    source = rw fields;
    spans = rw (one_span, fields);
    many = rw (two_arcs, one_span, two_leaves_lem);
    ends = rw (two_arcs, three_holds, one_span, fields);
    lengths = rw (two_arcs, three_holds, one_span, fields) (le-ltb most_length x (omega (arith, h.short)));
    holds = rw (two_arcs, three_holds, one_span, fields) (le-ltb most_length (x + y) h.short);
    degrees = rw (fields, two_arcs, three_holds, one_span, fields);
    self_arcs_lem = rw (two_arcs, three_holds, one_span, fields);
    parents = rw (two_leaves_lem, kinds_bytes leaves, payloads_bytes leaves);
    leaves = rw (two_leaves_lem, two_arcs, kinds_bytes leaves, payloads_bytes leaves);
    children = rw (two_leaves_lem, kinds_bytes leaves);
    height = rw (two_leaves_lem, one_span, leaves_high);
  }

  -- its figures
  length_is : arc_length b 1 ≡ x
  unfolding arc_length
  length_is = rw (three_holds, one_span, fields)

  hold_is : hold b 1 ≡ y
  unfolding hold
  hold_is = rw (three_holds, one_span, fields)

  graph_is : graph_of b ≡ line (x + y)
  unfolding graph_of column tail head arc_length hold charged taken_length
  graph_is = rw (two_arcs, three_holds, one_span, fields)

  -- the last node is as far as both together
  last_at : label_in (run_table b enough_rounds) 2 ≡ x + y
  last_at =
      let table = run_table b enough_rounds in
      let s : Shortest (line (x + y)) (labels_in 3 table) (predecessors_in 3 table) =
      rw (graph_is, fields) at ((for_sheet b).1 (run_shortest b hall_accepted)) in
      sym (labels_at 3 table 2 (omega arith)) ∙ line_distance (x + y) s

-- NO SMALLER ONE IS: the last node of two such halls, with the length or the hold alone above 0
module _ {m n : ℕ} {b b' : List ℕ} (bound : ℕ → ℕ → ℕ) where
  length_reached : LengthBound bound → Hall m 0 b → Hall n 0 b' → SameButWord 9 b b' → apart m n ≤ bound m n
  length_reached is h h' same =
      let moved =
      is b b' (hall_accepted h) (hall_accepted h') 1 (omega (arith, two_arcs h)) (rw (three_holds h, one_span h) same) 2 (rw (fields h) (omega arith)) in
      let told : apart (m + 0) (n + 0) ≤ bound m n = rw (last_at h, last_at h', length_is h, length_is h') at moved in
      omega arith

  hold_reached : HoldBound bound → Hall 0 m b → Hall 0 n b' → SameButWord 4 b b' → apart m n ≤ bound m n
  hold_reached is h h' same =
      let moved =
      is b b' (hall_accepted h) (hall_accepted h') 1 (omega (arith, three_holds h)) (rw (one_span h) same) 2 (rw (fields h) (omega arith)) in
      let told : apart (0 + m) (0 + n) ≤ bound m n = rw (last_at h, last_at h', hold_is h, hold_is h') at moved in
      omega arith

pub least_bound : LeastBound
least_bound = record {
  lengths = length_bound;
  holds = hold_bound;
  least_length = λ bound is m n lm ln.
      length_reached bound is (record { whole = refl; short = omega arith }) (record { whole = refl; short = omega arith })
      (same_but_one 9 (word_of 5 m) (word_of 5 n) (hall 0 0));
  least_hold = λ bound is m n lm ln.
      hold_reached bound is (record { whole = refl; short = omega arith }) (record { whole = refl; short = omega arith })
      (same_but_one 4 (word_of 13 m) (word_of 13 n) (hall 0 0));
}
