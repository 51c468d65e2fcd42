-- What it means of a sheet that one refusal does not apply to it: the facts that the judge needs before the sheet is accepted.
-- All that an accepted sheet ensures stands in `Accepted`.
use Prim.Native.Nat.{ℕ, ◌*◌, ◌/◌, ◌%◌, ◌<◌, ◌≤◌}
use mathlib.Core.Bool.{Bool, true, false, not, ◌||◌}
use mathlib.Core.List.{List}
use mathlib.Core.Logic.{◌↔◌}
use mathlib.Core.Path.{◌≡◌}
use borrow.Author.Tests.{eqb-true, ltb-false, leb-false, le-ltb, not-false}
use native.Mathlib.Omega.{arith}
use lib.ListN.{length}
use lib.Dec.{ltb, leb, eqb}
use Rattle.indices.specs.Tests.{any, count}
use Rattle.indices.proofs.Tests.{any_at, any_false, or_left, or_right, neither}
use Rattle.sheet.specs.Limits.{most_bytes, most_nodes, most_spans, most_arcs, most_region_words, arc_numbers, region_numbers}
use Rattle.sheet.specs.Words.{words, kind, payload}
use Rattle.sheet.specs.Sections.{node_count, span_count, arc_count, region_words}
use Rattle.sheet.specs.Arcs.{tail, head, end_of}
use Rattle.sheet.specs.Regions.{leaf_word}
use Rattle.judgement.specs.Form.{wrong_size, wrong_front, wrong_sections, wrong_holds, out_of_order, arc_bits, leaf_bits, bit_set, nodes_outside, too_many}
use Rattle.judgement.specs.Arcs.{end_outside, ends_outside, ends_at, crowded, crowded_nodes, too_many_at_node}

module _ (b : List ℕ) where
  -- 1. a sheet of the right size has whole words, and few of them
  pub whole_words : wrong_size b ≡ false → length b % 4 ≡ 0
  unfolding wrong_size
  whole_words ok = eqb-true (length b % 4) 0 (not-false (eqb (length b % 4) 0) (or_left (not (eqb (length b % 4) 0)) (ltb most_bytes (length b)) ok))

  pub few_words : wrong_size b ≡ false → words b ≤ most_bytes / 4
  unfolding wrong_size
  few_words ok = omega (arith, ltb-false most_bytes (length b) (or_right (not (eqb (length b % 4) 0)) (ltb most_bytes (length b)) ok))

  -- 2. of a sheet in order the sections are, and there is a hold for each node or none
  pub in_sections : out_of_order b ≡ false → wrong_sections b ≡ false
  unfolding out_of_order
  in_sections ok = or_left (wrong_sections b) _ ok

  pub holds_right : out_of_order b ≡ false → wrong_holds b ≡ false
  unfolding out_of_order
  holds_right ok = or_right (wrong_sections b) _ ok

  -- whose sections are in order has its first two words
  pub front_there : wrong_sections b ≡ false → 2 ≤ words b
  unfolding wrong_sections
  front_there ok =
      ltb-false (words b) 2
      (or_left (ltb (words b) 2) _ (or_left (ltb (words b) 2 || not (eqb (kind b 0) 1)) _ (or_left (wrong_front b) _ ok)))

  -- 3. a leaf's word has nothing above its parent
  pub leaf_clear : bit_set b ≡ false → (k : ℕ) → k < words (region_words b) → leaf_word (region_words b) k ≡ true
      → payload (region_words b) k < region_numbers * arc_numbers
  unfolding bit_set
  leaf_clear ok k l leaf =
      let d = region_words b in
      let here = any_at (leaf_bits d) (words d) k (or_right (any (arc_bits b) (arc_count b)) (any (leaf_bits d) (words d)) ok) l in
      leb-false 8388608 (payload d k) (rw leaf at here)

  -- 4. nodes
  pub few_nodes : nodes_outside b ≡ false → node_count b ≤ most_nodes
  unfolding nodes_outside
  few_nodes ok = ltb-false most_nodes (node_count b) (or_right (ltb (node_count b) 1) _ ok)

  -- 7. arcs and region words
  pub few_arcs : too_many b ≡ false → arc_count b ≤ most_arcs
  unfolding too_many
  few_arcs ok =
      ltb-false most_arcs (arc_count b)
      (or_right (ltb most_spans (span_count b)) _ (or_left (ltb most_spans (span_count b) || ltb most_arcs (arc_count b)) _ ok))

  pub few_region_words : too_many b ≡ false → words (region_words b) ≤ most_region_words
  unfolding too_many
  few_region_words ok = ltb-false most_region_words (words (region_words b)) (or_right (ltb most_spans (span_count b) || ltb most_arcs (arc_count b)) _ ok)

  -- 8. both ends of an arc are nodes
  pub end_in : ends_outside b ≡ false → (heads : Bool) (a : ℕ) → a < arc_count b → end_of heads b a < node_count b
  unfolding ends_outside
  end_in ok heads a l = at heads (any_at (end_outside b) (arc_count b) a ok l)
    where
      at : (h : Bool) → end_outside b a ≡ false → end_of h b a < node_count b
      at true e = leb-false _ _ (or_right (leb (node_count b) (tail b a)) (leb (node_count b) (head b a)) e)
      at false e = leb-false _ _ (or_left (leb (node_count b) (tail b a)) (leb (node_count b) (head b a)) e)

  -- 10. no node has too many arcs one way exactly where each has at most so many
  uncrowded : (limit : ℕ) (heads : Bool) → (crowded_nodes limit heads b ≡ false)
      ↔ ((v : ℕ) → v < node_count b → count (ends_at heads b v) (arc_count b) ≤ limit)
  unfolding crowded_nodes
  uncrowded limit heads = (
    λ e v l. ltb-false limit _ (any_at (crowded limit heads b) (node_count b) v e l),
    λ few. any_false (crowded limit heads b) (node_count b) (λ v l. le-ltb limit _ (few v l)),
  )

  -- it does not apply exactly where each node has at most so many arcs out of it, and at most so many into it
  pub few_at_nodes : (limit : ℕ) → (too_many_at_node limit b ≡ false)
      ↔ ((heads : Bool) (v : ℕ) → v < node_count b → count (ends_at heads b v) (arc_count b) ≤ limit)
  unfolding too_many_at_node
  few_at_nodes limit = (
    λ e heads. (uncrowded limit heads).0 (one_way heads e),
    λ few. neither _ _ ((uncrowded limit false).1 (few false)) ((uncrowded limit true).1 (few true)),
  )
    where
      one_way : (heads : Bool) → crowded_nodes limit false b || crowded_nodes limit true b ≡ false → crowded_nodes limit heads b ≡ false
      one_way true e = or_right (crowded_nodes limit false b) _ e
      one_way false e = or_left (crowded_nodes limit false b) _ e
