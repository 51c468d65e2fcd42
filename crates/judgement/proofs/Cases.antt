-- Cases of refusals 2, 10, 34 and 35, each computed from a sheet's bytes, so that an edit of their definitions is refused here.
use Prim.Native.Nat.{ℕ}
use mathlib.Core.Bool.{false}
use mathlib.Core.Path.{◌≡◌, refl}
use mathlib.Core.List.{List, [], ◌∷◌, ◌++◌, map}
use lib.ListN.{drop}
use Rattle.indices.specs.Columns.{column}
use Rattle.indices.specs.Tests.{any, count, lead, most}
use Rattle.sheet.specs.Limits.{most_arcs_before}
use Rattle.sheet.specs.Words.{word, kind, payload, top, bytes_of}
use Rattle.sheet.specs.Sections.{kind_from, arcs_from, region_words}
use Rattle.sheet.specs.Arcs.{tail, head, arc_length, hold, charged, taken_length}
use Rattle.sheet.specs.Heights.{height_in, height_of}
use Rattle.sheet.specs.Regions.{leaf_word, parent_word, arc_word}
use Rattle.sheet.proofs.Samples.{hall_awith, held_a, and_back, turntable, five_in, five_out, flat_hall}
use Rattle.answer.specs.Answer.{input, Answer, accepted, refused}
use Rattle.judgement.specs.Form.{wrong_size, wrong_sections, wrong_holds, out_of_order, bit_set, nodes_outside, source_outside, spans_outside, too_many}
use Rattle.judgement.specs.Arcs.{ends_outside, lengths_outside, holds_outside, crowded_nodes, too_many_at_node, self_arc, self_arcs}
use Rattle.judgement.specs.Division.{wrong_parents, wrong_leaves, childless_regions, spans_differ}
use Rattle.judgement.specs.Judgement.{form_refusals, count_refusals, arc_refusals, division_refusals, refusals_by, judgement_under, judgement_by, judgement}

-- the judgements of sheets that are given by their words
abbrev judged : List (List ℕ) → List Answer
judged sheets = map (λ ws. judgement (bytes_of ws)) sheets

-- a hall of one node, with an arc to itself whose leaf names itself as its parent
abbrev leaf_on_itself : List ℕ
leaf_on_itself = 0x10000001 ∷ 0x20000000 ∷ 0x30000001 ∷ 0x40000000 ∷ 0x50000001 ∷ 0x70000800 ∷ []

-- so many holds of 0
abbrev zeros : ℕ → List ℕ
zeros n = column n (λ i. 0xd0000000)

record Cases : Type 0 where
  -- 2026-08: "A sheet may carry n words of kind 13 after the spans, or none"; three and five in a hall of four nodes, and four that stand elsewhere: behind an
  -- arc, before a span, parted by a span
  held : judged (held_a ∷ hall_awith [] ∷ hall_awith (zeros 3) ∷ hall_awith (zeros 5) ∷ []) ≡ accepted ∷ accepted ∷ refused (input 2) ∷ refused (input 2) ∷ []
  held_elsewhere : judged (hall_awith (0x40000001 ∷ 0x50000001 ∷ zeros 4) ∷ hall_awith (zeros 4 ++ (0x30000001 ∷ []))
      ∷ hall_awith (zeros 3 ++ (0x30000001 ∷ zeros 1)) ∷ []) ≡ refused (input 2) ∷ refused (input 2) ∷ refused (input 2) ∷ []
  -- "the payload of kind 1", though that is at fault itself
  held_no_node : judged ((0x10000000 ∷ 0x20000000 ∷ 0x30000001 ∷ []) ∷ (0x10000000 ∷ 0x20000000 ∷ 0x30000001 ∷ zeros 1) ∷ [])
      ≡ refused (input 4) ∷ refused (input 2) ∷ []
  -- "34, a tail's hold (0 for the source) plus the arc's length above 262,143, after 9.": a sum of 262,143, where the source and a node without outgoing arcs
  -- have the largest holds that there are; a sum of 262,144; and 9 is looked at first
  held_length : judged (and_back 262140 268435455 3 268435455 ∷ and_back 262140 0 4 0 ∷ and_back 262144 0 4 0 ∷ [])
      ≡ accepted ∷ refused (input 34) ∷ refused (input 9) ∷ []
  -- and 10 after it: node 0 has five arcs to itself, and the hold of node 1, from which another leads, is too long
  held_before_crowded : judged ((0x10000002 ∷ 0x20000000 ∷ 0x30000001 ∷ 0xd0000000 ∷ 0xd003ffff ∷ drop 3 (flat_hall 2 (0 ∷ 0 ∷ 0 ∷ 0 ∷ 0 ∷ 0x400 ∷ []))) ∷ [])
      ≡ refused (input 34) ∷ []
  -- "From now on a node may have up to four each way, and five is still 10."
  four_each_way : judgement (bytes_of turntable) ≡ accepted
  five_in_lem : judgement (bytes_of five_in) ≡ refused (input 10)
  five_out_lem : judgement (bytes_of five_out) ≡ refused (input 10)
  -- an arc from a node to itself is one out of it and one into it, and arcs with the same ends are counted each: node 0 has four arcs to itself, and one
  -- more from node 1, or to it; or five to node 1. 35 applies to the first two as well, and is looked at after 10
  own_and_in : judgement (bytes_of (flat_hall 2 (0 ∷ 0 ∷ 0 ∷ 0 ∷ 0x400 ∷ []))) ≡ refused (input 10)
  own_and_out : judgement (bytes_of (flat_hall 2 (0 ∷ 0 ∷ 0 ∷ 0 ∷ 1 ∷ []))) ≡ refused (input 10)
  parallel : judgement (bytes_of (flat_hall 2 (1 ∷ 1 ∷ 1 ∷ 1 ∷ 1 ∷ []))) ≡ refused (input 10)
  -- 2026-09: "35, an arc from a node to itself, after 10.": four of them keep the limit of 10; with 35 left out the sheet is at fault in nothing
  four_own : judgement (bytes_of (flat_hall 1 (0 ∷ 0 ∷ 0 ∷ 0 ∷ []))) ≡ refused (input 35)
  four_own_left_out : judgement_by false (bytes_of (flat_hall 1 (0 ∷ 0 ∷ 0 ∷ 0 ∷ []))) ≡ accepted
  -- one behind another arc, at a node that is not the source; arcs from node 0 to node 1 and back are none
  own_elsewhere : judged (flat_hall 2 (1 ∷ 0x401 ∷ []) ∷ flat_hall 2 (1 ∷ 0x400 ∷ []) ∷ []) ≡ refused (input 35) ∷ accepted ∷ []
  -- before 11, which is found with 35 left out
  own_before_parents : judgement (bytes_of leaf_on_itself) ≡ refused (input 35)
  parents_left : judgement_by false (bytes_of leaf_on_itself) ≡ refused (input 11)
  -- "Such a sheet is refused as 10 today.": three arcs out of node 0, or into it; two of each were accepted
  three_out_before : judgement_under most_arcs_before (bytes_of (flat_hall 4 (1 ∷ 2 ∷ 3 ∷ []))) ≡ refused (input 10)
  three_in_before : judgement_under most_arcs_before (bytes_of (flat_hall 4 (0x400 ∷ 0x800 ∷ 0xc00 ∷ []))) ≡ refused (input 10)
  two_before : judgement_under most_arcs_before (bytes_of (flat_hall 3 (1 ∷ 2 ∷ 0x400 ∷ 0x800 ∷ []))) ≡ accepted
  four_before : judgement_under most_arcs_before (bytes_of turntable) ≡ refused (input 10)

cases : Cases
unfolding any count lead most column word kind payload top kind_from arcs_from region_words tail head arc_length hold charged taken_length height_in height_of
    leaf_word parent_word arc_word judgement_by refusals_by form_refusals count_refusals arc_refusals division_refusals wrong_size wrong_sections wrong_holds
    out_of_order
    bit_set nodes_outside source_outside spans_outside too_many ends_outside lengths_outside holds_outside crowded_nodes too_many_at_node self_arc self_arcs
    wrong_parents wrong_leaves childless_regions spans_differ
cases = record {
  held = refl;
  held_elsewhere = refl;
  held_no_node = refl;
  held_length = refl;
  held_before_crowded = refl;
  four_each_way = refl;
  five_in_lem = refl;
  five_out_lem = refl;
  own_and_in = refl;
  own_and_out = refl;
  parallel = refl;
  four_own = refl;
  four_own_left_out = refl;
  own_elsewhere = refl;
  own_before_parents = refl;
  parents_left = refl;
  three_out_before = refl;
  three_in_before = refl;
  two_before = refl;
  four_before = refl;
}
