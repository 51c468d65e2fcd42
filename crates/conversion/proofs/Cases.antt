-- Cases of the converted sheet, each computed from a sheet's bytes, so that an edit of its definition is refused here.
use Prim.Native.Nat.{ℕ}
use mathlib.Core.Bool.{true}
use mathlib.Core.List.{List, [], ◌∷◌}
use mathlib.Core.Path.{◌≡◌, refl}
use Rattle.indices.specs.Columns.{column, selected}
use Rattle.indices.specs.Tests.{any, count, lead, most}
use Rattle.sheet.specs.Words.{word, kind, payload, top, bytes_of}
use Rattle.sheet.specs.Sections.{kind_from, arcs_from, region_words}
use Rattle.sheet.specs.Arcs.{tail, head, arc_length, hold, charged, taken_length}
use Rattle.sheet.specs.Heights.{height_in, height_of}
use Rattle.sheet.specs.Regions.{leaf_word, parent_word, arc_word}
use Rattle.sheet.proofs.Samples.{hall_a, held_a}
use Rattle.judgement.specs.Arcs.{self_arc}
use Rattle.procedure.specs.OfSheet.{graph_of}
use Rattle.conversion.specs.Kept.{left_after, left}
use Rattle.conversion.specs.Converted.{new_arc, kept_leaf, kept_region, new_region, arc_pair, converted_arcs, new_word, converted_regions}
use Rattle.conversion.specs.Converted.{new_height, converted_spans, converted_holds, converted_words, converted}
use Rattle.conversion.specs.Graph.{without_self_arcs}

-- a sheet, given by its words, is converted to a sheet, given by its words
infix 20 ◌becomes◌
abbrev pub ◌becomes◌ : List ℕ → List ℕ → Type 0
ws becomes ws' = converted (bytes_of ws) ≡ bytes_of ws'

-- one node with an arc to itself, whose leaf is on region 1
abbrev only_self_arc : List ℕ
only_self_arc = 0x10000001 ∷ 0x20000000 ∷ 0x30000007 ∷ 0x30000008 ∷ 0x40000000 ∷ 0x50000003 ∷ 0x60000000 ∷ 0x70000800 ∷ []

-- arcs from node 1 to itself, from the source to node 1 and back, with holds at both
abbrev held_self_arc : List ℕ
held_self_arc =
    0x10000002 ∷ 0x20000000 ∷ 0x30000007 ∷ 0xd0000005 ∷ 0xd0000009 ∷ 0x40000401 ∷ 0x50000003 ∷ 0x40000001 ∷ 0x50000005 ∷ 0x40000400 ∷ 0x50000004
    ∷ 0x70000000 ∷ 0x70000001 ∷ 0x70000002 ∷ []

pub record Cases : Type 0 where
  -- no self-arc: as it was
  pub hall_a_lem : hall_a becomes hall_a
  pub held_a_lem : held_a becomes held_a
  -- arc 0, from node 1 to itself, goes with its leaf and with the two regions around it, one after the other; region 0 is one lower, and the span of height 3
  -- goes; region 4 becomes 1 and arc 1 becomes 0
  pub chain : (0x10000002 ∷ 0x20000000 ∷ 0x30000007 ∷ 0x30000008 ∷ 0x30000009 ∷ 0x40000401 ∷ 0x50000000 ∷ 0x40000001 ∷ 0x50000005
      ∷ 0x60000000 ∷ 0x60000001 ∷ 0x70001000 ∷ 0x60000000 ∷ 0x70002001 ∷ [])
      becomes (0x10000002 ∷ 0x20000000 ∷ 0x30000007 ∷ 0x30000008 ∷ 0x40000001 ∷ 0x50000005 ∷ 0x60000000 ∷ 0x70000800 ∷ [])
  -- a region that keeps one of its two leaves is kept
  pub one_of_two : (0x10000002 ∷ 0x20000000 ∷ 0x30000007 ∷ 0x30000008 ∷ 0x40000000 ∷ 0x50000003 ∷ 0x40000001 ∷ 0x50000005
      ∷ 0x60000000 ∷ 0x70000800 ∷ 0x70000801 ∷ [])
      becomes (0x10000002 ∷ 0x20000000 ∷ 0x30000007 ∷ 0x30000008 ∷ 0x40000001 ∷ 0x50000005 ∷ 0x60000000 ∷ 0x70000800 ∷ [])
  -- every arc goes: region 0 is left childless, of height 1, with one span
  pub nothing_left : only_self_arc becomes (0x10000001 ∷ 0x20000000 ∷ 0x30000007 ∷ [])
  pub root_left : kept_region (bytes_of only_self_arc) 0 ≡ true
  -- holds are kept, that of the node with the self-arc too, and so are the lengths with them
  pub held : held_self_arc becomes (0x10000002 ∷ 0x20000000 ∷ 0x30000007 ∷ 0xd0000005 ∷ 0xd0000009 ∷ 0x40000001 ∷ 0x50000005 ∷ 0x40000400 ∷ 0x50000004
      ∷ 0x70000000 ∷ 0x70000001 ∷ [])
  pub held_graph : without_self_arcs (graph_of (bytes_of held_self_arc))
      ≡ record { nodes = 2; source = 0; tails = 0 ∷ 1 ∷ []; heads = 1 ∷ 0 ∷ []; lengths = 5 ∷ 13 ∷ [] }
  -- arcs 0 and 2 go, and region 1 with them: arc 1 becomes 0 and arc 3 becomes 1, region 3 becomes 1, and its leaves, 4 and 6, become 2 and 3
  pub renumbered : (0x10000002 ∷ 0x20000001 ∷ 0x30000007 ∷ 0x30000008
      ∷ 0x40000000 ∷ 0x50000001 ∷ 0x40000001 ∷ 0x50000002 ∷ 0x40000401 ∷ 0x50000003 ∷ 0x40000400 ∷ 0x50000004
      ∷ 0x60000000 ∷ 0x70000800 ∷ 0x60000000 ∷ 0x70001803 ∷ 0x70000002 ∷ 0x70001801 ∷ [])
      becomes (0x10000002 ∷ 0x20000001 ∷ 0x30000007 ∷ 0x30000008 ∷ 0x40000001 ∷ 0x50000002 ∷ 0x40000400 ∷ 0x50000004
      ∷ 0x60000000 ∷ 0x70000801 ∷ 0x70000800 ∷ [])

pub cases : Cases
unfolding any count lead most column selected word kind payload top kind_from arcs_from region_words tail head arc_length hold charged taken_length height_in
    height_of leaf_word parent_word arc_word left_after left self_arc new_arc kept_leaf kept_region new_region arc_pair converted_arcs new_word
    converted_regions new_height
    converted_spans converted_holds converted_words converted graph_of without_self_arcs
cases = record {
  hall_a_lem = refl;
  held_a_lem = refl;
  chain = refl;
  one_of_two = refl;
  nothing_left = refl;
  root_left = refl;
  held = refl;
  held_graph = refl;
  renumbered = refl;
}
