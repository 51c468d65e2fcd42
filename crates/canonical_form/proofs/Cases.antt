-- Cases of the canonical form, each computed from a sheet's bytes.
use Prim.Native.Nat.{ℕ}
use mathlib.Core.Path.{◌≡◌, refl, ap}
use mathlib.Core.Logic.{◌≢◌}
use mathlib.Core.List.{List, [], ◌∷◌, ◌++◌}
use native.Mathlib.Omega.{arith}
use lib.ListN.{take, drop}
use Rattle.indices.specs.Tests.{any, count, lead, least}
use Rattle.indices.specs.Columns.{at, column, passing}
use Rattle.sheet.specs.Words.{word, kind, payload, top, bytes_of}
use Rattle.sheet.specs.Sections.{kind_from, arcs_from, region_words}
use Rattle.sheet.specs.Regions.{leaf_word, parent_word, arc_word}
use Rattle.sheet.proofs.Samples.{hall_a, hall_awith, held_a, one_node}
use Rattle.procedure.specs.OfSheet.{division_of}
use Rattle.canonical_form.specs.Numbering.{sooner, ancestor, holds, lowest_arc, path_for, path, new_number, old_number}
use Rattle.canonical_form.specs.Canonical.{new_word, front_words, new_words, canonical}
use Rattle.canonical_form.specs.Alike.{shared_words}

-- nodes, source, two spans and the arcs of hall A, arc 0 with the length of the given word; and with the length that it has
abbrev front_with : ℕ → List ℕ
front_with length_word =
    0x10000004 ∷ 0x20000000 ∷ 0x30000002 ∷ 0x30000001 ∷ 0x40000001 ∷ length_word ∷ 0x40000002 ∷ 0x50000001 ∷ 0x40000801 ∷ 0x50000002
    ∷ 0x40000403 ∷ 0x50000005 ∷ []

abbrev front_of_hall_a : List ℕ
front_of_hall_a = front_with 0x50000004

-- the canonical form of hall A, samples/neat.hex: region 1 with the leaves of arcs 0 and 3, region 4 with those of arcs 1 and 2
abbrev pub neat_hall_a : List ℕ
neat_hall_a = front_of_hall_a ++ (0x60000000 ∷ 0x70000800 ∷ 0x70000803 ∷ 0x60000000 ∷ 0x70002001 ∷ 0x70002002 ∷ [])

-- the sheet of samples/renumbered.hex, the same nesting under other numbers: region 2 with the leaves of arcs 0 and 3, region 1 with those of arcs 1 and 2
abbrev other_numbers : List ℕ
other_numbers = 0x60000000 ∷ 0x60000000 ∷ 0x70001000 ∷ 0x70001003 ∷ 0x70000801 ∷ 0x70000802 ∷ []

abbrev pub renumbered : List ℕ
renumbered = front_of_hall_a ++ other_numbers

-- both with arc 0 shortened to 3 hundredths, so that two routes lead to node 1 in the same time
abbrev pub tied : List ℕ
tied = front_with 0x50000003 ++ drop 12 hall_a

abbrev pub tied_renumbered : List ℕ
tied_renumbered = front_with 0x50000003 ++ other_numbers

-- Request 2026-08: a sheet with hall A's spans, and after them the holds 100, 10, 3 and 7, as `held_a` has; and hall A with 101 at the source, which is never
-- charged
abbrev with_holds : List ℕ → List ℕ
with_holds ws = take 4 ws ++ (0xd0000064 ∷ 0xd000000a ∷ 0xd0000003 ∷ 0xd0000007 ∷ drop 4 ws)

abbrev other_at_source : List ℕ
other_at_source = hall_awith (0xd0000065 ∷ 0xd000000a ∷ 0xd0000003 ∷ 0xd0000007 ∷ [])

-- the same nesting once more: leaves and inner regions mixed, and of each region the later arc first
abbrev mixed : List ℕ
mixed = front_of_hall_a ++ (0x60000000 ∷ 0x70000802 ∷ 0x60000000 ∷ 0x70001803 ∷ 0x70001800 ∷ 0x70000801 ∷ [])

-- two nodes, three spans, and these arcs
abbrev three_high : List ℕ → List ℕ
three_high arcs = 0x10000002 ∷ 0x20000000 ∷ 0x30000001 ∷ 0x30000001 ∷ 0x30000001 ∷ arcs

-- arc 1 on region 0, arc 0 below a chain of two single children
abbrev chain : List ℕ
chain =
    three_high (0x40000001 ∷ 0x50000001 ∷ 0x40000400 ∷ 0x50000001 ∷ [])
    ++ (0x70000001 ∷ 0x60000000 ∷ 0x60000002 ∷ 0x70001800 ∷ [])

abbrev neat_chain : List ℕ
neat_chain =
    three_high (0x40000001 ∷ 0x50000001 ∷ 0x40000400 ∷ 0x50000001 ∷ [])
    ++ (0x60000000 ∷ 0x60000001 ∷ 0x70001000 ∷ 0x70000001 ∷ [])

-- region 1 with arc 1; region 2 with arc 2 and, in region 3, arc 0: so region 2 holds the lower arc, and not directly
abbrev held_below : List ℕ
held_below =
    three_high (0x40000001 ∷ 0x50000001 ∷ 0x40000001 ∷ 0x50000001 ∷ 0x40000001 ∷ 0x50000001 ∷ [])
    ++ (0x60000000 ∷ 0x60000000 ∷ 0x60000002 ∷ 0x70000801 ∷ 0x70001800 ∷ 0x70001002 ∷ [])

abbrev neat_held_below : List ℕ
neat_held_below =
    three_high (0x40000001 ∷ 0x50000001 ∷ 0x40000001 ∷ 0x50000001 ∷ 0x40000001 ∷ 0x50000001 ∷ [])
    ++ (0x60000000 ∷ 0x60000001 ∷ 0x70001000 ∷ 0x70000802 ∷ 0x60000000 ∷ 0x70002801 ∷ [])

-- leaves and inner regions by turns: in region 0 the leaves of arcs 0 and 2 and, between them, region 3 with the leaf of arc 1; region 4 with that of arc 3
abbrev by_turns : List ℕ
by_turns =
    0x10000002 ∷ 0x20000000 ∷ 0x30000001 ∷ 0x30000001
    ∷ 0x40000001 ∷ 0x50000001 ∷ 0x40000001 ∷ 0x50000001 ∷ 0x40000001 ∷ 0x50000001 ∷ 0x40000001 ∷ 0x50000001
    ∷ 0x70000002 ∷ 0x70000000 ∷ 0x60000000 ∷ 0x60000000 ∷ 0x70002003 ∷ 0x70001801 ∷ []

abbrev neat_by_turns : List ℕ
neat_by_turns =
    0x10000002 ∷ 0x20000000 ∷ 0x30000001 ∷ 0x30000001
    ∷ 0x40000001 ∷ 0x50000001 ∷ 0x40000001 ∷ 0x50000001 ∷ 0x40000001 ∷ 0x50000001 ∷ 0x40000001 ∷ 0x50000001
    ∷ 0x70000000 ∷ 0x60000000 ∷ 0x70001001 ∷ 0x70000002 ∷ 0x60000000 ∷ 0x70002803 ∷ []

pub record Cases : Type 0 where
  pub hall_a_lem : canonical (bytes_of hall_a) ≡ bytes_of neat_hall_a
  pub neat : canonical (bytes_of neat_hall_a) ≡ bytes_of neat_hall_a
  pub other_numbers_lem : canonical (bytes_of renumbered) ≡ bytes_of neat_hall_a
  pub other_numbers_tied : canonical (bytes_of tied) ≡ canonical (bytes_of tied_renumbered)
  pub leaves_between : canonical (bytes_of mixed) ≡ bytes_of neat_hall_a
  pub single_children : canonical (bytes_of chain) ≡ bytes_of neat_chain
  pub not_directly : canonical (bytes_of held_below) ≡ bytes_of neat_held_below
  pub leaves_and_inner : canonical (bytes_of by_turns) ≡ bytes_of neat_by_turns
  pub no_arc_lem : canonical (bytes_of one_node) ≡ bytes_of one_node
  -- "The neat copy carries the holds."
  pub held : canonical (bytes_of held_a) ≡ bytes_of (with_holds neat_hall_a)
  pub held_neat : canonical (bytes_of (with_holds neat_hall_a)) ≡ bytes_of (with_holds neat_hall_a)
  pub held_other_numbers : canonical (bytes_of (with_holds renumbered)) ≡ bytes_of (with_holds neat_hall_a)
  -- one other hold, and no holds, make another
  pub other_hold : canonical (bytes_of other_at_source) ≢ canonical (bytes_of held_a)
  pub no_holds : canonical (bytes_of hall_a) ≢ canonical (bytes_of held_a)
  -- nodes, source, spans, holds and arcs are what sheets share besides their nesting
  pub shared : shared_words (bytes_of hall_a) ≡ front_of_hall_a
  pub shared_held : shared_words (bytes_of held_a) ≡ with_holds front_of_hall_a

-- lists that differ in one entry
apart : {xs ys : List ℕ} (i : ℕ) → at xs i ≢ at ys i → xs ≢ ys
apart i differ e = differ (ap (λ (zs : List ℕ). at zs i) e)

pub cases : Cases
unfolding any count lead least column word kind payload top kind_from arcs_from region_words leaf_word parent_word arc_word division_of
    sooner ancestor holds lowest_arc path_for path new_number old_number new_word front_words new_words canonical passing shared_words
cases = record {
  hall_a_lem = refl;
  neat = refl;
  other_numbers_lem = refl;
  other_numbers_tied = refl;
  leaves_between = refl;
  single_children = refl;
  not_directly = refl;
  leaves_and_inner = refl;
  no_arc_lem = refl;
  held = refl;
  held_neat = refl;
  held_other_numbers = refl;
  other_hold = apart 19 (λ e. omega arith);
  no_holds = apart 16 (λ e. omega arith);
  shared = refl;
  shared_held = refl;
}
