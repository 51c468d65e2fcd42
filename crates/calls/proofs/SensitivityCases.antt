-- Cases of request 2026-10, computed from sheets' bytes and tables' words: hall A with one arc longer and with other holds, and tables that one sentence of the
-- claim alone rules out; so that an edit of a definition is refused here. The marked cases run these halls.
use Prim.Native.Nat.{ℕ, zero, suc, ◌+◌, ◌<◌}
use mathlib.Core.List.{List, [], ◌∷◌, ◌++◌}
use mathlib.Core.Path.{refl}
use native.Mathlib.Omega.{arith}
use lib.ListN.{set}
use Rattle.indices.specs.Tests.{lead}
use Rattle.sheet.specs.Words.{word, kind, payload, top, bytes_of}
use Rattle.sheet.specs.Sections.{kind_from, arcs_from}
use Rattle.sheet.specs.Arcs.{tail, head, arc_length, hold}
use Rattle.sheet.proofs.Samples.{hall_a, hall_awith, held_a}
use Rattle.calls.specs.Sensitivity.{SameButWord, length_word, hold_word, OtherLength, OtherHold, Moved}
use Rattle.calls.proofs.Sensitivity.{same_but_one}
use Rattle.calls.proofs.Cases.{header}

-- hall A with arc 1, from node 0 to node 2, at 4 in place of 1 (samples/slowed.hex); and with arcs 2 and 3, which leave nodes 2 and 1, longer by 1 each
abbrev pub slowed_a : List ℕ
slowed_a = set hall_a 7 0x50000004

abbrev pub twice_slowed_a : List ℕ
twice_slowed_a = set (set hall_a 9 0x50000003) 11 0x50000006

-- hall A with holds: that of node 1 at 16 in place of 10; that of the source, node 0, at 0 in place of 100; and a first one, of 10 at node 1
abbrev pub slow_scanner_a : List ℕ
slow_scanner_a = set held_a 5 0xd0000010

abbrev pub free_source_a : List ℕ
free_source_a = set held_a 4 0xd0000000

abbrev pub first_scanner_a : List ℕ
first_scanner_a = hall_awith (0xd0000000 ∷ 0xd000000a ∷ 0xd0000000 ∷ 0xd0000000 ∷ [])

-- of four nodes or arcs
each_below : (P : ℕ → Type 0) → P 0 → P 1 → P 2 → P 3 → (v : ℕ) → v < 4 → P v
each_below P none one two three zero l = none
each_below P none one two three (suc zero) l = one
each_below P none one two three (suc (suc zero)) l = two
each_below P none one two three (suc (suc (suc zero))) l = three
each_below P none one two three (suc (suc (suc (suc v)))) l = absurd (omega arith)

-- WHICH SHEETS
record Sheets : Type 0 where
  -- the word that differs is that of the arc's length, of the node's hold
  one_length : SameButWord (length_word (bytes_of hall_a) 1) (bytes_of hall_a) (bytes_of slowed_a)
  one_hold : SameButWord (hold_word (bytes_of held_a) 1) (bytes_of held_a) (bytes_of slow_scanner_a)
  sources_hold : SameButWord (hold_word (bytes_of held_a) 0) (bytes_of held_a) (bytes_of free_source_a)
  -- and by their fields; the first scanner is a hold that was 0
  other_length : OtherLength 1 (bytes_of hall_a) (bytes_of slowed_a)
  other_hold : OtherHold 1 (bytes_of held_a) (bytes_of slow_scanner_a)
  first_hold : OtherHold 1 (bytes_of hall_a) (bytes_of first_scanner_a)
  -- two lengths are not one, nor two holds, nor a length and a hold; nor is an arc that leads elsewhere, one more, or another source
  two_lengths : OtherLength 2 (bytes_of hall_a) (bytes_of twice_slowed_a) → ⊥
  two_holds : OtherHold 1 (bytes_of held_a) (bytes_of (set slow_scanner_a 6 0xd0000004)) → ⊥
  two_first_holds : OtherHold 1 (bytes_of hall_a) (bytes_of (set first_scanner_a 6 0xd0000001)) → ⊥
  length_and_hold : OtherLength 1 (bytes_of hall_a) (bytes_of (hall_awith (0xd0000000 ∷ 0xd0000001 ∷ 0xd0000000 ∷ 0xd0000000 ∷ []))) → ⊥
  hold_and_length : OtherHold 1 (bytes_of hall_a) (bytes_of slowed_a) → ⊥
  other_head : OtherLength 1 (bytes_of hall_a) (bytes_of (set hall_a 6 0x40000003)) → ⊥
  other_tail : OtherLength 1 (bytes_of hall_a) (bytes_of (set hall_a 6 0x40000402)) → ⊥
  other_source : OtherLength 1 (bytes_of hall_a) (bytes_of (set slowed_a 1 0x20000001)) → ⊥
  another_arc : OtherLength 1 (bytes_of hall_a) (bytes_of (set (set slowed_a 12 0x40000003) 13 0x50000001)) → ⊥

sheets : Sheets
unfolding lead word kind payload kind_from arcs_from tail head arc_length hold
sheets = record {
  one_length = same_but_one 7 0x50000001 0x50000004 hall_a;
  one_hold = same_but_one 5 0xd000000a 0xd0000010 held_a;
  sources_hold = same_but_one 4 0xd0000064 0xd0000000 held_a;
  other_length = record {
    ends = record { nodes = refl; sources = refl; arcs = refl; tails = each_below _ refl refl refl refl; heads = each_below _ refl refl refl refl };
    lengths = each_below _ (λ _. refl) (λ n. absurd (n refl)) (λ _. refl) (λ _. refl);
    holds = each_below _ refl refl refl refl;
  };
  other_hold = record {
    ends = record { nodes = refl; sources = refl; arcs = refl; tails = each_below _ refl refl refl refl; heads = each_below _ refl refl refl refl };
    lengths = each_below _ refl refl refl refl;
    holds = each_below _ (λ _. refl) (λ n. absurd (n refl)) (λ _. refl) (λ _. refl);
  };
  first_hold = record {
    ends = record { nodes = refl; sources = refl; arcs = refl; tails = each_below _ refl refl refl refl; heads = each_below _ refl refl refl refl };
    lengths = each_below _ refl refl refl refl;
    holds = each_below _ (λ _. refl) (λ n. absurd (n refl)) (λ _. refl) (λ _. refl);
  };
  two_lengths = λ other. omega (arith, other.lengths 3 (omega arith) (λ e. omega arith));
  two_holds = λ other. omega (arith, other.holds 2 (omega arith) (λ e. omega arith));
  two_first_holds = λ other. omega (arith, other.holds 2 (omega arith) (λ e. omega arith));
  length_and_hold = λ other. omega (arith, other.holds 1 (omega arith));
  hold_and_length = λ other. omega (arith, other.lengths 1 (omega arith));
  other_head = λ other. omega (arith, other.ends.heads 1 (omega arith));
  other_tail = λ other. omega (arith, other.ends.tails 1 (omega arith));
  other_source = λ other. omega (arith, other.ends.sources);
  another_arc = λ other. omega (arith, other.ends.arcs);
}

-- WHICH TABLES
-- a table of hall A, with the labels of nodes 1 to 3 as said
abbrev labelled : ℕ → ℕ → ℕ → List ℕ
labelled first second third =
    header 0x80000001 0xb0000000 0xb0000000 0xb0000000 0xb0000000 0xb0000000
    ++ (
    0x90000000 ∷ 0xafffffff ∷ (0x90000000 + first) ∷ 0xafffffff ∷ (0x90000000 + second) ∷ 0xafffffff ∷ (0x90000000 + third) ∷ 0xafffffff ∷ []
    )

-- the claim of two such tables, where a figure was `before` and is `after`
abbrev MovedA : ℕ → ℕ → List ℕ → List ℕ → Type 0
MovedA before after table table' = Moved before after (bytes_of hall_a) table (bytes_of slowed_a) table'

record Tables : Type 0 where
  -- hall A's distances, and those with arc 1 at 4: node 2 moves by the whole change, and nodes 1 and 3, which have another route, by less; read back it is a
  -- shortening
  lengthened : MovedA 1 4 (labelled 3 1 8) (labelled 4 4 9)
  -- one by more than the change, one way or the other
  too_far : MovedA 1 4 (labelled 3 1 8) (labelled 4 5 9) → ⊥
  too_near : MovedA 4 1 (labelled 4 5 9) (labelled 3 1 8) → ⊥
  -- one down, by no more than the change, though the arc is longer; one up, though it is shorter
  down : MovedA 1 4 (labelled 3 1 8) (labelled 4 4 7) → ⊥
  up : MovedA 4 1 (labelled 4 4 9) (labelled 3 1 10) → ⊥
  -- one unreached in either alone, though no farther from the other than the change
  lost : MovedA 1 4 (labelled 3 1 268435454) (labelled 4 4 268435455) → ⊥
  found : MovedA 4 1 (labelled 4 4 268435455) (labelled 3 1 268435454) → ⊥

tables : Tables
unfolding word payload top
tables = record {
  lengthened = record {
    nodes = refl;
    unreached = each_below _
        (λ e. absurd (omega (arith, e)), λ e. absurd (omega (arith, e)))
        (λ e. absurd (omega (arith, e)), λ e. absurd (omega (arith, e)))
        (λ e. absurd (omega (arith, e)), λ e. absurd (omega (arith, e)))
        (λ e. absurd (omega (arith, e)), λ e. absurd (omega (arith, e)));
    no_farther = each_below _ (omega arith) (omega arith) (omega arith) (omega arith);
    none_down = λ _. each_below _ (omega arith) (omega arith) (omega arith) (omega arith);
    none_up = λ fall. absurd (omega (arith, fall));
  };
  too_far = λ m. omega (arith, m.no_farther 2 (omega arith));
  too_near = λ m. omega (arith, m.no_farther 2 (omega arith));
  down = λ m. omega (arith, m.none_down (omega arith) 3 (omega arith));
  up = λ m. omega (arith, m.none_up (omega arith) 3 (omega arith));
  lost = λ m. omega (arith, (m.unreached 3 (omega arith)).1 refl);
  found = λ m. omega (arith, (m.unreached 3 (omega arith)).0 refl);
}
