-- Cases of the work of a run (request 2026-03) and of the call for the canonical form (2026-04), computed from a sheet's bytes and a table's words: one for
-- each way in which they could be told wrong, so that an edit of a definition is refused here. That runs leave these two tables is computed with the marked
-- cases, in crates/theory_calls.
use Prim.Native.Nat.{ℕ}
use mathlib.Core.Bool.{true, false, false≢true}
use mathlib.Core.List.{List, [], ◌∷◌, ◌++◌, map}
use mathlib.Core.Path.{◌≡◌, refl}
use native.Mathlib.Omega.{arith}
use lib.ListN.{take, drop, replicate}
use Rattle.indices.specs.Columns.{column, passing}
use Rattle.indices.specs.Tests.{all, any, count, lead, least}
use Rattle.sheet.specs.Words.{word, kind, payload, top, bytes_of}
use Rattle.sheet.specs.Sections.{kind_from, arcs_from, region_words}
use Rattle.sheet.specs.Arcs.{tail}
use Rattle.sheet.specs.Regions.{leaf_word, parent_word, arc_word}
use Rattle.sheet.proofs.Samples.{hall_a, held_a, patient, ones_below, by_twos, one_node}
use Rattle.answer.specs.Answer.{input, accepted, written, refused, lowest}
use Rattle.procedure.specs.OfSheet.{division_of}
use Rattle.canonical_form.specs.Numbering.{sooner, ancestor, holds, lowest_arc, path_for, path, new_number, old_number}
use Rattle.canonical_form.specs.Canonical.{new_word, front_words, new_words, canonical}
use Rattle.calls.specs.Halls.{hall_words}
use Rattle.calls.specs.Canonical.{canonical_call}
use Rattle.calls.specs.Work.{all_spans_one, leaves_on_root, reached_arcs, divided_up, Work}

-- The status word, and the words of the counts where no region is higher than 2: rounds, leaves, inner regions at heights 1 and 2 and at the thirteen
-- above, updates. Every high half is 0. The marked cases use it too.
abbrev pub header : ℕ → ℕ → ℕ → ℕ → ℕ → ℕ → List ℕ
header status rounds leaves first second updates =
    status ∷ 0xb0000000 ∷ rounds ∷ 0xb0000000 ∷ leaves ∷ 0xb0000000 ∷ first ∷ 0xb0000000 ∷ second ∷ replicate 26 0xb0000000
    ++ (0xb0000000 ∷ updates ∷ [])

-- the table of samples/by-twos.hex at its end, and of samples/patient.hex after one round
abbrev pub by_twos_ended : List ℕ
by_twos_ended =
    header 0x80000001 0xb0000003 0xb0000005 0xb0000003 0xb0000000 0xb000000c
    ++ (
    0x90000000 ∷ 0xafffffff ∷ 0x9000012c ∷ 0xa0000002 ∷ 0x90000064 ∷ 0xa0000001 ∷ 0x90000190 ∷ 0xa0000003 ∷ 0x9fffffff ∷ 0xafffffff ∷ []
    )

abbrev pub patient_paused : List ℕ
patient_paused =
    header 0x80000000 0xb0000001 0xb0000001 0xb0000001 0xb0000001 0xb0000008
    ++ (0x90000000 ∷ 0xafffffff ∷ 0x90000004 ∷ 0xa0000000 ∷ 0x9fffffff ∷ 0xafffffff ∷ 0x9fffffff ∷ 0xafffffff ∷ [])

-- arcs 0 to 1 and 1 to 2, the leaf of one on region 0 and that of the other on region 1
abbrev deeper_last : List ℕ
deeper_last =
    0x10000003 ∷ 0x20000000 ∷ 0x30000001 ∷ 0x30000001 ∷ 0x40000001 ∷ 0x50000001 ∷ 0x40000402 ∷ 0x50000001
    ∷ 0x60000000 ∷ 0x70000000 ∷ 0x70000801 ∷ []

abbrev deeper_first : List ℕ
deeper_first =
    0x10000003 ∷ 0x20000000 ∷ 0x30000001 ∷ 0x30000001 ∷ 0x40000001 ∷ 0x50000001 ∷ 0x40000402 ∷ 0x50000001
    ∷ 0x60000000 ∷ 0x70000800 ∷ 0x70000001 ∷ []

record Cases : Type 0 where
  -- all spans, and not those of some heights
  ones : map (λ ws. all_spans_one (bytes_of ws)) (patient ∷ one_node ∷ hall_a ∷ ones_below ∷ by_twos ∷ []) ≡ true ∷ true ∷ false ∷ false ∷ false ∷ []
  -- every leaf, and not some; without a leaf, too
  on_root_lem : map (λ ws. leaves_on_root (bytes_of ws)) (by_twos ∷ one_node ∷ hall_a ∷ deeper_last ∷ deeper_first ∷ [])
      ≡ true ∷ true ∷ false ∷ false ∷ false ∷ []
  -- five of six arcs have a reached tail; all six have a reached head, since no arc leads to node 4
  tails : reached_arcs (bytes_of by_twos) by_twos_ended ≡ 5
  -- rounded up, and not to the nearest
  up : map (λ n. divided_up n 4) (0 ∷ 1 ∷ 4 ∷ 5 ∷ 7 ∷ 8 ∷ 9 ∷ []) ≡ 0 ∷ 1 ∷ 1 ∷ 2 ∷ 2 ∷ 2 ∷ 3 ∷ []
  by_one : map (λ n. divided_up n 1) (0 ∷ 1 ∷ 5 ∷ []) ≡ 0 ∷ 1 ∷ 5 ∷ []
  -- three rounds of two: with the span of height 2, which is not there, five
  ended_work : Work (bytes_of by_twos) by_twos_ended
  -- nothing is claimed of a paused table: one leaf is worked, and three arcs have a reached tail
  paused_work : Work (bytes_of patient) patient_paused
  waiting : reached_arcs (bytes_of patient) patient_paused ≡ 3
  -- request 2026-08: the holds are of the hall, and the spans are not
  of_the_hall : hall_words (bytes_of held_a) ≡ 0x10000004 ∷ 0x20000000 ∷ 0xd0000064 ∷ 0xd000000a ∷ 0xd0000003 ∷ 0xd0000007 ∷ take 8 (drop 4 hall_a)

cases : Cases
unfolding all column passing hall_words count lead word kind payload top kind_from arcs_from region_words tail leaf_word parent_word all_spans_one
    leaves_on_root
    reached_arcs divided_up
cases = record {
  ones = refl;
  of_the_hall = refl;
  on_root_lem = refl;
  tails = refl;
  up = refl;
  by_one = refl;
  ended_work = record {
    spans_one_leaves = λ _ one. absurd (false≢true one);
    spans_one_rounds = λ _ one. absurd (false≢true one);
    on_root_leaves = λ _ _. refl;
    on_root_rounds = λ _ _. refl;
    on_root_span = λ _. refl;
  };
  paused_work = record {
    spans_one_leaves = λ e _. absurd (omega (arith, e));
    spans_one_rounds = λ e _. absurd (omega (arith, e));
    on_root_leaves = λ e _. absurd (omega (arith, e));
    on_root_rounds = λ e _. absurd (omega (arith, e));
    on_root_span = λ on. absurd (false≢true on);
  };
  waiting = refl;
}

-- 2026-04: the call on the one-node hall, whose canonical form has twelve bytes: a buffer that is a byte short, one that fits, one with a byte more; what is
-- written leaves the rest, a refusal leaves all
record CopyCases : Type 0 where
  short : lowest (canonical_call (bytes_of one_node) (replicate 11 7)).later accepted ≡ refused (input 31)
  fits : lowest (canonical_call (bytes_of one_node) (replicate 12 7)).later accepted ≡ accepted
  answered : (canonical_call (bytes_of one_node) (replicate 13 7)).good ≡ written 12
  filled : (canonical_call (bytes_of one_node) (replicate 13 7)).leaves (written 12) ≡ bytes_of one_node ++ (7 ∷ [])
  kept : (canonical_call (bytes_of one_node) (replicate 13 7)).leaves (refused (input 31)) ≡ replicate 13 7

copy_cases : CopyCases
unfolding any count lead least column word kind payload top kind_from arcs_from region_words leaf_word parent_word arc_word division_of sooner ancestor holds
    lowest_arc path_for path new_number old_number new_word front_words new_words canonical
copy_cases = record { short = refl; fits = refl; answered = refl; filled = refl; kept = refl }
