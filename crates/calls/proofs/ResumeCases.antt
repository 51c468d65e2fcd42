-- Cases of request 2026-06, computed from a sheet's bytes and a table's words: hall A after one round, in the longer form, and for each sentence of 'a possible
-- state' a table that breaks this one alone; so that an edit of a definition is refused here. The marked cases use hall A's tables too.
use Prim.Native.Nat.{ℕ, ◌+◌, ◌*◌}
use mathlib.Core.Bool.{true, false}
use mathlib.Core.List.{List, [], ◌∷◌, ◌++◌, map}
use mathlib.Core.Path.{◌≡◌, refl}
use lib.ListN.{set, replicate}
use Rattle.indices.specs.Columns.{column}
use Rattle.indices.specs.Tests.{all, any, count, lead, most}
use Rattle.indices.specs.Steps.{up_to, times}
use Rattle.sheet.specs.Words.{word, kind, payload, top, bytes_of}
use Rattle.sheet.specs.Sections.{kind_from, arcs_from, region_words}
use Rattle.sheet.specs.Arcs.{tail, head, arc_length, hold, charged, taken_length}
use Rattle.sheet.specs.Heights.{height_in, height_of}
use Rattle.sheet.specs.Regions.{leaf_word, parent_word, arc_word}
use Rattle.sheet.proofs.Samples.{hall_a, patient, one_node}
use Rattle.answer.specs.Answer.{state, Answer, accepted, ended, paused, refused, lowest}
use Rattle.procedure.specs.Division.{leaf_of}
use Rattle.procedure.specs.OfSheet.{graph_of, division_of, spans_of}
use Rattle.procedure.specs.State.{counts}
use Rattle.procedure.specs.Queues.{before, choose, min_item_below, min_item, min_key, write, update_for, update, update_arc, update_outgoing}
use Rattle.procedure.specs.Procedure.{relax, clear_key, process_leaf, rewrite_key, count_at, count_inner, count_round, process_child, alive, start}
use Rattle.procedure.specs.Procedure.{ended as hasEnded, process_for_by, process_by, round_by, after_by}
use Rattle.procedure.specs.Table.{node_words, table_of, key_words}
use Rattle.theory_shortest.specs.TableTest.{leads_back, source_test, unfed_test, fed_by, relaxed_test, led_test}
use Rattle.calls.specs.Tables.{is_usual, is_long, wrong_length, labels_in, predecessors_in}
use Rattle.calls.specs.Runs.{run_table, long_run_table, filled_table, run_call}
use Rattle.calls.specs.Routes.{wrong_node, wrong_keys, malformed}
use Rattle.calls.specs.LongTables.{long_table, has_key, own_in, keys_of, state_in}
use Rattle.calls.specs.Possible.{bound_test, keyless_test, done_test, sound_test, counts_test, status_test, possible?}
use Rattle.calls.specs.Resume.{not_long, not_possible, resumed, resumed_table, resume_call}
use Rattle.calls.proofs.Cases.{header}

-- Hall A after one round: counts 1, 2, (1, 1), 8; "labels 0, 4, unreached, 9". The leaf of arc 1, to the unreached node, has a key.
abbrev pub usual_a : List ℕ
usual_a =
    header 0x80000000 0xb0000001 0xb0000002 0xb0000001 0xb0000001 0xb0000008
    ++ (0x90000000 ∷ 0xafffffff ∷ 0x90000004 ∷ 0xa0000000 ∷ 0x9fffffff ∷ 0xafffffff ∷ 0x90000009 ∷ 0xa0000003 ∷ [])

abbrev pub paused_a : List ℕ
paused_a = usual_a ++ (0xc0000000 ∷ 0xc0000001 ∷ 0xc0000000 ∷ 0xc0000000 ∷ [])

-- the end, with so many rounds, and inner regions at each of the two heights
abbrev pub ended_a : ℕ → ℕ → List ℕ
ended_a rounds inner =
    header 0x80000001 rounds 0xb0000005 inner inner 0xb000000d
    ++ (0x90000000 ∷ 0xafffffff ∷ 0x90000003 ∷ 0xa0000002 ∷ 0x90000001 ∷ 0xa0000001 ∷ 0x90000008 ∷ 0xa0000003 ∷ replicate 4 0xc0000000)

-- the places of hall A's table: a count, the label and the feeding arc of a node, the key word of an arc
abbrev label : ℕ → ℕ
label v = 37 + 2 * v

abbrev feeding : ℕ → ℕ
feeding v = 38 + 2 * v

abbrev key : ℕ → ℕ
key a = 45 + a

-- a table with another word at a place
infixl 60 ◌with◌at◌
abbrev ◌with◌at◌ : List ℕ → ℕ → ℕ → List ℕ
table with w at i = set table i w

-- arc 3 has a key too, so that the label of its head is bounded by its feeder's alone
abbrev open_a : List ℕ
open_a = paused_a with 0xc0000001 at key 3

-- An arc 0 to 1 of length 3, and arcs 1 to 2 and 2 to 1 of length 0. Nodes 1 and 2 are at 8, node 2 is fed from node 1 and that one by the arc said; arc 0
-- has a key.
abbrev ring_hall : List ℕ
ring_hall =
    0x10000003 ∷ 0x20000000 ∷ 0x30000001 ∷ 0x40000001 ∷ 0x50000003 ∷ 0x40000402 ∷ 0x50000000 ∷ 0x40000801 ∷ 0x50000000
    ∷ 0x70000000 ∷ 0x70000001 ∷ 0x70000002 ∷ []

abbrev ring_table : ℕ → List ℕ
ring_table feeder =
    header 0x80000000 0xb0000001 0xb0000001 0xb0000001 0xb0000000 0xb0000002
    ++ (0x90000000 ∷ 0xafffffff ∷ 0x90000008 ∷ feeder ∷ 0x90000008 ∷ 0xa0000001 ∷ 0xc0000001 ∷ 0xc0000000 ∷ 0xc0000000 ∷ [])

-- whether resuming refuses a table of an accepted sheet
abbrev refusal : List ℕ → List ℕ → Answer
refusal ws table = lowest (resume_call (bytes_of ws) table 1).later accepted

-- whether a run refuses a table of so many words
abbrev room : List ℕ → ℕ → Answer
room ws n = lowest (run_call (bytes_of ws) 1 (replicate n 7)).later accepted

record LongCases : Type 0 where
  -- "21 then means neither form": hall A has 45 words and 4 arcs; without arcs both forms are one
  forms : map (room hall_a) (44 ∷ 45 ∷ 46 ∷ 48 ∷ 49 ∷ 50 ∷ [])
      ≡ refused (state 21) ∷ accepted ∷ refused (state 21) ∷ refused (state 21) ∷ accepted ∷ refused (state 21) ∷ []
  no_arcs : map (room one_node) (38 ∷ 39 ∷ 40 ∷ []) ≡ refused (state 21) ∷ accepted ∷ refused (state 21) ∷ []
  -- "Both runs fill it when the lent table has that length"
  run_long : filled_table (bytes_of hall_a) 1 (replicate 49 7) ≡ paused_a
  run_usual : filled_table (bytes_of hall_a) 1 (replicate 45 7) ≡ usual_a
  -- "a key word above 1 being 22", and one of another kind; the usual form has none
  wrong_keys_lem : map (malformed (bytes_of hall_a)) (paused_a ∷ usual_a ∷ (paused_a with 0xc0000002 at key 3) ∷ (paused_a with 0xb0000000 at key 3) ∷ [])
      ≡ false ∷ false ∷ true ∷ true ∷ []
  -- "a keyed leaf's key being its tail's label, an inner region's keys its children's smallest": those of region 1 are its leaves', of arcs 0 and 3
  own_keys : own_in (graph_of (bytes_of hall_a)) open_a ≡ top ∷ 0 ∷ top ∷ 4 ∷ []
  region_keys : keys_of (division_of (bytes_of hall_a)) (top ∷ 0 ∷ top ∷ 4 ∷ []) ≡ top ∷ 4 ∷ 0 ∷ top ∷ 4 ∷ 0 ∷ top ∷ []
  -- "Counts carry on."
  counts_read : counts (state_in (graph_of (bytes_of hall_a)) (division_of (bytes_of hall_a)) paused_a) ≡ 1 ∷ 2 ∷ 1 ∷ 1 ∷ replicate 13 0 ++ (8 ∷ [])

long_cases : LongCases
unfolding all any count lead most up_to times column word kind payload top kind_from arcs_from region_words tail head arc_length hold charged taken_length
    height_in
    height_of leaf_word parent_word arc_word leaf_of graph_of division_of spans_of before choose min_item_below min_item min_key write update_for update
    update_arc
    update_outgoing relax clear_key process_leaf rewrite_key count_at count_inner count_round process_child alive start hasEnded process_for_by process_by
    round_by
    after_by node_words table_of key_words is_usual is_long wrong_length run_table long_run_table filled_table wrong_node wrong_keys malformed has_key own_in
    keys_of labels_in
    predecessors_in state_in
long_cases = record {
  forms = refl;
  no_arcs = refl;
  run_long = refl;
  run_usual = refl;
  wrong_keys_lem = refl;
  own_keys = refl;
  region_keys = refl;
  counts_read = refl;
}

-- what resuming hall A's table answers where one sentence after the other is broken
record PossibleCases : Type 0 where
  possible : map (refusal hall_a) (paused_a ∷ open_a ∷ ended_a 0xb0000003 0xb0000003 ∷ []) ≡ accepted ∷ accepted ∷ accepted ∷ []
  -- "32, table not of the longer length or at fault as in 22": the usual form; a status of 2; a key word of another kind, and above 1; and before 33
  not_long_lem : map (refusal hall_a)
      (
      usual_a
      ∷ (paused_a with 0x80000002 at 0)
      ∷ (paused_a with 0xb0000001 at key 1)
      ∷ (paused_a with 0xc0000002 at key 1)
      ∷ (paused_a with 0xa0000000 at feeding 0 with 0xc0000002 at key 1)
      ∷ []
      )
      ≡ replicate 5 (refused (state 32))
  -- "the source is at 0, unfed": at 1, with all labels 1 higher; fed
  source : map (refusal hall_a)
      (
      (paused_a with 0x90000001 at label 0 with 0x90000005 at label 1 with 0x9000000a at label 3)
      ∷ (paused_a with 0xa0000000 at feeding 0)
      ∷ []
      )
      ≡ replicate 2 (refused (state 33))
  -- "other reached nodes are fed along chains from the source": not fed; fed by an arc that leads elsewhere; by one from an unreached node
  fed : map (refusal hall_a)
      (
      (paused_a with 0xafffffff at feeding 3)
      ∷ (open_a with 0xa0000000 at feeding 3)
      ∷ (open_a with 0xa0000002 at feeding 1)
      ∷ []
      )
      ≡ replicate 3 (refused (state 33))
  -- a ring of feeding arcs, and the same labels with a chain
  chain : map (refusal ring_hall) (ring_table 0xa0000002 ∷ ring_table 0xa0000000 ∷ []) ≡ refused (state 33) ∷ accepted ∷ []
  -- "none below its feeder's label plus length"
  not_below : refusal hall_a (paused_a with 0x90000008 at label 3) ≡ refused (state 33)
  -- "unreached nodes are unfed and the arcs leaving them keyless"
  unreached : map (refusal hall_a) ((paused_a with 0xa0000001 at feeding 2) ∷ (paused_a with 0xc0000001 at key 2) ∷ []) ≡ replicate 2 (refused (state 33))
  -- "a keyless arc from a reached node has its head's label at most its tail's plus its length": one above it; an unreached head
  relaxed : map (refusal hall_a) ((paused_a with 0x9000000a at label 3) ∷ (open_a with 0xc0000000 at key 1) ∷ []) ≡ replicate 2 (refused (state 33))
  -- "no reached node's label exceeds 262,143 × (reached nodes less one)": with three nodes reached 524,286 is the most
  bounded : map (refusal hall_a) ((open_a with 0x9007fffe at label 3) ∷ (open_a with 0x9007ffff at label 3) ∷ []) ≡ accepted ∷ refused (state 33) ∷ []
  -- "each count is below 2 to the power 55": rounds and updates
  counted : map (refusal hall_a)
      (
      (paused_a with 0xb7ffffff at 1 with 0xbfffffff at 2)
      ∷ (paused_a with 0xb8000000 at 1)
      ∷ (paused_a with 0xb7ffffff at 35 with 0xbfffffff at 36)
      ∷ (paused_a with 0xb8000000 at 35)
      ∷ []
      )
      ≡ accepted ∷ refused (state 33) ∷ accepted ∷ refused (state 33) ∷ []
  -- "and 0 at unused heights": heights 2, 3 and 15 of a sheet with two spans
  unused : map (λ i. refusal hall_a (paused_a with 0xb0000005 at i)) (8 ∷ 10 ∷ 34 ∷ []) ≡ accepted ∷ refused (state 33) ∷ refused (state 33) ∷ []
  -- "status is ended exactly when nothing has a key"
  status : map (refusal hall_a) ((paused_a with 0x80000001 at 0) ∷ (ended_a 0xb0000003 0xb0000003 with 0x80000000 at 0) ∷ []) ≡ replicate 2 (refused (state 33))

possible_cases : PossibleCases
unfolding all any count lead column word kind payload top kind_from arcs_from region_words tail head arc_length hold charged taken_length graph_of is_long
    wrong_node
    wrong_keys malformed has_key labels_in predecessors_in leads_back source_test unfed_test fed_by relaxed_test led_test bound_test keyless_test done_test
    sound_test
    counts_test status_test possible? not_long not_possible
possible_cases = record {
  possible = refl;
  not_long_lem = refl;
  source = refl;
  fed = refl;
  chain = refl;
  not_below = refl;
  unreached = refl;
  relaxed = refl;
  bounded = refl;
  counted = refl;
  unused = refl;
  status = refl;
}

-- the rounds that are made
record MadeCases : Type 0 where
  none_more : resumed_table (bytes_of hall_a) paused_a 0 ≡ paused_a
  -- the rest of the run: "rounds 3 leaves 5 inner 3 3 updates 13"
  to_its_end : resumed_table (bytes_of hall_a) paused_a 4294967295 ≡ ended_a 0xb0000003 0xb0000003
  -- with a span of 1 at both heights: a round and an inner region at each height more, the same distances
  other_spans : resumed_table (bytes_of patient) paused_a 4294967295 ≡ ended_a 0xb0000004 0xb0000004
  -- once it has ended, the table is given back
  over : resumed_table (bytes_of patient) (ended_a 0xb0000003 0xb0000003) 1 ≡ ended_a 0xb0000003 0xb0000003
  -- it "answers as a run does"; of a refusal, "Nothing lent changes."
  answers : map (λ k. (resume_call (bytes_of hall_a) paused_a k).good) (0 ∷ 4294967295 ∷ []) ≡ paused ∷ ended ∷ []
  written : (resume_call (bytes_of hall_a) paused_a 4294967295).leaves ended ≡ ended_a 0xb0000003 0xb0000003
  kept : (resume_call (bytes_of hall_a) paused_a 4294967295).leaves (refused (state 33)) ≡ paused_a

made_cases : MadeCases
unfolding any count lead most up_to times column word kind payload top kind_from arcs_from region_words tail head arc_length hold charged taken_length height_in
    height_of leaf_word parent_word arc_word leaf_of graph_of division_of spans_of before choose min_item_below min_item min_key write update_for update
    update_arc
    update_outgoing relax clear_key process_leaf rewrite_key count_at count_inner count_round process_child alive hasEnded process_for_by process_by round_by
    node_words
    table_of key_words labels_in predecessors_in long_table has_key own_in keys_of state_in resumed resumed_table
made_cases = record {
  none_more = refl;
  to_its_end = refl;
  other_spans = refl;
  over = refl;
  answers = refl;
  written = refl;
  kept = refl;
}
