-- The marked cases of the paper as a table, and cases of change requests with them, computed from the definitions: a call, what it answers, and what is then in
-- what was lent or is printed.
use Rattle.std.specs.Prelude.{if◌then◌else◌}
use Prim.Native.Nat.{ℕ}
use mathlib.Core.Bool.{Bool, false}
use mathlib.Core.List.{List, [], ◌∷◌, ◌++◌, map}
use mathlib.Core.Path.{◌≡◌, refl}
use lib.ListN.{take, drop, set, replicate}
use Rattle.indices.specs.Columns.{column, selected}
use Rattle.indices.specs.Steps.{up_to, times}
use Rattle.indices.specs.Tests.{all, any, count, lead, most, least}
use Rattle.sheet.specs.Words.{word, kind, payload, top, bytes_of}
use Rattle.sheet.specs.Sections.{kind_from, arcs_from, region_words}
use Rattle.sheet.specs.Arcs.{tail, head, arc_length, hold, charged, taken_length}
use Rattle.sheet.specs.Heights.{height_in, height_of}
use Rattle.sheet.specs.Regions.{leaf_word, parent_word, arc_word}
use Rattle.sheet.proofs.Samples.{most_of_hall_a, hall_a, hall_awith, held_a, and_back, patient, ones_below, by_twos, one_node, uneven, shallow_first}
use Rattle.sheet.proofs.Samples.{turntable, five_in, five_out}
use Rattle.answer.specs.Answer.{input, state, Answer, accepted, ended, paused, route, written, refused}
use Rattle.judgement.specs.Form.{wrong_size, wrong_sections, wrong_holds, out_of_order, bit_set, nodes_outside, source_outside, spans_outside, too_many}
use Rattle.judgement.specs.Arcs.{ends_outside, lengths_outside, holds_outside, crowded_nodes, too_many_at_node, self_arc, self_arcs}
use Rattle.judgement.specs.Division.{wrong_parents, wrong_leaves, childless_regions, spans_differ}
use Rattle.judgement.specs.Judgement.{form_refusals, count_refusals, arc_refusals, division_refusals, refusals_by, judgement_by, judgement, Accepted}
use Rattle.procedure.specs.Division.{leaf_of}
use Rattle.procedure.specs.OfSheet.{graph_of, division_of, spans_of}
use Rattle.procedure.specs.Queues.{before, choose, min_item_below, min_item, min_key, write, update_for, update, update_arc, update_outgoing}
use Rattle.procedure.specs.Procedure.{
  relax,
  clear_key,
  process_leaf,
  rewrite_key,
  count_at,
  count_inner,
  count_inner_before,
  count_round,
  process_child,
  alive,
  ended as hasEnded,
  enough_rounds,
  start,
  process_for_by,
  process_by,
  round_by,
  after_by,
}
use Rattle.procedure.specs.Table.{node_words, table_of, key_words}
use Rattle.procedure.specs.Routes.{followed}
use Rattle.canonical_form.specs.Numbering.{sooner, ancestor, holds, lowest_arc, path_for, path, new_number, old_number}
use Rattle.canonical_form.specs.Canonical.{new_word, front_words, new_words, canonical}
use Rattle.conversion.specs.Kept.{left_after, left}
use Rattle.conversion.specs.Converted.{new_arc, kept_leaf, kept_region, new_region, arc_pair, converted_arcs, new_word as renumberedWord, converted_regions}
use Rattle.conversion.specs.Converted.{new_height, converted_spans, converted_holds, converted_words, converted}
use Rattle.canonical_form.proofs.Cases.{neat_hall_a, renumbered, tied, tied_renumbered}
use Rattle.theory_shortest.specs.TableTest.{leads_back, source_test, unfed_test, fed_by, relaxed_test, led_test, settled?}
use Rattle.calls.specs.Tables.{table_length, long_length, is_usual, is_long, wrong_length, status_says, status_in, rounds_in, leaves_in, predecessor_in}
use Rattle.calls.specs.Tables.{labels_in, predecessors_in}
use Rattle.calls.specs.Work.{all_spans_one, leaves_on_root, reached_arcs}
use Rattle.calls.specs.Runs.{run_answer, run_table, long_run_table, filled_table, table_after}
use Rattle.calls.specs.Routes.{node_outside, wrong_node, wrong_keys, is_paused, malformed, not_shortest, table_refusals, route_to, found_route, route_answer}
use Rattle.calls.specs.Routes.{left_by, buffer_after}
use Rattle.calls.specs.LongTables.{long_table, has_key, own_in, keys_of, state_in}
use Rattle.calls.specs.Possible.{bound_test, keyless_test, done_test, sound_test, counts_test, status_test, possible?}
use Rattle.calls.specs.Resume.{not_long, not_possible, resumed, resumed_table, resume_answer, resume_table}
use Rattle.calls.specs.AsBefore.{table_before}
use Rattle.calls.specs.Canonical.{canonical_answer, out_after}
use Rattle.calls.specs.Convert.{convert_answer, convert_out}
use Rattle.calls.proofs.Cases.{header, by_twos_ended, patient_paused}
use Rattle.calls.proofs.ResumeCases.{usual_a, paused_a, ended_a}
use Rattle.calls.proofs.SensitivityCases.{slowed_a, twice_slowed_a, slow_scanner_a, free_source_a, first_scanner_a}
use Rattle.listing.specs.Text.{ascii, last_digits, decimal}
use Rattle.listing.specs.Listing.{cell, spaced, status, counted, levels, inner, status_line, node_line, node_lines, listing_of, refused_line}
use Rattle.listing.specs.Printed.{printed, converted_text}

-- a call as a case names it: to judge a sheet, given by its words; to run it for at most so many rounds, with a table lent; to read the route to a node
-- out of a table, with a buffer lent; what `marks` does, to run a sheet to its end and print; to run it as it was before request 2026-02; to run it and
-- look at the work done; to write its canonical form into a buffer of bytes; to convert it into one; what `converter` does, to write what it is converted
-- to; to resume it for at most so many rounds, with a table lent
pub data Task : Type 0 where
  judge : List ℕ → Task
  run : List ℕ → ℕ → List ℕ → Task
  read_route : List ℕ → List ℕ → ℕ → List ℕ → Task
  print : List ℕ → Task
  run_before : List ℕ → ℕ → Task
  work : List ℕ → ℕ → Task
  copy : List ℕ → List ℕ → Task
  convert : List ℕ → List ℕ → Task
  write_converted : List ℕ → Task
  resume : List ℕ → ℕ → List ℕ → Task

-- a condition as a figure: 1 where it holds
abbrev figure : Bool → ℕ
figure holds = if holds then 1 else 0

-- whether all spans are 1, whether every leaf hangs on region 0, the rounds, the leaves worked, the arcs whose tail is reached
abbrev work_in : List ℕ → List ℕ → List ℕ
work_in b table = figure (all_spans_one b) ∷ figure (leaves_on_root b) ∷ rounds_in table ∷ leaves_in table ∷ reached_arcs b table ∷ []

-- what comes of it: the answer, and the words or bytes of what was lent, the bytes printed, or the figures of the work
record Outcome : Type 0 where
  answer : Answer
  words : List ℕ

abbrev outcome : Task → Outcome
outcome (judge ws) = record { answer = judgement (bytes_of ws); words = [] }
outcome (run ws k table) = record { answer = run_answer (bytes_of ws) k table; words = table_after (bytes_of ws) k table }
outcome (run_before ws k) = let table = table_before (bytes_of ws) k in record { answer = status_says (status_in table); words = table }
outcome (work ws k) = let table = run_table (bytes_of ws) k in record { answer = status_says (status_in table); words = work_in (bytes_of ws) table }
outcome (copy ws out) = record { answer = canonical_answer (bytes_of ws) out; words = out_after (bytes_of ws) out }
outcome (convert ws out) = record { answer = convert_answer (bytes_of ws) out; words = convert_out (bytes_of ws) out }
outcome (write_converted ws) = record { answer = judgement_by false (bytes_of ws); words = converted_text (bytes_of ws) }
outcome (resume ws k table) = record { answer = resume_answer (bytes_of ws) table k; words = resume_table (bytes_of ws) table k }
outcome (print ws) = record { answer = judgement (bytes_of ws); words = printed (bytes_of ws) }
outcome (read_route ws table node buffer) =
    record { answer = route_answer (bytes_of ws) table node buffer; words = buffer_after (bytes_of ws) table node buffer }

record Row : Type 0 where
  task : Task
  expected : Outcome

infix 70 ◌is◌ ◌is◌leaving◌
abbrev ◌is◌ : Task → Answer → Row
t is a = record { task = t; expected = record { answer = a; words = [] } }

abbrev ◌is◌leaving◌ : Task → Answer → List ℕ → Row
t is a leaving ws = record { task = t; expected = record { answer = a; words = ws } }

-- a sheet whose first word is the given one; two nodes with an arc whose second word is the given one; one node with an arc to itself, and the same without a
-- leaf; the one-node hall without its third word
abbrev starting_with : ℕ → List ℕ
starting_with nodeWord = nodeWord ∷ 0x20000000 ∷ 0x30000001 ∷ []

abbrev one_arc : ℕ → List ℕ
one_arc length_word = 0x10000002 ∷ 0x20000000 ∷ 0x30000001 ∷ 0x40000001 ∷ length_word ∷ 0x70000000 ∷ []

abbrev one_self_arc : List ℕ
one_self_arc = 0x10000001 ∷ 0x20000000 ∷ 0x30000001 ∷ 0x40000000 ∷ 0x50000003 ∷ 0x70000000 ∷ []

abbrev leafless : List ℕ
leafless = take 5 one_self_arc

-- hall A with an arc from node 3 to itself before its arcs, whose leaf is alone in region 4, which is alone in region 3, in region 1; with an arc from node 1
-- to itself behind them, whose leaf is in region 0; and with other words between its spans and its arcs
abbrev recirculating : List ℕ → List ℕ
recirculating ws =
    take 4 hall_a ++ ((0x30000009 ∷ 0x30000008 ∷ ws) ++ ((0x40000c03 ∷ 0x50000007 ∷ []) ++ (take 8 (drop 4 hall_a) ++ (0x40000401 ∷ 0x50000009
    ∷ 0x60000000 ∷ 0x60000000 ∷ 0x60000001 ∷ 0x60000003 ∷ 0x70002000 ∷ 0x70000801 ∷ 0x70000804 ∷ 0x70001002 ∷ 0x70001003 ∷ 0x70000005 ∷ []))))

abbrev spanless : List ℕ
spanless = 0x10000001 ∷ 0x20000000 ∷ []

-- a table for n nodes, not yet written
abbrev blank : ℕ → List ℕ
blank n = replicate (table_length n) 0

-- the same in the longer form, with so many arcs
abbrev blank_long : ℕ → ℕ → List ℕ
blank_long n m = replicate (long_length n m) 0

-- A's finished table, with the last word of its counts and the label of node 3 as said; and with the last word that it has
abbrev finished : ℕ → ℕ → List ℕ
finished updates label =
    header 0x80000001 0xb0000003 0xb0000005 0xb0000003 0xb0000003 updates
    ++ (0x90000000 ∷ 0xafffffff ∷ 0x90000003 ∷ 0xa0000002 ∷ 0x90000001 ∷ 0xa0000001 ∷ label ∷ 0xa0000003 ∷ [])

abbrev finished_a : ℕ → List ℕ
finished_a label = finished 0xb000000d label

-- nodes 1 and 2 joined by zero arcs both ways; and each fed from the other, at 7
abbrev cut_off : List ℕ
cut_off =
    0x10000003 ∷ 0x20000000 ∷ 0x30000001 ∷ 0x40000402 ∷ 0x50000000 ∷ 0x40000801 ∷ 0x50000000 ∷ 0x70000000 ∷ 0x70000001 ∷ []

abbrev ring : List ℕ
ring =
    header 0x80000001 0xb0000000 0xb0000000 0xb0000000 0xb0000000 0xb0000000
    ++ (0x90000000 ∷ 0xafffffff ∷ 0x90000007 ∷ 0xa0000001 ∷ 0x90000007 ∷ 0xa0000000 ∷ [])

-- the hall of samples/shallow-first.hex after one round, in the longer form
abbrev shallow_once : List ℕ
shallow_once =
    header 0x80000000 0xb0000001 0xb0000001 0xb0000000 0xb0000001 0xb0000007
    ++ (0x90000000 ∷ 0xafffffff ∷ 0x9fffffff ∷ 0xafffffff ∷ 0x900001f4 ∷ 0xa0000003 ∷ 0x9fffffff ∷ 0xafffffff ∷ [])
    ++ (0xc0000001 ∷ 0xc0000000 ∷ 0xc0000001 ∷ 0xc0000000 ∷ 0xc0000000 ∷ [])

-- request 2026-08: hall A with holds, in the longer form: after one round, with the label of node 3 as said, and at its end
abbrev held_once : ℕ → List ℕ
held_once label =
    header 0x80000000 0xb0000001 0xb0000002 0xb0000001 0xb0000001 0xb0000008
    ++ (0x90000000 ∷ 0xafffffff ∷ 0x90000004 ∷ 0xa0000000 ∷ 0x9fffffff ∷ 0xafffffff ∷ label ∷ 0xa0000003 ∷ [])
    ++ (0xc0000000 ∷ 0xc0000001 ∷ 0xc0000000 ∷ 0xc0000000 ∷ [])

abbrev held_ended : List ℕ
held_ended =
    header 0x80000001 0xb0000002 0xb0000004 0xb0000002 0xb0000002 0xb000000a
    ++ (0x90000000 ∷ 0xafffffff ∷ 0x90000004 ∷ 0xa0000000 ∷ 0x90000001 ∷ 0xa0000001 ∷ 0x90000013 ∷ 0xa0000003 ∷ [])
    ++ (0xc0000000 ∷ 0xc0000000 ∷ 0xc0000000 ∷ 0xc0000000 ∷ [])

abbrev rows : List Row
rows =
    -- hall A, and the one-node hall
    judge hall_a is accepted
    ∷ judge one_node is accepted
    -- "A to its end, as printed.", and 2026-02: "hall A shows `inner 3 3`"; 2026-07: "hall A prints as before"
    ∷ run hall_a enough_rounds (blank 4) is ended leaving finished_a 0x90000008
    ∷ print hall_a is accepted leaving (
    ascii "ended rounds 3 leaves 5 inner 3 3 updates 13\n"
    ++ ascii "0 0 -\n"
    ++ ascii "1 3 2\n"
    ++ ascii "2 1 1\n"
    ++ ascii "3 8 3\n"
    )
    -- "A, k = 1: paused; counts 1, 2, 2, 8; labels 0, 4, unreached, 9.": one inner region at each of the two heights
    ∷ run hall_a 1 (blank 4) is paused leaving (
    header 0x80000000 0xb0000001 0xb0000002 0xb0000001 0xb0000001 0xb0000008
    ++ (0x90000000 ∷ 0xafffffff ∷ 0x90000004 ∷ 0xa0000000 ∷ 0x9fffffff ∷ 0xafffffff ∷ 0x90000009 ∷ 0xa0000003 ∷ [])
    )
    -- "A, k = 0: paused; counts 0, 0, 0, 6; only node 0 labelled."
    ∷ run hall_a 0 (blank 4) is paused leaving (
    header 0x80000000 0xb0000000 0xb0000000 0xb0000000 0xb0000000 0xb0000006
    ++ (0x90000000 ∷ 0xafffffff ∷ 0x9fffffff ∷ 0xafffffff ∷ 0x9fffffff ∷ 0xafffffff ∷ 0x9fffffff ∷ 0xafffffff ∷ [])
    )
    -- "`10000001 20000000 30000001`: ended, all counts 0."
    ∷ run one_node enough_rounds (blank 1) is ended leaving (
    header 0x80000001 0xb0000000 0xb0000000 0xb0000000 0xb0000000 0xb0000000 ++ (0x90000000 ∷ 0xafffffff ∷ [])
    )
    ∷ print one_node is accepted leaving (ascii "ended rounds 0 leaves 0 inner 0 updates 0\n" ++ ascii "0 0 -\n")
    -- "Without its third word: 14."
    ∷ judge spanless is refused (input 14)
    ∷ run spanless enough_rounds (replicate (table_length 1) 7) is refused (input 14) leaving replicate (table_length 1) 7
    ∷ print spanless is refused (input 14) leaving ascii "refused 14\n"
    -- "Node count 0: 4. 1,024 keeps the limit, 1,025: 4."
    ∷ judge (starting_with 0x10000000) is refused (input 4)
    ∷ judge (starting_with 0x10000400) is accepted
    ∷ judge (starting_with 0x10000401) is refused (input 4)
    -- "Length 262,144: 9. 262,143 keeps the limit."
    ∷ judge (one_arc 0x50040000) is refused (input 9)
    ∷ judge (one_arc 0x5003ffff) is accepted
    -- "A with last word `70001001`: 12." "A with `60000000` added: 13."
    ∷ judge (most_of_hall_a ++ (0x70001001 ∷ [])) is refused (input 12)
    ∷ judge (hall_a ++ (0x60000000 ∷ [])) is refused (input 13)
    -- "Route to node 3 in A: arcs 1, 2, 3." The rest of the buffer stays. "Into two words: 25."
    ∷ read_route hall_a (finished_a 0x90000008) 3 (0 ∷ 0 ∷ 0 ∷ 7 ∷ []) is route 3 leaving (1 ∷ 2 ∷ 3 ∷ 7 ∷ [])
    ∷ read_route hall_a (finished_a 0x90000008) 3 (0 ∷ 7 ∷ []) is refused (state 25) leaving (0 ∷ 7 ∷ [])
    -- "A's finished table with node 3 at 9: 24."
    ∷ read_route hall_a (finished_a 0x90000009) 3 (0 ∷ 0 ∷ 7 ∷ []) is refused (state 24) leaving (0 ∷ 0 ∷ 7 ∷ [])
    -- NOT MARKED in the paper, which lists these two with the marked ones
    -- "Nodes 1 and 2 joined by zero arcs both ways, cut off from the source, in a table that feeds each from the other at 7: 24."
    ∷ read_route cut_off ring 1 (0 ∷ 7 ∷ []) is refused (state 24) leaving (0 ∷ 7 ∷ [])
    -- "Span 0: 6."
    ∷ judge (0x10000001 ∷ 0x20000000 ∷ 0x30000000 ∷ []) is refused (input 6)
    -- 2026-01: "From now on a node may have up to four each way, and five is still 10."
    ∷ print turntable is accepted leaving (
    ascii "ended rounds 3 leaves 12 inner 3 3 updates 53\n"
    ++ ascii "0 0 -\n"
    ++ ascii "1 200 0\n"
    ++ ascii "2 300 1\n"
    ++ ascii "3 400 2\n"
    ++ ascii "4 500 3\n"
    ++ ascii "5 800 7\n"
    ++ ascii "6 1050 8\n"
    ++ ascii "7 1100 9\n"
    ++ ascii "8 1150 10\n"
    ++ ascii "9 1200 11\n"
    )
    ∷ print five_in is refused (input 10) leaving ascii "refused 10\n"
    ∷ print five_out is refused (input 10) leaving ascii "refused 10\n"
    -- 2026-02: "A table is then 37 + 2n words, which is what 21 checks.": one of the old length, one of the new
    ∷ run one_node 0 (replicate 11 7) is refused (state 21) leaving replicate 11 7
    ∷ run one_node 0 (replicate 38 7) is refused (state 21) leaving replicate 38 7
    ∷ run one_node 0 (replicate 40 7) is refused (state 21) leaving replicate 40 7
    ∷ run one_node 0 (replicate 39 7) is ended leaving (
    header 0x80000001 0xb0000000 0xb0000000 0xb0000000 0xb0000000 0xb0000000 ++ (0x90000000 ∷ 0xafffffff ∷ [])
    )
    ∷ read_route one_node (replicate 11 7) 0 (7 ∷ []) is refused (state 21) leaving (7 ∷ [])
    -- the last of the words of kind 11 is looked at too
    ∷ read_route hall_a (finished 0x9000000d 0x90000008) 3 (7 ∷ []) is refused (state 22) leaving (7 ∷ [])
    -- 2026-02: "The listing prints after `inner` one figure for each span in the sheet": from height 1 up
    ∷ print uneven is accepted leaving (
    ascii "ended rounds 1 leaves 2 inner 2 1 1 updates 7\n" ++ ascii "0 0 -\n" ++ ascii "1 1 0\n" ++ ascii "2 1 1\n"
    )
    -- before 2026-02: "ended rounds 3 leaves 5 inner 6 updates 13", and "A, k = 1: paused; counts 1, 2, 2, 8; labels 0, 4, unreached, 9."
    ∷ run_before hall_a enough_rounds is ended leaving (
    0x80000001 ∷ 0xb0000000 ∷ 0xb0000003 ∷ 0xb0000000 ∷ 0xb0000005 ∷ 0xb0000000 ∷ 0xb0000006 ∷ 0xb0000000 ∷ 0xb000000d
    ∷ 0x90000000 ∷ 0xafffffff ∷ 0x90000003 ∷ 0xa0000002 ∷ 0x90000001 ∷ 0xa0000001 ∷ 0x90000008 ∷ 0xa0000003 ∷ []
    )
    ∷ run_before hall_a 1 is paused leaving (
    0x80000000 ∷ 0xb0000000 ∷ 0xb0000001 ∷ 0xb0000000 ∷ 0xb0000002 ∷ 0xb0000000 ∷ 0xb0000002 ∷ 0xb0000000 ∷ 0xb0000008
    ∷ 0x90000000 ∷ 0xafffffff ∷ 0x90000004 ∷ 0xa0000000 ∷ 0x9fffffff ∷ 0xafffffff ∷ 0x90000009 ∷ 0xa0000003 ∷ []
    )
    -- 2026-03: sheets of neither kind. Hall A works 5 leaves where 4 arcs have a reached tail; with spans 1 and 2, and in the uneven hall, they are as many.
    ∷ work hall_a enough_rounds is ended leaving (0 ∷ 0 ∷ 3 ∷ 5 ∷ 4 ∷ [])
    ∷ work ones_below enough_rounds is ended leaving (0 ∷ 0 ∷ 2 ∷ 4 ∷ 4 ∷ [])
    ∷ work uneven enough_rounds is ended leaving (0 ∷ 0 ∷ 1 ∷ 2 ∷ 2 ∷ [])
    -- "where all spans are 1, the leaves worked and the rounds both equal the number of arcs whose tail is reached": at the end, and not after one round
    ∷ work patient enough_rounds is ended leaving (1 ∷ 0 ∷ 4 ∷ 4 ∷ 4 ∷ [])
    ∷ work patient 1 is paused leaving (1 ∷ 0 ∷ 1 ∷ 1 ∷ 3 ∷ [])
    ∷ run patient 1 (blank 4) is paused leaving patient_paused
    -- "where every leaf hangs directly on region 0": 5 of 6 arcs have a reached tail, 5 by twos are 3 rounds
    ∷ work by_twos enough_rounds is ended leaving (0 ∷ 1 ∷ 3 ∷ 5 ∷ 5 ∷ [])
    ∷ work by_twos 2 is paused leaving (0 ∷ 1 ∷ 2 ∷ 4 ∷ 5 ∷ [])
    ∷ run by_twos enough_rounds (blank 5) is ended leaving by_twos_ended
    -- no arc at all
    ∷ work one_node enough_rounds is ended leaving (1 ∷ 1 ∷ 0 ∷ 0 ∷ 0 ∷ [])
    -- 2026-04: "It fills the front of a lent byte buffer, the rest stays, and its byte length is returned."
    ∷ copy hall_a (replicate 74 7) is written 72 leaving (bytes_of neat_hall_a ++ (7 ∷ 7 ∷ []))
    ∷ copy renumbered (replicate 72 7) is written 72 leaving bytes_of neat_hall_a
    ∷ copy one_node (replicate 13 7) is written 12 leaving (bytes_of one_node ++ (7 ∷ []))
    -- "31, output buffer shorter than what is to be written, after 14"
    ∷ copy hall_a (replicate 71 7) is refused (input 31) leaving replicate 71 7
    ∷ copy one_node [] is refused (input 31)
    ∷ copy spanless (7 ∷ []) is refused (input 14) leaving (7 ∷ [])
    -- "the same nesting under other region numbers": another table, with the distances of hall A
    ∷ print renumbered is accepted leaving (
    ascii "ended rounds 2 leaves 4 inner 2 2 updates 10\n"
    ++ ascii "0 0 -\n"
    ++ ascii "1 3 2\n"
    ++ ascii "2 1 1\n"
    ++ ascii "3 8 3\n"
    )
    -- 2026-06: "after the usual words, one per arc, kind 12, payload 1 if the arc's leaf has a key, else 0": hall A at its end, after one round, at the start
    ∷ run hall_a enough_rounds (blank_long 4 4) is ended leaving ended_a 0xb0000003 0xb0000003
    ∷ run hall_a 1 (blank_long 4 4) is paused leaving paused_a
    ∷ run hall_a 0 (blank_long 4 4) is paused leaving (
    header 0x80000000 0xb0000000 0xb0000000 0xb0000000 0xb0000000 0xb0000006
    ++ (0x90000000 ∷ 0xafffffff ∷ 0x9fffffff ∷ 0xafffffff ∷ 0x9fffffff ∷ 0xafffffff ∷ 0x9fffffff ∷ 0xafffffff ∷ [])
    ++ (0xc0000001 ∷ 0xc0000001 ∷ 0xc0000000 ∷ 0xc0000000 ∷ [])
    )
    -- "21 then means neither form"
    ∷ run hall_a 1 (replicate 48 7) is refused (state 21) leaving replicate 48 7
    -- "the route reader takes either, a key word above 1 being 22"
    ∷ read_route hall_a (ended_a 0xb0000003 0xb0000003) 3 (0 ∷ 0 ∷ 0 ∷ 7 ∷ []) is route 3 leaving (1 ∷ 2 ∷ 3 ∷ 7 ∷ [])
    ∷ read_route hall_a (finished_a 0x90000008 ++ (0xc0000000 ∷ 0xc0000000 ∷ 0xc0000000 ∷ 0xc0000002 ∷ [])) 3 (7 ∷ []) is refused (state 22) leaving (7 ∷ [])
    -- "Going on": the rest of hall A, and the rest with a span of 1 at both heights; an ended table stays
    ∷ resume hall_a enough_rounds paused_a is ended leaving ended_a 0xb0000003 0xb0000003
    ∷ resume patient enough_rounds paused_a is ended leaving ended_a 0xb0000004 0xb0000004
    ∷ resume hall_a 0 paused_a is paused leaving paused_a
    ∷ resume patient 1 (ended_a 0xb0000003 0xb0000003) is ended leaving ended_a 0xb0000003 0xb0000003
    -- 14, "32, table not of the longer length", 33: it says that it has ended, and a leaf has a key
    ∷ resume spanless 1 (replicate (table_length 1) 7) is refused (input 14) leaving replicate (table_length 1) 7
    ∷ resume hall_a 1 usual_a is refused (state 32) leaving usual_a
    ∷ resume hall_a 1 (set paused_a 0 0x80000001) is refused (state 33) leaving set paused_a 0 0x80000001
    -- 2026-07: "The choice among equal keys goes to the region of lower height": the first round works leaf 5, arc 3, and not region 1,
    -- in a run and gone on from the start
    ∷ run shallow_first 1 (blank_long 4 5) is paused leaving shallow_once
    ∷ resume shallow_first 1 (
    header 0x80000000 0xb0000000 0xb0000000 0xb0000000 0xb0000000 0xb0000005
    ++ (0x90000000 ∷ 0xafffffff ∷ 0x9fffffff ∷ 0xafffffff ∷ 0x9fffffff ∷ 0xafffffff ∷ 0x9fffffff ∷ 0xafffffff ∷ [])
    ++ (0xc0000001 ∷ 0xc0000000 ∷ 0xc0000000 ∷ 0xc0000001 ∷ 0xc0000000 ∷ [])
    ) is paused leaving shallow_once
    -- by the rule of before, as tests/samples.py has it: rounds 4, leaves 6, inner 2 4, updates 14, and node 3 fed by arc 4
    ∷ print shallow_first is accepted leaving (
    ascii "ended rounds 3 leaves 5 inner 1 3 updates 11\n"
    ++ ascii "0 0 -\n"
    ++ ascii "1 200 0\n"
    ++ ascii "2 500 3\n"
    ++ ascii "3 700 2\n"
    )
    -- 2026-08: hall A with holds 100, 10, 3 and 7. "A route's length is its arcs plus the hold of each node between its ends; the source's own hold is never
    -- charged."
    ∷ print held_a is accepted leaving (
    ascii "ended rounds 2 leaves 4 inner 2 2 updates 10\n"
    ++ ascii "0 0 -\n"
    ++ ascii "1 4 0\n"
    ++ ascii "2 1 1\n"
    ++ ascii "3 19 3\n"
    )
    ∷ run held_a enough_rounds (blank_long 4 4) is ended leaving held_ended
    ∷ run held_a 1 (blank_long 4 4) is paused leaving held_once 0x90000013
    -- "Shortest means shortest in this sense, for the route reader": the routes of the hall with holds are not those of hall A, and the other way about
    ∷ read_route held_a held_ended 3 (0 ∷ 0 ∷ 7 ∷ []) is route 2 leaving (0 ∷ 3 ∷ 7 ∷ [])
    ∷ read_route held_a (finished_a 0x90000008) 3 (7 ∷ []) is refused (state 24) leaving (7 ∷ [])
    ∷ read_route hall_a held_ended 3 (7 ∷ []) is refused (state 24) leaving (7 ∷ [])
    -- "and for going on as well, whose test of a possible state adds the same to an arc's length too": node 3 one below its feeder's label, hold and length
    ∷ resume held_a enough_rounds (held_once 0x90000013) is ended leaving held_ended
    ∷ resume held_a 1 (held_once 0x90000012) is refused (state 33) leaving held_once 0x90000012
    -- "The neat copy carries the holds."
    ∷ copy held_a (replicate 88 7) is written 88 leaving (
    bytes_of (take 8 held_a ++ drop 4 neat_hall_a)
    )
    -- "A number of hold words other than 0 or the payload of kind 1 is 2.", "34, a tail's hold (0 for the source) plus the arc's length above 262,143"
    ∷ print (hall_awith (0xd0000000 ∷ 0xd0000000 ∷ 0xd0000000 ∷ [])) is refused (input 2) leaving ascii "refused 2\n"
    ∷ print (and_back 262140 0 4 0) is refused (input 34) leaving ascii "refused 34\n"
    ∷ judge (and_back 262140 4 3 4) is accepted
    -- 2026-09: "Sheets that draw one are refused", "35, an arc from a node to itself", in every call
    ∷ judge one_self_arc is refused (input 35)
    ∷ run one_self_arc enough_rounds (replicate (table_length 1) 7) is refused (input 35) leaving replicate (table_length 1) 7
    ∷ read_route one_self_arc (replicate (table_length 1) 7) 0 (7 ∷ []) is refused (input 35) leaving (7 ∷ [])
    ∷ copy one_self_arc (7 ∷ []) is refused (input 35) leaving (7 ∷ [])
    ∷ resume one_self_arc 1 (replicate (long_length 1 1) 7) is refused (input 35) leaving replicate (long_length 1 1) 7
    ∷ print one_self_arc is refused (input 35) leaving ascii "refused 35\n"
    -- "A converter takes a sheet at fault in nothing else, drops those arcs and their leaves", "Its byte length is returned; the rest of the output buffer
    -- stays; a short one is 31."
    ∷ convert one_self_arc (replicate 14 7) is written 12 leaving (bytes_of one_node ++ (7 ∷ 7 ∷ []))
    ∷ convert one_self_arc (replicate 11 7) is refused (input 31) leaving replicate 11 7
    ∷ convert hall_a (replicate 72 7) is written 72 leaving bytes_of hall_a
    -- two arcs go, and two regions one after the other: arcs and regions have the numbers of hall A; with the holds of hall A, which stay
    ∷ convert (recirculating []) (replicate 91 7) is written 72 leaving (bytes_of hall_a ++ replicate 19 7)
    ∷ convert (recirculating (take 4 (drop 4 held_a))) (replicate 88 7) is written 88 leaving bytes_of held_a
    -- and one at fault in something else, an arc without a leaf: 12, which the judge looks at after 35
    ∷ convert leafless (7 ∷ []) is refused (input 12) leaving (7 ∷ [])
    ∷ judge leafless is refused (input 35)
    -- what the program writes
    ∷ write_converted one_self_arc is accepted leaving bytes_of one_node
    ∷ write_converted leafless is refused (input 12) leaving ascii "refused 12\n"
    -- 2026-10: hall A with arc 1 at 4 in place of 1: "the same nodes are reached, no distance moves by more than the change", and node 2 moves by as much;
    -- "lengthening the arc brings no distance down". Nodes 1 and 3 have another route
    ∷ print slowed_a is accepted leaving (
    ascii "ended rounds 2 leaves 4 inner 2 2 updates 10\n"
    ++ ascii "0 0 -\n"
    ++ ascii "1 4 0\n"
    ++ ascii "2 4 1\n"
    ++ ascii "3 9 3\n"
    )
    -- two arcs that leave different nodes, each longer by 1: node 3 moves by 2
    ∷ print twice_slowed_a is accepted leaving (
    ascii "ended rounds 2 leaves 4 inner 2 2 updates 10\n"
    ++ ascii "0 0 -\n"
    ++ ascii "1 4 0\n"
    ++ ascii "2 1 1\n"
    ++ ascii "3 10 3\n"
    )
    -- "The same is wanted for a single changed hold.": that of node 1 at 16 in place of 10, that of the source at 0 in place of 100, and a first one, of 10
    ∷ print slow_scanner_a is accepted leaving (
    ascii "ended rounds 2 leaves 4 inner 2 2 updates 10\n"
    ++ ascii "0 0 -\n"
    ++ ascii "1 4 0\n"
    ++ ascii "2 1 1\n"
    ++ ascii "3 25 3\n"
    )
    ∷ run free_source_a enough_rounds (blank_long 4 4) is ended leaving held_ended
    ∷ print first_scanner_a is accepted leaving (
    ascii "ended rounds 3 leaves 5 inner 3 3 updates 13\n"
    ++ ascii "0 0 -\n"
    ++ ascii "1 3 2\n"
    ++ ascii "2 1 1\n"
    ++ ascii "3 18 3\n"
    )
    -- nothing is said of paused tables: hall A with both spans 1 after three rounds, and the same with arc 1 at 4, in which node 3 is reached by then
    ∷ run patient 3 (blank 4) is paused leaving (
    header 0x80000000 0xb0000003 0xb0000003 0xb0000003 0xb0000003 0xb000000d
    ++ (0x90000000 ∷ 0xafffffff ∷ 0x90000003 ∷ 0xa0000002 ∷ 0x90000001 ∷ 0xa0000001 ∷ 0x9fffffff ∷ 0xafffffff ∷ [])
    )
    ∷ run (set patient 7 0x50000004) 3 (blank 4) is paused leaving (
    header 0x80000000 0xb0000003 0xb0000003 0xb0000003 0xb0000003 0xb000000a
    ++ (0x90000000 ∷ 0xafffffff ∷ 0x90000004 ∷ 0xa0000000 ∷ 0x90000004 ∷ 0xa0000001 ∷ 0x90000009 ∷ 0xa0000003 ∷ [])
    )
    ∷ []

-- Where ties decide (2026-04): hall A and the same nesting under other numbers, and both with arc 0 shortened, all accepted; how many rounds the first two
-- take, and which arc feeds node 1 in the others.
pub record Ties : Type 0 where
  pub hall_a_accepted : Accepted (bytes_of hall_a)
  pub renumbered_accepted : Accepted (bytes_of renumbered)
  pub tied_accepted : Accepted (bytes_of tied)
  pub tied_renumbered_accepted : Accepted (bytes_of tied_renumbered)
  pub rounds : rounds_in (run_table (bytes_of hall_a) enough_rounds) ≡ 3
  pub rounds_renumbered : rounds_in (run_table (bytes_of renumbered) enough_rounds) ≡ 2
  pub feeding : predecessor_in (run_table (bytes_of tied) enough_rounds) 1 ≡ 0
  pub feeding_renumbered : predecessor_in (run_table (bytes_of tied_renumbered) enough_rounds) 1 ≡ 2

-- all of it is computed
record Computed : Type 0 where
  each_row : map (λ row. outcome row.task) rows ≡ map (λ row. row.expected) rows
  tied_halls : Ties

computed : Computed
unfolding any count lead most up_to times column word kind payload top kind_from arcs_from region_words tail head arc_length hold charged taken_length height_in
    height_of leaf_word parent_word arc_word judgement_by refusals_by form_refusals count_refusals arc_refusals division_refusals wrong_size wrong_sections
    wrong_holds
    out_of_order bit_set nodes_outside source_outside spans_outside too_many ends_outside lengths_outside holds_outside crowded_nodes too_many_at_node
    self_arc self_arcs
    wrong_parents wrong_leaves childless_regions spans_differ leaf_of graph_of division_of spans_of before choose min_item_below min_item min_key write
    update_for update
    update_arc update_outgoing relax clear_key process_leaf rewrite_key count_at count_inner count_inner_before count_round process_child alive hasEnded start
    process_for_by process_by round_by after_by node_words table_of key_words is_usual is_long wrong_length run_answer run_table long_run_table filled_table
    table_after
    table_before all labels_in predecessors_in followed leads_back source_test unfed_test fed_by relaxed_test led_test settled? node_outside wrong_node
    wrong_keys
    is_paused malformed not_shortest table_refusals route_to found_route route_answer left_by buffer_after last_digits decimal cell spaced status counted
    levels inner
    status_line node_line node_lines listing_of refused_line printed all_spans_one leaves_on_root reached_arcs least sooner ancestor holds lowest_arc path_for
    path
    new_number old_number new_word front_words new_words canonical canonical_answer out_after selected left_after left new_arc kept_leaf kept_region
    new_region arc_pair
    converted_arcs renumberedWord converted_regions new_height converted_spans converted_holds converted_words converted convert_answer convert_out
    converted_text
    long_table has_key own_in keys_of state_in bound_test keyless_test done_test sound_test counts_test status_test possible? not_long not_possible resumed
    resumed_table
    resume_answer resume_table
computed = record {
  each_row = refl;
  tied_halls = record {
    hall_a_accepted = record { judged = refl };
    renumbered_accepted = record { judged = refl };
    tied_accepted = record { judged = refl };
    tied_renumbered_accepted = record { judged = refl };
    rounds = refl;
    rounds_renumbered = refl;
    feeding = refl;
    feeding_renumbered = refl;
  };
}

pub marked : map (λ row. outcome row.task) rows ≡ map (λ row. row.expected) rows
marked = computed.each_row

pub ties : Ties
ties = computed.tied_halls
