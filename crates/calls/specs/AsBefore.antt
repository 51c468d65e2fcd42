-- What requests leave as it was before them, one by one: all else is today's on both sides, the choice among equal keys (2026-07) and 35
-- (2026-09) too. Definitions.
use Rattle.std.specs.Prelude.{ℕ, ◌+◌, ◌*◌, true, false, not, ◌≡◌, List, [], ◌∷◌, ◌++◌, length, drop, if◌then◌else◌}
use Rattle.indices.specs.Columns.{at}
use Rattle.indices.specs.Tests.{total}
use Rattle.sheet.specs.Limits.{most_bytes_before, most_spans, most_arcs_each_way}
use Rattle.sheet.specs.Sections.{node_count, span_count, arcs_at, arc_count, region_words}
use Rattle.sheet.specs.Arcs.{arc_length}
use Rattle.answer.specs.Answer.{Refusal, input, state, Answer, accepted, refused, Case, ◌when◌, is_refused, lowest}
use Rattle.judgement.specs.Form.{wrong_size_under, wrong_size, wrong_sections, bit_set}
use Rattle.judgement.specs.Arcs.{ends_outside, lengths_outside, holds_outside, too_many_at_node, self_arcs}
use Rattle.judgement.specs.Judgement.{form_refusals, count_refusals, division_refusals, refusals_under, judgement_under, judgement_by, judgement}
use Rattle.judgement.specs.Judgement.{other_refusals, Accepted}
use Rattle.procedure.specs.Graph.{Graph}
use Rattle.procedure.specs.OfSheet.{graph_with, graph_of, division_of, spans_of}
use Rattle.procedure.specs.State.{State, counts}
use Rattle.procedure.specs.Procedure.{ended, count_inner_before, after_by, after, more}
use Rattle.procedure.specs.Table.{inner_place, updates_place, header_length, table_of, key_words}
use Rattle.procedure.specs.Travel.{sum_over, travel_time}
use Rattle.theory_shortest.specs.TableTest.{settled?}
use Rattle.calls.specs.Calls.{Call, call_answer, lent_after}
use Rattle.calls.specs.Tables.{is_long, wrong_length, status_says, status_in, count_in, labels_in, predecessors_in}
use Rattle.calls.specs.Runs.{run_table, run_call, run_answer, table_after}
use Rattle.calls.specs.Routes.{node_outside, malformed, is_paused, found_route, left_by, route_call, route_answer, buffer_after}
use Rattle.calls.specs.Canonical.{canonical_call, canonical_answer, out_after}
use Rattle.calls.specs.LongTables.{long_table, state_in}
use Rattle.calls.specs.Possible.{possible?}
use Rattle.calls.specs.Resume.{not_long, resume_call, resume_answer, resume_table}

-- 2026-01: "Every sheet accepted before gets the same table as before".
-- Whether a node may have `few` arcs each way or `most`, the sheet is judged alike, and every call on it, whatever is lent to it, has the same answer and
-- leaves the same words. The limit stands in the refusals of the sheet alone: what else a call is made of does not take it.
pub record SameUnder (few most : ℕ) (b : List ℕ) : Type 0 where
  pub judged : judgement_under most b ≡ judgement_under few b
  pub answers : (call : Call) → call_answer (refusals_under most b) call ≡ call_answer (refusals_under few b) call
  pub words : (call : Call) → lent_after (refusals_under most b) call ≡ lent_after (refusals_under few b) call

-- 2026-02: "The table's inner count gives way to fifteen". The state after at most k rounds of the procedure with one count for all inner regions, as it was,
abbrev pub state_before : List ℕ → ℕ → State
state_before b k = let g = graph_of b in let d = division_of b in after_by g d (count_inner_before g d) (spans_of b) k

-- "the four counts",
abbrev pub counts_before : State → List ℕ
counts_before s = s.rounds ∷ s.leaves ∷ at s.inner 0 ∷ s.queues.updates ∷ []

-- and the table that a run left: status, the four counts, and the nodes
unfoldable pub table_before : List ℕ → ℕ → List ℕ
table_before b k =
    let s = state_before b k in table_of (ended (graph_of b) (division_of b) s) (counts_before s) s.labels s.predecessors (node_count b)

-- How the old table of a run of at most k rounds reads beside today's: the fifteen add up to the single count, and all else stays.
pub record AddsUp (b : List ℕ) (k : ℕ) : Type 0 where
  -- "Lent 32-bit words, exactly 9 + 2n."
  pub long : length (table_before b k) ≡ 9 + 2 * node_count b
  pub status : at (table_before b k) 0 ≡ at (run_table b k) 0
  pub rounds : count_in (table_before b k) 0 ≡ count_in (run_table b k) 0
  pub leaves : count_in (table_before b k) 1 ≡ count_in (run_table b k) 1
  pub inner : count_in (table_before b k) 2 ≡ total (λ i. count_in (run_table b k) (inner_place + i)) most_spans
  pub updates : count_in (table_before b k) 3 ≡ count_in (run_table b k) updates_place
  -- "Then per node a kind 9 word, its label, and a kind 10 word, its feeding arc."
  pub nodes : drop 9 (table_before b k) ≡ drop header_length (run_table b k)

-- 2026-08: "or none": a sheet without holds. Its refusals before the request: another limit of bytes, 2 by the order of the sections alone, and no 34.
unfoldable pub refusals_unheld : List ℕ → List Case
refusals_unheld b =
    (input 1 when wrong_size_under most_bytes_before b ∷ input 2 when wrong_sections b ∷ input 3 when bit_set b ∷ [])
    ++ (count_refusals b
    ++ ((input 8 when ends_outside b ∷ input 9 when lengths_outside b ∷ input 10 when too_many_at_node most_arcs_each_way b ∷ input 35 when self_arcs b ∷ [])
    ++ division_refusals (region_words b) (arc_count b) (span_count b)))

-- the graph before it: an arc's length is the one that is written
abbrev pub graph_unheld : List ℕ → Graph
graph_unheld b = graph_with (arc_length b) b

-- and what is made of the graph by the calls that work on it. Today's calls are these on `graph_of b`: `run_on`, `route_on` and `resume_on`,
-- crates/theory_calls/proofs/WithoutHolds.antt.
module _ (g : Graph) (b : List ℕ) where
  abbrev pub run_table_on : ℕ → List ℕ
  run_table_on k =
      let s = after g (division_of b) (spans_of b) k in
      table_of (ended g (division_of b) s) (counts s) s.labels s.predecessors (node_count b)

  abbrev pub run_call_on : ℕ → List ℕ → Call
  run_call_on k table =
      let keys = key_words (after g (division_of b) (spans_of b) k).queues.own (arc_count b) in
      let made = if is_long b table then run_table_on k ++ keys else run_table_on k in record {
        later = state 21 when wrong_length b table ∷ [];
        good = status_says (status_in (run_table_on k));
        leaves = λ answer. if is_refused answer then table else made;
      }

  -- the chain of feeding arcs does not look at lengths
  abbrev pub route_call_on : List ℕ → ℕ → List ℕ → Call
  route_call_on table node buffer = record {
    later = input 15 when node_outside b node ∷ state 21 when wrong_length b table ∷ state 22 when malformed b table ∷ state 23 when is_paused table
        ∷ state 24 when not (settled? g (labels_in (node_count b) table) (predecessors_in (node_count b) table)) ∷ [];
    good = found_route b table node buffer;
    leaves = λ answer. left_by b table answer node buffer;
  }

  abbrev pub resume_call_on : List ℕ → ℕ → Call
  resume_call_on table k =
      let made = long_table g (division_of b) (more g (division_of b) (spans_of b) k (state_in g (division_of b) table)) in record {
        later = state 32 when not_long b table ∷ state 33 when not (possible? g (span_count b) table) ∷ [];
        good = status_says (status_in made);
        leaves = λ answer. if is_refused answer then table else made;
      }

-- a call before the request: its answer, and what it left
module _ (b : List ℕ) (call : Call) where
  abbrev pub answer_unheld : Answer
  answer_unheld = call_answer (refusals_unheld b) call

  abbrev pub left_unheld : List ℕ
  left_unheld = lent_after (refusals_unheld b) call

-- What is claimed of a sheet without holds whose byte count both limits refuse, or neither does: every call on it answers and leaves what it did before.
pub record SameUnheld (b : List ℕ) : Type 0 where
  pub judged : judgement b ≡ lowest (refusals_unheld b) accepted
  pub runs : (k : ℕ) (table : List ℕ) → let call = run_call_on (graph_unheld b) b k table in
      (run_answer b k table ≡ answer_unheld b call) × (table_after b k table ≡ left_unheld b call)
  pub routes : (table : List ℕ) (node : ℕ) (buffer : List ℕ) → let call = route_call_on (graph_unheld b) b table node buffer in
      (route_answer b table node buffer ≡ answer_unheld b call) × (buffer_after b table node buffer ≡ left_unheld b call)
  pub resumes : (table : List ℕ) (k : ℕ) → let call = resume_call_on (graph_unheld b) b table k in
      (resume_answer b table k ≡ answer_unheld b call) × (resume_table b table k ≡ left_unheld b call)
  pub copies : (out : List ℕ) → let call = canonical_call b out in
      (canonical_answer b out ≡ answer_unheld b call) × (out_after b out ≡ left_unheld b call)

-- and of every sheet without holds
pub record Unheld (b : List ℕ) : Type 0 where
  -- its arcs stand right after the spans, so each word is read as what it was read as before
  pub place : arcs_at b ≡ 2 + span_count b
  -- "its length is the sum of its arcs' lengths. Passing a node takes no time."
  pub lengths : (way : List ℕ) → travel_time b way ≡ sum_over (arc_length b) way
  pub same : wrong_size b ≡ wrong_size_under most_bytes_before b → SameUnheld b
  -- whose byte count the old limit alone refuses: it was refused as 1, and is not accepted now, since it has too many words of some kind
  pub between : wrong_size b ≡ false → wrong_size_under most_bytes_before b ≡ true → (lowest (refusals_unheld b) accepted ≡ refused (input 1)) × (Accepted b → ⊥)

-- 2026-09: "Sheets that draw one are refused". What the calls but the converter answer and leave, where the refusals of the sheet itself are these.
pub record CallsBy (own : List Case) (b : List ℕ) : Type 0 where
  pub judged : judgement b ≡ lowest own accepted
  pub runs : (k : ℕ) (table : List ℕ) → let call = run_call b k table in
      (run_answer b k table ≡ call_answer own call) × (table_after b k table ≡ lent_after own call)
  pub routes : (table : List ℕ) (node : ℕ) (buffer : List ℕ) → let call = route_call b table node buffer in
      (route_answer b table node buffer ≡ call_answer own call) × (buffer_after b table node buffer ≡ lent_after own call)
  pub resumes : (table : List ℕ) (k : ℕ) → let call = resume_call b table k in
      (resume_answer b table k ≡ call_answer own call) × (resume_table b table k ≡ lent_after own call)
  pub copies : (out : List ℕ) → let call = canonical_call b out in (canonical_answer b out ≡ call_answer own call) × (out_after b out ≡ lent_after own call)

-- each of them is refused with r, and leaves what was lent
abbrev pub AllRefused : Refusal → List ℕ → Type 0
AllRefused r b = CallsBy (r when true ∷ []) b

-- the refusals that are looked at before 35: 1 to 10, and 34
unfoldable pub refusals_to10 : List ℕ → List Case
refusals_to10 b =
    form_refusals b
    ++ (count_refusals b
    ++ (input 8 when ends_outside b ∷ input 9 when lengths_outside b ∷ input 34 when holds_outside b ∷ input 10 when too_many_at_node most_arcs_each_way b ∷ []))

-- "35, an arc from a node to itself, after 10.": what is claimed of every sheet
pub record Retired (b : List ℕ) : Type 0 where
  -- where one of 1 to 10, or 34, applies: every call is refused as before
  pub earlier : (r : Refusal) → lowest (refusals_to10 b) accepted ≡ refused r → AllRefused r b × (judgement_by false b ≡ refused r)
  -- where none of them does and a self-arc is drawn: every call is refused as 35, whatever 11 to 14 say
  pub drawn : lowest (refusals_to10 b) accepted ≡ accepted → self_arcs b ≡ true → AllRefused (input 35) b
  -- where none is drawn: the sheet is judged as before, and every call on it, whatever is lent, answers and leaves the same
  pub none_drawn : self_arcs b ≡ false → CallsBy (other_refusals b) b
