-- What a run of a sheet answers, what it leaves in the table, and what holds of every table that it leaves. Definitions.
use Rattle.std.specs.Prelude.{ℕ, ◌+◌, ◌^◌, ◌≤◌, ◌<◌, Bool, ◌≡◌, ◌⊎◌, List, [], ◌∷◌, ◌++◌, if◌then◌else◌}
use Rattle.indices.specs.Columns.{at}
use Rattle.sheet.specs.Limits.{most_spans}
use Rattle.sheet.specs.Sections.{node_count, span_count, arc_count}
use Rattle.sheet.specs.Words.{top}
use Rattle.answer.specs.Answer.{state, Answer, ◌when◌, is_refused}
use Rattle.judgement.specs.Judgement.{refusals}
use Rattle.procedure.specs.OfSheet.{graph_of, division_of, spans_of}
use Rattle.procedure.specs.State.{State, counts}
use Rattle.procedure.specs.Procedure.{ended as hasEnded, after}
use Rattle.procedure.specs.Table.{largest_label, table_of, key_word, key_words, inner_place, updates_place, counts_length}
use Rattle.procedure.specs.Travel.{ShortestFor}
use Rattle.calls.specs.Calls.{Call, call_answer, lent_after}
use Rattle.calls.specs.Tables.{is_long, wrong_length, status_says, status_in, count_in, label_in, key_place, labels_in, predecessors_in}
use Rattle.calls.specs.Work.{Work}

-- "A run limited to k rounds stops after k rounds or when it has ended, whichever comes first". The run to its end is the run limited to 2^56 rounds.
abbrev pub state_after : List ℕ → ℕ → State
state_after b k = after (graph_of b) (division_of b) (spans_of b) k

abbrev pub ended_after : List ℕ → ℕ → Bool
ended_after b k = hasEnded (graph_of b) (division_of b) (state_after b k)

-- the table of the state after at most k rounds
unfoldable pub run_table : List ℕ → ℕ → List ℕ
run_table b k = let s = state_after b k in table_of (ended_after b k) (counts s) s.labels s.predecessors (node_count b)

-- 2026-06: the longer table, "after the usual words, one per arc"
unfoldable pub long_run_table : List ℕ → ℕ → List ℕ
long_run_table b k = run_table b k ++ key_words (state_after b k).queues.own (arc_count b)

-- "Both runs fill it when the lent table has that length"
unfoldable pub filled_table : List ℕ → ℕ → List ℕ → List ℕ
filled_table b k table = if is_long b table then long_run_table b k else run_table b k

-- after those of the sheet a run looks at 21: "Only 21 can come from a run." "a run answers 'ended' or 'paused' as its table says". The table lent is the one
-- of the run, in the form whose length it has; of a refusal, "Nothing lent changes."
abbrev pub run_call : List ℕ → ℕ → List ℕ → Call
run_call b k table = record {
  later = state 21 when wrong_length b table ∷ [];
  good = status_says (status_in (run_table b k));
  leaves = λ answer. let made = filled_table b k table in if is_refused answer then table else made;
}

unfoldable pub run_answer : List ℕ → ℕ → List ℕ → Answer
run_answer b k table = call_answer (refusals b) (run_call b k table)

-- the table at exit
unfoldable pub table_after : List ℕ → ℕ → List ℕ → List ℕ
table_after b k table = lent_after (refusals b) (run_call b k table)

-- What holds of a table that a run of at most k rounds leaves, read off its words. Demand 3: a limited run's table is what those same rounds have reached
-- when it stops, in status, counts, labels and feeding arcs; after any number of rounds every count is below 2^56; in every table left as ended the labels
-- and feeding arcs are shortest, a route being as long as request 2026-08 says.
pub record Delivered (b : List ℕ) (k : ℕ) (table : List ℕ) : Type 0 where
  pub status : status_in table ≡ (if ended_after b k then 1 else 0)
  pub halves : (i : ℕ) → i < counts_length → count_in table i ≡ at (counts (state_after b k)) i
  -- 2026-02: "The comparison with the published procedure is made level by level.": entry i is for height i + 1; updates stand after all heights
  pub levels : (i : ℕ) → i < most_spans → count_in table (inner_place + i) ≡ at (state_after b k).inner i
  pub updates : count_in table updates_place ≡ (state_after b k).queues.updates
  pub labels : labels_in (node_count b) table ≡ (state_after b k).labels
  pub predecessors : predecessors_in (node_count b) table ≡ (state_after b k).predecessors
  pub small : (i : ℕ) → i < counts_length → at (counts (state_after b k)) i < 2 ^ 56
  -- 2026-02: "zero where unused": the count of each height above the number of spans, which is region 0's height
  pub unused : (i : ℕ) → span_count b ≤ i → i < most_spans → count_in table (inner_place + i) ≡ 0
  -- "The largest label is 1,023 × 262,143", but for 'unreached'
  pub bounded : (v : ℕ) → v < node_count b → (label_in table v ≡ top) ⊎ (label_in table v ≤ largest_label)
  pub shortest : status_in table ≡ 1 → ShortestFor b (labels_in (node_count b) table) (predecessors_in (node_count b) table)
  -- 2026-03: "How much work the patient candidate does.", and the one whose leaves all hang on region 0, where the table is left as ended
  pub work : Work b table

-- 2026-06: what holds of a longer table that such a run leaves: all of the above, and behind it for each arc a word of "kind 12, payload 1 if the arc's leaf has
-- a key, else 0"
pub record DeliveredLong (b : List ℕ) (k : ℕ) (table : List ℕ) : Type 0 where
  pub usual : Delivered b k table
  pub keys : (a : ℕ) → a < arc_count b → at table (key_place (node_count b) a) ≡ key_word (at (state_after b k).queues.own a)
