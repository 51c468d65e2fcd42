-- What resuming (request 2026-06, "going on") answers, what it leaves in the table, and what its answer says of the table. Definitions.
use Rattle.std.specs.Prelude.{ℕ, ◌^◌, ◌<◌, Bool, false, not, ◌||◌, ◌≡◌, List, [], ◌∷◌, if◌then◌else◌}
use Rattle.indices.specs.Columns.{at}
use Rattle.sheet.specs.Sections.{span_count}
use Rattle.answer.specs.Answer.{state, Answer, refused, ◌when◌, is_refused}
use Rattle.judgement.specs.Judgement.{refusals}
use Rattle.procedure.specs.OfSheet.{graph_of, division_of, spans_of}
use Rattle.procedure.specs.State.{State, counts}
use Rattle.procedure.specs.Procedure.{ended as hasEnded, more}
use Rattle.procedure.specs.Travel.{ShortestFor}
use Rattle.procedure.specs.Table.{counts_length}
use Rattle.calls.specs.Calls.{Call, call_answer, lent_after}
use Rattle.calls.specs.Tables.{is_long, status_says, status_in, count_in}
use Rattle.calls.specs.Routes.{malformed}
use Rattle.calls.specs.LongTables.{long_table, state_in}
use Rattle.calls.specs.Possible.{table_labels, table_predecessors, Possible, possible?}

module _ (b table : List ℕ) where
  -- "32, table not of the longer length or at fault as in 22"
  unfoldable pub not_long : Bool
  not_long = not (is_long b table) || malformed b table

  -- "33, not a possible state"
  unfoldable pub not_possible : Bool
  not_possible = not (possible? (graph_of b) (span_count b) table)

  -- "Going on takes such a table, the sheet with the same nodes, source, arcs and division but possibly other spans, and k more rounds". "The rounds are the
  -- procedure's": up to k more, with the sheet's spans, from the state that the table stands for
  unfoldable pub resumed : ℕ → State
  resumed k = more (graph_of b) (division_of b) (spans_of b) k (state_in (graph_of b) (division_of b) table)

  unfoldable pub resumed_table : ℕ → List ℕ
  resumed_table k = long_table (graph_of b) (division_of b) (resumed k)

  -- after the refusals of the sheet: "32, [..] in the place of 21 and 22; 33, [..] after 32". It "writes the new state over the old and answers as a run
  -- does"; of a refusal, "Nothing lent changes."
  abbrev pub resume_call : ℕ → Call
  resume_call k = record {
    later = state 32 when not_long ∷ state 33 when not_possible ∷ [];
    good = status_says (status_in (resumed_table k));
    leaves = λ answer. let made = resumed_table k in if is_refused answer then table else made;
  }

  unfoldable pub resume_answer : ℕ → Answer
  resume_answer k = call_answer (refusals b) (resume_call k)

  -- the table at exit
  unfoldable pub resume_table : ℕ → List ℕ
  resume_table k = lent_after (refusals b) (resume_call k)

-- What an answer says of the table: 33, that it is no possible state; 'ended' and 'paused', that it is one.
pub record StateKnown (b table : List ℕ) (answer : Answer) : Type 0 where
  pub wrong : answer ≡ refused (state 33) → Possible (graph_of b) (span_count b) table → ⊥
  pub right : is_refused answer ≡ false → Possible (graph_of b) (span_count b) table

-- "the final distances shortest": of a table that says that it has ended. 2026-08: "Shortest means shortest in this sense, for the route reader and for going
-- on as well"
abbrev pub EndedShortest : List ℕ → List ℕ → Type 0
EndedShortest b table = status_in table ≡ 1 → ShortestFor b (table_labels (graph_of b) table) (table_predecessors (graph_of b) table)

-- What holds of the table that k rounds more leave, whatever the counts of the table that was let in: it stands for the state that they reach, its status says
-- whether this has ended, each count is below 2^56 and told by its two halves; and where the table is left as ended its labels and predecessors are shortest.
pub record Carried (b table : List ℕ) (k : ℕ) : Type 0 where
  pub status : status_in (resume_table b table k) ≡ (if hasEnded (graph_of b) (division_of b) (resumed b table k) then 1 else 0)
  pub state_left : state_in (graph_of b) (division_of b) (resume_table b table k) ≡ resumed b table k
  pub small : (i : ℕ) → i < counts_length → at (counts (resumed b table k)) i < 2 ^ 56
  pub halves : (i : ℕ) → i < counts_length → count_in (resume_table b table k) i ≡ at (counts (resumed b table k)) i
  pub shortest : EndedShortest b (resume_table b table k)
