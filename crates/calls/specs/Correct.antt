-- Demand 3, whole, in one record over a sheet. Definitions.
use Rattle.std.specs.Prelude.{ℕ, ◌<◌, true, ◌≡◌, ◌↔◌, List, length}
use Rattle.sheet.specs.Words.{top}
use Rattle.sheet.specs.Sections.{node_count, arc_count}
use Rattle.judgement.specs.Judgement.{Accepted}
use Rattle.procedure.specs.Procedure.{enough_rounds}
use Rattle.calls.specs.Tables.{table_length, long_length, status_says, status_in, label_in}
use Rattle.calls.specs.Runs.{ended_after, run_answer, run_table, long_run_table, table_after, Delivered, DeliveredLong}
use Rattle.calls.specs.Halls.{hall_words}

-- two tables of the same hall: the same nodes, with the same distances, and the same of them unreached
pub record SameDistances (b table b' table' : List ℕ) : Type 0 where
  pub nodes : node_count b ≡ node_count b'
  pub distances : (v : ℕ) → v < node_count b → label_in table v ≡ label_in table' v
  pub unreached : (v : ℕ) → v < node_count b → (label_in table v ≡ top) ↔ (label_in table' v ≡ top)

-- What is claimed of every accepted sheet, whatever its division and spans.
pub record Correct (b : List ℕ) : Type 0 where
  -- the run to its end does end ..
  pub ends : ended_after b enough_rounds ≡ true
  -- .. and leaves its table as ended
  pub left_ended : status_in (run_table b enough_rounds) ≡ 1
  -- a run call with a table of the usual length leaves that table, and answers as it says
  pub leaves : (k : ℕ) (table : List ℕ) → length table ≡ table_length (node_count b)
      → (run_answer b k table ≡ status_says (status_in (run_table b k))) × (table_after b k table ≡ run_table b k)
  -- 2026-06: and with one of the longer length the longer table
  pub leaves_long : (k : ℕ) (table : List ℕ) → length table ≡ long_length (node_count b) (arc_count b)
      → (run_answer b k table ≡ status_says (status_in (run_table b k))) × (table_after b k table ≡ long_run_table b k)
  -- after any number of rounds the table is what those rounds have reached, every count is below 2^56, and a table left as ended is shortest, and shows as
  -- much work as request 2026-03 says
  pub tells : (k : ℕ) → Delivered b k (run_table b k)
  pub tells_long : (k : ℕ) → DeliveredLong b k (long_run_table b k)
  -- any two accepted sheets with the same nodes, source and arcs (2026-08: and holds) have the same distances and unreached nodes in their tables left as
  -- ended
  pub agrees : (b' : List ℕ) → Accepted b' → hall_words b ≡ hall_words b' → (k k' : ℕ) → status_in (run_table b k) ≡ 1 → status_in (run_table b' k') ≡ 1
      → SameDistances b (run_table b k) b' (run_table b' k')
