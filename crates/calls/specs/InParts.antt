-- What is claimed of rounds done in parts, with spans that change between them (request 2026-06). Definitions.
use Rattle.std.specs.Prelude.{ℕ, ◌+◌, ◌^◌, ◌≤◌, ◌<◌, true, false, ◌≡◌, ◌↔◌, List, [], ◌∷◌}
use Rattle.sheet.specs.Sections.{span_count, region_words}
use Rattle.judgement.specs.Judgement.{Accepted}
use Rattle.procedure.specs.OfSheet.{graph_of}
use Rattle.procedure.specs.Table.{counts_length}
use Rattle.calls.specs.Tables.{status_says, status_in, count_in}
use Rattle.calls.specs.Halls.{hall_words}
use Rattle.calls.specs.Runs.{run_table, long_run_table}
use Rattle.calls.specs.Correct.{SameDistances}
use Rattle.calls.specs.Possible.{Possible, possible?}
use Rattle.calls.specs.Resume.{not_long, resume_answer, resume_table, EndedShortest}

-- A sheet and a table that are not refused: the table is a possible state of the sheet.
pub record Standing (b table : List ℕ) : Type 0 where
  pub accepted : Accepted b
  pub formed : not_long b table ≡ false
  pub possible : possible? (graph_of b) (span_count b) table ≡ true

-- every count of a table is below n
abbrev pub CountsBelow : ℕ → List ℕ → Type 0
CountsBelow n table = (i : ℕ) → i < counts_length → count_in table i < n

-- "the sheet with the same nodes, source, arcs and division but possibly other spans", and 2026-08: "the same kind 13 words as well"
pub record SameButSpans (b b' : List ℕ) : Type 0 where
  pub hall : hall_words b ≡ hall_words b'
  pub division : region_words b ≡ region_words b'

-- one going on: the sheet, and how many rounds more
pub record Part : Type 0 where
  pub sheet : List ℕ
  pub rounds : ℕ

-- every sheet is accepted, and b's but for its spans
unfoldable pub PartsOf : List ℕ → List Part → Type 0
PartsOf b [] = Unit
PartsOf b (p ∷ ps) = (Accepted p.sheet × SameButSpans b p.sheet) × PartsOf b ps

-- a table resumed part by part
unfoldable pub resumed_by : List Part → List ℕ → List ℕ
resumed_by [] table = table
resumed_by (p ∷ ps) table = resumed_by ps (resume_table p.sheet table p.rounds)

-- the rounds of all parts
unfoldable pub part_rounds : List Part → ℕ
part_rounds [] = 0
part_rounds (p ∷ ps) = p.rounds + part_rounds ps

-- "Changing spans at any break, any number of times, leaves the final distances shortest": of a table resumed part by part, "from any table whose counts are
-- below 2 to the power 54". It is never refused, its counts stay below 2^55, 2^41 rounds in all are enough to end it, and where it has ended it is shortest.
pub record Changed (b table : List ℕ) (ps : List Part) : Type 0 where
  pub standing : Standing b (resumed_by ps table)
  pub small : CountsBelow (2 ^ 55) (resumed_by ps table)
  pub ends : 2 ^ 41 ≤ part_rounds ps → status_in (resumed_by ps table) ≡ 1
  pub shortest : EndedShortest b (resumed_by ps table)
  -- so its distances are those of every run of a sheet with the same nodes, source and arcs
  pub agrees : (b' : List ℕ) → Accepted b' → hall_words b ≡ hall_words b' → (k : ℕ) → status_in (resumed_by ps table) ≡ 1 → status_in (run_table b' k) ≡ 1
      → SameDistances b (resumed_by ps table) b' (run_table b' k)

-- What is claimed of every accepted sheet.
pub record Resumes (b : List ℕ) : Type 0 where
  -- a table that 32 does not apply to stands just where it is a possible state
  pub stands : (table : List ℕ) → not_long b table ≡ false → (Standing b table ↔ Possible (graph_of b) (span_count b) table)
  -- every longer table that a run leaves is a possible state of every sheet with the same nodes, source, arcs and division, and its counts are below 2^54
  pub run_standing : (b' : List ℕ) → Accepted b' → SameButSpans b b' → (k : ℕ) → Standing b' (long_run_table b k)
  pub run_counts : (k : ℕ) → CountsBelow (2 ^ 54) (long_run_table b k)
  -- and so is every table that a resuming leaves of one whose counts are below 2^54
  pub resume_standing : (table : List ℕ) → Standing b table → CountsBelow (2 ^ 54) table → (b' : List ℕ) → Accepted b' → SameButSpans b b' → (k : ℕ)
      → Standing b' (resume_table b table k)
  -- "with unchanged spans, rounds done in parts equal rounds done together": after a run ..
  pub run_parts : (k m : ℕ) → resume_table b (long_run_table b k) m ≡ long_run_table b (k + m)
  -- .. and from any table whose counts are below 2^54, the answers too
  pub parts : (table : List ℕ) → Standing b table → CountsBelow (2 ^ 54) table → (k m : ℕ)
      → (resume_table b (resume_table b table k) m ≡ resume_table b table (k + m)) × (resume_answer b (resume_table b table k) m ≡ resume_answer b table (k + m))
  -- a table that is let in is answered as the table left says
  pub answers : (table : List ℕ) → Standing b table → (k : ℕ) → resume_answer b table k ≡ status_says (status_in (resume_table b table k))
  -- no rounds more, and any number of rounds of a table that has ended, give the table back
  pub none_more : (table : List ℕ) → Standing b table → resume_table b table 0 ≡ table
  pub ended_more : (table : List ℕ) → Standing b table → status_in table ≡ 1 → (k : ℕ) → resume_table b table k ≡ table
  -- "Changing spans at any break, any number of times, leaves the final distances shortest"
  pub changed : (table : List ℕ) → Standing b table → CountsBelow (2 ^ 54) table → (ps : List Part) → PartsOf b ps → Changed b table ps
