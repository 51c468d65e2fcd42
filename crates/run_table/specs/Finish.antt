-- What the working of a state that is laid out asks, and what it leaves in the table. Definitions.
use Rattle.std.specs.Prelude.{ℕ, ◌-◌, ◌≤◌, Bool, ◌≡◌, List, ◌++◌, take}
use Rattle.sheet.specs.Limits.{most_nodes, most_arcs}
use Rattle.sheet.specs.Sections.{node_count, arc_count}
use Rattle.judgement.specs.Judgement.{Accepted}
use Rattle.procedure.specs.OfSheet.{graph_of, division_of, spans_of}
use Rattle.procedure.specs.State.{State, counts}
use Rattle.procedure.specs.Procedure.{ended, more}
use Rattle.procedure.specs.Table.{table_of, key_words}
use Rattle.calls.specs.Tables.{table_length, long_length}
use Rattle.theory_calls.specs.Tabled.{Tabled}
use Rattle.run_counts.specs.Figures.{figures_in, counts_of}
use Rattle.run_arrays.specs.declared.arrays.Layout.{Layout}
use Rattle.run_arrays.specs.declared.arrays.Run.{Run}
use Rattle.run_arrays.specs.States.{Represents}
use Rattle.table.specs.Writable.{Writable}

-- the first n labels and predecessors of the run, with its counts, fit a table of so many words
pub record NodesFit (run : Run) (n words : ℕ) : Type 0 where
  pub few : n ≤ most_nodes
  pub writable : Writable (counts_of (figures_in run.counts)) (take n run.labels) (take n run.predecessors) words

-- and so they do in front of a table of so many words, with key words behind them
pub record FormFits (run : Run) (n words : ℕ) : Type 0 where
  pub nodes : NodesFit run n (table_length n)
  pub room : table_length n ≤ words
  pub few : words ≤ long_length n most_arcs

-- the run represents s, a table can hold the state that at most `limit` rounds more reach, and one of n nodes and so many words is no longer than the longer
-- form
pub record Finishing (b : List ℕ) (s : State) (layout : Layout) (run : Run) (limit n words : ℕ) : Type 0 where
  pub accepted : Accepted b
  pub represents : Represents (graph_of b) (division_of b) (spans_of b) s layout run
  pub tabled : Tabled b (more (graph_of b) (division_of b) (spans_of b) limit s)
  pub all : n ≡ node_count b
  pub room : table_length n ≤ words
  pub few : words ≤ long_length n (arc_count b)

-- `finish`
pub record SomeFinishing (layout : Layout) (run : Run) (limit n words : ℕ) : Type 0 where
  pub sheet : List ℕ
  pub current : State
  pub finishing : Finishing sheet current layout run limit n words

-- a table of so many words holds s: behind the usual words stand as many key words as there is room for
pub record Finished (b : List ℕ) (s : State) (words : ℕ) (hasEnded : Bool) (table : List ℕ) : Type 0 where
  pub status : hasEnded ≡ ended (graph_of b) (division_of b) s
  pub written : table
      ≡ table_of (ended (graph_of b) (division_of b) s) (counts s) s.labels s.predecessors (node_count b)
      ++ key_words s.queues.own (words - table_length (node_count b))
