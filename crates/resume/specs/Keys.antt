-- What the rebuilding of the queues asks and gives. Definitions.
use Rattle.std.specs.Prelude.{ℕ, ◌<◌, ◌≡◌, List, take, replicate}
use Rattle.sheet.specs.Words.{top}
use Rattle.procedure.specs.Graph.{Graph, arcs}
use Rattle.procedure.specs.Division.{Division, regions}
use Rattle.procedure.specs.OfSheet.{graph_of, division_of}
use Rattle.procedure.specs.State.{Queues}
use Rattle.calls.specs.Tables.{labels_in}
use Rattle.calls.specs.LongTables.{own_in}
use Rattle.calls.specs.InParts.{Standing}
use Rattle.theory.specs.Sound.{no_keys}
use Rattle.theory_resume.specs.Rebuilt.{rebuilt}
use Rattle.run_arrays.specs.declared.arrays.Layout.{Layout}
use Rattle.run_arrays.specs.declared.arrays.Run.{Run}
use Rattle.run_arrays.specs.States.{HoldsQueues}
use Rattle.run_layout.specs.Layout.{Laid}

-- a table that resuming lets in, its sheet laid out, and its labels in the run
pub record Relaid (b : List ℕ) (layout : Layout) (table : List ℕ) (run : Run) : Type 0 where
  pub standing : Standing b table
  pub laid : Laid b layout
  pub labels : take (graph_of b).nodes run.labels ≡ labels_in (graph_of b).nodes table

-- no own key is entered yet, and there are so many regions
pub record Keyless (b : List ℕ) (layout : Layout) (table : List ℕ) (run : Run) (count : ℕ) : Type 0 where
  pub relaid : Relaid b layout table run
  pub none : take (arcs (graph_of b)) run.keys.own ≡ replicate (arcs (graph_of b)) top
  pub all_regions : count ≡ regions (division_of b)

-- the queues with the keys of the first a arcs
abbrev pub queues_up_to : List ℕ → List ℕ → ℕ → Queues
queues_up_to b table a = rebuilt (division_of b) (own_in (graph_of b) table) a (no_keys (graph_of b) (division_of b))

-- these are entered, by so many updates
pub record KeysUpTo (b : List ℕ) (layout : Layout) (table : List ℕ) (run : Run) (a count : ℕ) : Type 0 where
  pub relaid : Relaid b layout table run
  pub holds : HoldsQueues (graph_of b) (division_of b) (queues_up_to b table a) layout run.keys count

-- and arc a is next
pub record KeyNext (b : List ℕ) (layout : Layout) (table : List ℕ) (run : Run) (a count : ℕ) : Type 0 where
  pub sofar : KeysUpTo b layout table run a count
  pub in_range : a < arcs (graph_of b)

-- labels, predecessors and counts are as they were
pub record KeysAlone (run run' : Run) : Type 0 where
  pub labels : run'.labels ≡ run.labels
  pub predecessors : run'.predecessors ≡ run.predecessors
  pub counts : run'.counts ≡ run.counts

-- what the updates of arcs leave: the queues, and all else as it was
pub record LeavesQueues (g : Graph) (d : Division) (q : Queues) (layout : Layout) (run run' : Run) (n : ℕ) : Type 0 where
  pub alone : KeysAlone run run'
  pub queues : HoldsQueues g d q layout run'.keys n
