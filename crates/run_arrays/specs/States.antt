-- What a run changes, with what is fixed, as queues and a state of the procedure; and what each function asks and gives. Definitions.
use Rattle.std.specs.Prelude.{ℕ, ◌^◌, ◌≤◌, ◌<◌, true, false, ◌≡◌, List, length, take, replicate}
use Rattle.sheet.specs.Limits.{most_nodes, most_arcs, most_arcs_each_way}
use Rattle.sheet.specs.Words.{top}
use Rattle.procedure.specs.Graph.{Graph, arcs}
use Rattle.procedure.specs.Division.{Division, regions, parent, is_leaf}
use Rattle.procedure.specs.State.{Queues, State}
use Rattle.procedure.specs.Queues.{update, update_arc, update_outgoing}
use Rattle.procedure.specs.Procedure.{process_leaf, process, more}
use Rattle.theory_shortest.specs.WellFormed.{GraphOk, DivisionOk}
use Rattle.theory.specs.Counts.{Small}
use Rattle.run_counts.specs.Figures.{figures_in}
use Rattle.run_arrays.specs.Trees.{Planned, QueuesOk}
use Rattle.run_arrays.specs.Fixed.{ArcRows, ArcLinks, RegionArcs, FixedOk}
use Rattle.run_arrays.specs.declared.arrays.Layout.{Layout}
use Rattle.run_arrays.specs.declared.arrays.Keys.{Keys}
use Rattle.run_arrays.specs.declared.arrays.Run.{Run}

-- THE QUEUES

-- The trees hold the keys of the queues, and n counts their updates.
pub record HoldsKeys (d : Division) (q : Queues) (rows winners : List ℕ) (n : ℕ) : Type 0 where
  pub valid : QueuesOk d rows q.keys winners
  pub counted : n ≡ q.updates

-- The keys of a run are those of the queues: the own keys are the front of their array, an entry for each arc.
pub record HoldsQueues (g : Graph) (d : Division) (q : Queues) (layout : Layout) (keys : Keys) (n : ℕ) : Type 0 where
  pub own : take (arcs g) keys.own ≡ q.own
  pub owned : length q.own ≡ arcs g
  pub held : HoldsKeys d q layout.rows keys.winners n

-- What the update of item x of region r with key k asks: that x is a child of r, and that the count fits.
pub record Updating (d : Division) (q : Queues) (r x k : ℕ) : Type 0 where
  pub division : DivisionOk (length q.own) d
  pub positive : 0 < x
  pub in_range : x < regions d
  pub under : parent d x ≡ r
  pub small : (update d r x k q).updates < 2 ^ 56

-- what the update of an arc reads
pub record Updatable (g : Graph) (d : Division) (layout : Layout) : Type 0 where
  pub graph : GraphOk most_arcs_each_way g
  pub division : DivisionOk (arcs g) d
  pub arc_rows : ArcRows g d layout.arc_rows

pub record UpdatingArc (g : Graph) (d : Division) (q : Queues) (layout : Layout) (a k : ℕ) : Type 0 where
  pub updatable : Updatable g d layout
  pub in_range : a < arcs g
  pub small : (update_arc d a k q).updates < 2 ^ 56

pub record UpdatingOutgoing (g : Graph) (d : Division) (q : Queues) (layout : Layout) (v k : ℕ) : Type 0 where
  pub updatable : Updatable g d layout
  pub links : ArcLinks g layout.arc_rows layout.firsts
  pub arc_count_lem : layout.arcs ≡ arcs g
  pub in_range : v < g.nodes
  pub small : (update_outgoing d g.tails v k q).updates < 2 ^ 56

-- What is asked of a region whose smallest key is looked for, beside the queues.
pub record Keyed (g : Graph) (d : Division) (layout : Layout) (r : ℕ) : Type 0 where
  pub few : arcs g ≤ most_arcs
  pub division : DivisionOk (arcs g) d
  pub region_arcs : RegionArcs d layout.region_arcs
  pub in_range : r < regions d

-- THE PROCEDURE

-- A run represents the state s of a well-formed graph, division and spans: labels and predecessors are the fronts of their arrays, an entry for each node.
pub record Represents (g : Graph) (d : Division) (spans : List ℕ) (s : State) (layout : Layout) (run : Run) : Type 0 where
  pub fixed_ok : FixedOk g d spans layout
  pub labels : take g.nodes run.labels ≡ s.labels
  pub predecessors : take g.nodes run.predecessors ≡ s.predecessors
  pub queues : HoldsQueues g d s.queues layout run.keys (figures_in run.counts).updates
  pub rounds : (figures_in run.counts).rounds ≡ s.rounds
  pub leaves : (figures_in run.counts).leaves ≡ s.leaves
  pub inner : (figures_in run.counts).inner ≡ s.inner

-- What is asked besides of the working of region r, whose result is `defined`: that there is such a region, and that the counts fit.
pub record Workable (d : Division) (r : ℕ) (defined : State) : Type 0 where
  pub in_range : r < regions d
  pub small : Small defined

-- What is asked before the start: what is fixed, with trees that are planned, and the source and the number of regions.
pub record Blank (g : Graph) (d : Division) (spans : List ℕ) (layout : Layout) (source count : ℕ) : Type 0 where
  pub fixed_ok : FixedOk g d spans layout
  pub planned : Planned d layout.rows
  pub at_source : source ≡ g.source
  pub all_regions : count ≡ regions d

-- no node has a label or a predecessor, and no leaf an own key
pub record Empty (run : Run) : Type 0 where
  pub labels : run.labels ≡ replicate most_nodes top
  pub predecessors : run.predecessors ≡ replicate most_nodes top
  pub own : run.keys.own ≡ replicate most_arcs top

-- WHAT EACH CALL ASKS: that some graph, division, spans, queues or state stand behind what it is lent

-- `update`
pub record SomeUpdating (rows winners : List ℕ) (r x k count : ℕ) : Type 0 where
  pub division : Division
  pub queues : Queues
  pub holds : HoldsKeys division queues rows winners count
  pub updating : Updating division queues r x k

module _ (layout : Layout) (keys : Keys) where
  -- `update_arc`
  pub record SomeUpdatingArc (a k count : ℕ) : Type 0 where
    pub graph : Graph
    pub division : Division
    pub queues : Queues
    pub holds : HoldsQueues graph division queues layout keys count
    pub updating : UpdatingArc graph division queues layout a k

  -- `update_outgoing`
  pub record SomeUpdatingOutgoing (v k count : ℕ) : Type 0 where
    pub graph : Graph
    pub division : Division
    pub queues : Queues
    pub holds : HoldsQueues graph division queues layout keys count
    pub updating : UpdatingOutgoing graph division queues layout v k

  -- `key_of`
  pub record SomeKeyed (r : ℕ) : Type 0 where
    pub graph : Graph
    pub division : Division
    pub queues : Queues
    pub count : ℕ
    pub holds : HoldsQueues graph division queues layout keys count
    pub keyed : Keyed graph division layout r

module _ (layout : Layout) (run : Run) where
  -- `process_leaf`
  pub record SomeLeaf (r : ℕ) : Type 0 where
    pub graph : Graph
    pub division : Division
    pub spans : List ℕ
    pub current : State
    pub represents : Represents graph division spans current layout run
    pub workable : Workable division r (process_leaf graph division r current)
    pub leaf : is_leaf division r ≡ true

  -- `process_region`
  pub record SomeRegion (r : ℕ) : Type 0 where
    pub graph : Graph
    pub division : Division
    pub spans : List ℕ
    pub current : State
    pub represents : Represents graph division spans current layout run
    pub workable : Workable division r (process graph division spans r current)

  -- `process_inner`
  pub record SomeInner (r : ℕ) : Type 0 where
    pub region : SomeRegion r
    pub inner : is_leaf region.division r ≡ false

  -- `run_rounds`: the counts at the end fit
  pub record SomeRounds (limit : ℕ) : Type 0 where
    pub graph : Graph
    pub division : Division
    pub spans : List ℕ
    pub current : State
    pub represents : Represents graph division spans current layout run
    pub small : Small (more graph division spans limit current)

-- `start`
pub record SomeBlank (layout : Layout) (source count : ℕ) : Type 0 where
  pub graph : Graph
  pub division : Division
  pub spans : List ℕ
  pub blank : Blank graph division spans layout source count
