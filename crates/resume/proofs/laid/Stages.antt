-- From a table to the state that it stands for, laid out in the arrays, and from there to the new table.
use Prim.Native.Nat.{ℕ, ◌+◌, ◌-◌}
use mathlib.Core.Bool.{Bool}
use mathlib.Core.Path.{◌≡◌, sym, ap, ◌∙◌}
use mathlib.Core.List.{List}
use native.Mathlib.Omega.{arith}
use lib.ListN.{length, take}
use Rattle.std.proofs.lemmas.List.{take-replicate}
use Rattle.indices.specs.Columns.{at, column}
use Rattle.indices.proofs.Columns.{at_column}
use Rattle.sheet.specs.Limits.{most_arcs, most_spans}
use Rattle.sheet.specs.Words.{top}
use Rattle.sheet.specs.Sections.{node_count, arc_count}
use Rattle.procedure.specs.Graph.{arcs}
use Rattle.procedure.specs.OfSheet.{graph_of, division_of, spans_of}
use Rattle.procedure.specs.State.{State}
use Rattle.procedure.specs.Procedure.{more}
use Rattle.procedure.specs.Table.{inner_place, updates_place, counts_length}
use Rattle.procedure.proofs.OfSheet.{graph_nodes, division_regions}
use Rattle.calls.specs.Tables.{table_length, long_length, count_in, rounds_in, leaves_in, labels_in, predecessors_in}
use Rattle.calls.specs.LongTables.{state_in}
use Rattle.calls.specs.Resume.{resumed, resumed_table}
use Rattle.calls.specs.InParts.{Standing}
use Rattle.calls.proofs.Formed.{formed}
use Rattle.calls.proofs.LongReading.{long_words}
use Rattle.theory_resume.proofs.Resumed.{resumed_tabled}
use Rattle.run_counts.specs.Figures.{figures_in, rounds_in as roundsOf, leaves_in as leavesOf, inner_in, updates_in}
use Rattle.run_arrays.specs.declared.arrays.Layout.{Layout}
use Rattle.run_arrays.specs.declared.arrays.Run.{Run}
use Rattle.run_arrays.specs.States.{Represents, Empty}
use Rattle.run_table.specs.Finish.{Finishing, Finished}
use Rattle.run_layout.specs.declared.sizes.Sizes.{Sizes}
use Rattle.run_layout.specs.InUse.{Outlined}
use Rattle.run_layout.specs.Layout.{Laid}
use Rattle.resume.specs.Nodes.{NodesEntered}
use Rattle.resume.specs.Keys.{Keyless, LeavesQueues}
use Rattle.resume.specs.Outcome.{Outcome}

-- the table has the longer length
pub as_long : {b table : List ℕ} → Standing b table → length table ≡ long_length (node_count b) (arc_count b)
as_long {b} {table} S = (formed b table S.formed).long

-- THE COUNTS of an array that is filled from the table
module _ (table counts : List ℕ) (entered : counts ≡ column counts_length (count_in table)) where
  same_rounds : (figures_in counts).rounds ≡ rounds_in table
  unfolding roundsOf
  same_rounds = ap (λ (xs : List ℕ). at xs 0) entered ∙ at_column counts_length (count_in table) 0 (omega arith)

  same_leaves : (figures_in counts).leaves ≡ leaves_in table
  unfolding leavesOf
  same_leaves = ap (λ (xs : List ℕ). at xs 1) entered ∙ at_column counts_length (count_in table) 1 (omega arith)

  same_inner : (figures_in counts).inner ≡ column most_spans (λ i. count_in table (inner_place + i))
  unfolding inner_in column
  same_inner = rw entered

  same_updates : (figures_in counts).updates ≡ count_in table updates_place
  unfolding updates_in
  same_updates = ap (λ (xs : List ℕ). at xs updates_place) entered ∙ at_column counts_length (count_in table) updates_place (omega arith)

module _ {b : List ℕ} {sizes : Sizes} {layout : Layout} {table : List ℕ} (O : Outlined b sizes) (S : Standing b table) (L : Laid b layout) where
  -- the state that the table stands for
  abbrev before : State
  before = state_in (graph_of b) (division_of b) table

  nodes_all : sizes.nodes ≡ (graph_of b).nodes
  nodes_all = O.in_use.nodes_all ∙ sym (graph_nodes b)

  -- THE NODES are entered, into a run that was cleared, and then the counts
  module _ {blank entered : Run} (E : Empty blank) (N : NodesEntered table sizes.nodes blank entered) {counts : List ℕ}
      (counted : counts ≡ column counts_length (count_in table)) where
    abbrev started : Run
    started = record { labels = entered.labels; predecessors = entered.predecessors; keys = entered.keys; counts = counts }

    same_labels : take (graph_of b).nodes entered.labels ≡ labels_in (graph_of b).nodes table
    same_labels = rw (← nodes_all) N.labels

    same_predecessors : take (graph_of b).nodes entered.predecessors ≡ predecessors_in (graph_of b).nodes table
    same_predecessors = rw (← nodes_all) N.predecessors

    pub keyless : Keyless b layout table started sizes.regions
    keyless = record {
      relaid = record { standing = S; laid = L; labels = same_labels };
      none = rw (N.keys, E.own) (take-replicate (arcs (graph_of b)) most_arcs top L.fixed_ok.ok.graph.few_arcs);
      all_regions = O.in_use.regions_all ∙ sym (division_regions b);
    }

    -- the queues are rebuilt
    module _ {run : Run} (Q : LeavesQueues (graph_of b) (division_of b) before.queues layout started run (count_in table updates_place)) where
      entered_counts : run.counts ≡ column counts_length (count_in table)
      entered_counts = Q.alone.counts ∙ counted

      represented : Represents (graph_of b) (division_of b) (spans_of b) before layout run
      unfolding state_in
      represented = record {
        fixed_ok = L.fixed_ok;
        labels = ap (take (graph_of b).nodes) Q.alone.labels ∙ same_labels;
        predecessors = ap (take (graph_of b).nodes) Q.alone.predecessors ∙ same_predecessors;
        queues = rw (same_updates table run.counts entered_counts) Q.queues;
        rounds = same_rounds table run.counts entered_counts;
        leaves = same_leaves table run.counts entered_counts;
        inner = same_inner table run.counts entered_counts;
      }

      -- THE STATE is worked: what is asked, and what the new table is
      module _ (limit : ℕ) where
        pub finishing : Finishing b before layout run limit sizes.nodes (length table)
        unfolding resumed
        finishing = record {
          accepted = S.accepted;
          represents = represented;
          tabled = resumed_tabled b table S limit;
          all = O.in_use.nodes_all;
          room = omega (arith, as_long S, O.in_use.nodes_all);
          few = omega (arith, as_long S, O.in_use.nodes_all);
        }

  pub outcome : (limit : ℕ) {hasEnded : Bool} {table' : List ℕ}
      → Finished b (more (graph_of b) (division_of b) (spans_of b) limit before) (length table) hasEnded table'
      → Outcome b table limit hasEnded table'
  unfolding resumed resumed_table
  outcome limit F =
      let m : length table - table_length (node_count b) ≡ arc_count b = omega (arith, as_long S) in
      record { status = F.status; words = rw m at F.written ∙ sym (long_words b (resumed b table limit)) }
