-- What the start rests on: a run in which nothing is set, with the source's label, and cleared queues are the start before its updates.
use Prim.Native.Nat.{ℕ, ◌<◌, ◌≤◌}
use mathlib.Core.Path.{◌≡◌, refl, ap, ◌∙◌}
use mathlib.Core.List.{List}
use native.Mathlib.Omega.{arith}
use lib.ListN.{set, take, replicate, length-replicate}
use lib.Seq.{take-set-lt}
use Rattle.std.proofs.lemmas.List.{take-replicate}
use Rattle.sheet.specs.Limits.{most_nodes, most_spans}
use Rattle.sheet.specs.Words.{top}
use Rattle.procedure.specs.Graph.{Graph, arcs}
use Rattle.procedure.specs.Division.{Division, regions}
use Rattle.procedure.specs.State.{Queues, State}
use Rattle.procedure.specs.Queues.{update_outgoing}
use Rattle.procedure.specs.Procedure.{start}
use Rattle.theory.specs.Sound.{no_keys}
use Rattle.theory.specs.Counts.{Small}
use Rattle.theory.proofs.Final.{few_each_way, no_rounds, after_small}
use Rattle.run_counts.specs.Figures.{Figures, figures_in, started}
use Rattle.run_arrays.specs.declared.arrays.Layout.{Layout}
use Rattle.run_arrays.specs.declared.arrays.Keys.{Keys}
use Rattle.run_arrays.specs.declared.arrays.Run.{Run}
use Rattle.run_arrays.specs.Trees.{QueuesOk}
use Rattle.run_arrays.specs.States.{HoldsQueues, UpdatingOutgoing, Represents, Blank, Empty}

-- the start from a source, where its queues are q
abbrev start_with : Graph → ℕ → Queues → State
start_with g source q = record {
  labels = set (replicate g.nodes top) source 0;
  predecessors = replicate g.nodes top;
  queues = q;
  rounds = 0;
  leaves = 0;
  inner = replicate most_spans 0;
}

start_by_updates : (g : Graph) (d : Division)
    → start_with g g.source (update_outgoing d g.tails g.source 0 (no_keys g d)) ≡ start g d
unfolding start
start_by_updates g d = refl

-- the front of a list that is filled with 'none'
front : (n : ℕ) {m : ℕ} {ys : List ℕ} → ys ≡ replicate m top → n ≤ m → take n ys ≡ replicate n top
front n {m} e l = rw e (take-replicate n m top l)

module _ {g : Graph} {d : Division} {spans : List ℕ} {layout : Layout} {source count : ℕ} (B : Blank g d spans layout source count) where
  source_node : source < g.nodes
  source_node = omega (arith, B.at_source, B.fixed_ok.ok.graph.source_in)

  pub source_in : source < most_nodes
  source_in = omega (arith, source_node, B.fixed_ok.ok.graph.few_nodes)

  start_small : Small (start g d)
  start_small = rw (no_rounds g d spans) at (after_small B.fixed_ok.ok few_each_way 0)

  is_start : start_with g source (update_outgoing d g.tails source 0 (no_keys g d)) ≡ start g d
  is_start = ap (λ (v : ℕ). start_with g v (update_outgoing d g.tails v 0 (no_keys g d))) B.at_source ∙ start_by_updates g d

  pub start_asks : UpdatingOutgoing g d (no_keys g d) layout source 0
  start_asks = record {
    updatable = record { graph = B.fixed_ok.ok.graph; division = B.fixed_ok.ok.division; arc_rows = B.fixed_ok.arc_rows };
    links = B.fixed_ok.links;
    arc_count_lem = B.fixed_ok.arc_count_lem;
    in_range = source_node;
    small = rw (ap (λ (w : State). w.queues.updates) is_start) start_small.updates;
  }

  -- the source's label is stored, and the queues are cleared
  module _ {run labelled : Run} (E : Empty run) {winners : List ℕ} (valid : QueuesOk d layout.rows (replicate (regions d) top) winners)
      (K : labelled ≡ record {
        labels = set run.labels source 0;
        predecessors = run.predecessors;
        keys = record { own = run.keys.own; winners = winners };
        counts = run.counts;
      }) where
    pub start_held : HoldsQueues g d (no_keys g d) layout labelled.keys 0
    start_held = rw K (record {
      own = front (arcs g) E.own B.fixed_ok.ok.graph.few_arcs;
      owned = length-replicate (arcs g) top;
      held = record { valid = valid; counted = refl };
    })

    -- the source's arcs are updated, and counted
    pub begun : {keys : Keys} {n : ℕ} → HoldsQueues g d (update_outgoing d g.tails source 0 (no_keys g d)) layout keys n
        → {counts : List ℕ} → figures_in counts ≡ started n
        → Represents g d spans (start g d) layout
        (record { labels = labelled.labels; predecessors = labelled.predecessors; keys = keys; counts = counts })
    begun Q counted =
        rw (← is_start, K)
        (record {
          fixed_ok = B.fixed_ok;
          labels =
              take-set-lt g.nodes run.labels source 0 source_node
              ∙ ap (λ (labels : List ℕ). set labels source 0) (front g.nodes E.labels B.fixed_ok.ok.graph.few_nodes);
          predecessors = front g.nodes E.predecessors B.fixed_ok.ok.graph.few_nodes;
          queues =
              record {
                own = Q.own;
                owned = Q.owned;
                held = record { valid = Q.held.valid; counted = ap (λ (f : Figures). f.updates) counted ∙ Q.held.counted };
              };
          rounds = ap (λ (f : Figures). f.rounds) counted;
          leaves = ap (λ (f : Figures). f.leaves) counted;
          inner = ap (λ (f : Figures). f.inner) counted;
        })
