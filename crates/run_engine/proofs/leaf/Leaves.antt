-- What the working of a leaf rests on: its indices are in range, and where the sum is below the head's label the code lowers it as the definition does.
use Prim.Native.Nat.{ℕ, suc, ◌+◌, ◌≤◌, ◌<◌}
use mathlib.Core.Bool.{true}
use mathlib.Core.Path.{◌≡◌, refl, sym, ap, ◌∙◌}
use mathlib.Core.List.{List}
use native.Mathlib.Omega.{arith}
use lib.ListN.{set}
use lib.Seq.{get_or-take, take-set-lt}
use Rattle.indices.specs.Columns.{at}
use Rattle.sheet.specs.Limits.{most_nodes, most_arcs}
use Rattle.sheet.specs.Words.{top}
use Rattle.procedure.specs.Graph.{Graph, arcs, tail, head, len}
use Rattle.procedure.specs.Division.{Division, arc_of, is_leaf}
use Rattle.procedure.specs.State.{State, label}
use Rattle.procedure.specs.Queues.{update_outgoing}
use Rattle.procedure.specs.Procedure.{relax, clear_key, process_leaf}
use Rattle.theory.proofs.Process.{sum_by, lowered, relax_falls, relax_stays}
use Rattle.theory.proofs.Grows.{relax_grows}
use Rattle.run_counts.specs.Figures.{Figures, figures_in, leaf_more}
use Rattle.run_arrays.specs.Rows.{row_tail, row_head}
use Rattle.run_arrays.specs.Sections.{most_regions}
use Rattle.run_arrays.specs.declared.arrays.Layout.{Layout}
use Rattle.run_arrays.specs.declared.arrays.Keys.{Keys}
use Rattle.run_arrays.specs.declared.arrays.Run.{Run}
use Rattle.run_arrays.specs.States.{HoldsQueues, UpdatingOutgoing, Represents, Workable}
use Rattle.run_engine.proofs.updates.Updates.{own_held}

-- the state once the key of arc a is none and its leaf is counted
abbrev cleared : ℕ → State → State
cleared a s = record {
  labels = s.labels;
  predecessors = s.predecessors;
  queues = record { own = set s.queues.own a top; keys = s.queues.keys; updates = s.queues.updates };
  rounds = s.rounds;
  leaves = suc s.leaves;
  inner = s.inner;
}

leaf_cleared : (g : Graph) (d : Division) (r : ℕ) (s : State) → process_leaf g d r s ≡ cleared (arc_of d r) (relax g d (arc_of d r) s)
unfolding process_leaf clear_key
leaf_cleared g d r s = refl

-- every region has its entries in the arrays
pub region_fits : {g : Graph} {d : Division} {spans : List ℕ} {s : State} {layout : Layout} {run : Run}
    → Represents g d spans s layout run → {r : ℕ} {defined : State} → Workable d r defined → r < most_regions
region_fits R W = omega (arith, W.in_range, R.fixed_ok.ok.division.few_regions)

-- the leaf r, whose arc is a
module _ {g : Graph} {d : Division} {spans : List ℕ} {s : State} {layout : Layout} {run : Run} {r : ℕ}
    (R : Represents g d spans s layout run) (W : Workable d r (process_leaf g d r s)) (leaf : is_leaf d r ≡ true) where
  pub leaf_count_fits : (figures_in run.counts).leaves + 1 < 18446744073709551616
  leaf_count_fits =
      let more : suc s.leaves ≤ (process_leaf g d r s).leaves = rw (leaf_cleared g d r s) (omega (arith, (relax_grows g d (arc_of d r) s).leaves)) in
      omega (arith, R.leaves, W.small.leaves)

  module _ {a : ℕ} (row : a ≡ at layout.region_arcs r) where
    is_arc_lem : a ≡ arc_of d r
    is_arc_lem = row ∙ R.fixed_ok.region_arcs.leaf r W.in_range leaf

    arc_in : a < arcs g
    arc_in = omega (arith, is_arc_lem, (R.fixed_ok.ok.division.leaf_arc_lem r W.in_range leaf).0)

    pub leaf_arc_in : a < most_arcs
    leaf_arc_in = omega (arith, arc_in, R.fixed_ok.ok.graph.few_arcs)

    module _ {u : ℕ} (from : u ≡ row_tail layout.arc_rows a) where
      is_tail : u ≡ tail g a
      is_tail = from ∙ R.fixed_ok.arc_rows.tails a arc_in

      tail_in_lem : u < g.nodes
      tail_in_lem = omega (arith, is_tail, R.fixed_ok.ok.graph.tail_in_lem a arc_in)

      pub leaf_tail_in : u < most_nodes
      leaf_tail_in = omega (arith, tail_in_lem, R.fixed_ok.ok.graph.few_nodes)

    module _ {v : ℕ} (to : v ≡ row_head layout.arc_rows a) where
      is_head : v ≡ head g a
      is_head = to ∙ R.fixed_ok.arc_rows.heads a arc_in

      head_in : v < g.nodes
      head_in = omega (arith, is_head, R.fixed_ok.ok.graph.head_in a arc_in)

      pub leaf_head_in : v < most_nodes
      leaf_head_in = omega (arith, head_in, R.fixed_ok.ok.graph.few_nodes)

-- Arc a of the leaf r leads from u to v; x is the label of u, y the arc's length, and z the label of v.
pub record Weighed (g : Graph) (d : Division) (spans : List ℕ) (s : State) (layout : Layout) (run : Run) (r a u v x y z : ℕ) : Type 0 where
  pub represents : Represents g d spans s layout run
  pub workable : Workable d r (process_leaf g d r s)
  pub leaf : is_leaf d r ≡ true
  pub row : a ≡ at layout.region_arcs r
  pub from : u ≡ row_tail layout.arc_rows a
  pub to : v ≡ row_head layout.arc_rows a
  pub tail_label : x ≡ at run.labels u
  pub arc_length_lem : y ≡ at layout.lengths a
  pub head_label : z ≡ at run.labels v

pub weighed : {g : Graph} {d : Division} {spans : List ℕ} {s : State} {layout : Layout} {run : Run} {r a u v x y z : ℕ} → Represents g d spans s layout run
    → Workable d r (process_leaf g d r s) → is_leaf d r ≡ true → a ≡ at layout.region_arcs r → u ≡ row_tail layout.arc_rows a
    → v ≡ row_head layout.arc_rows a → x ≡ at run.labels u → y ≡ at layout.lengths a → z ≡ at run.labels v → Weighed g d spans s layout run r a u v x y z
weighed R W leaf row from to label long other = record {
  represents = R;
  workable = W;
  leaf = leaf;
  row = row;
  from = from;
  to = to;
  tail_label = label;
  arc_length_lem = long;
  head_label = other;
}

module _ {g : Graph} {d : Division} {spans : List ℕ} {s : State} {layout : Layout} {run : Run} {r a u v x y z : ℕ}
    (w : Weighed g d spans s layout run r a u v x y z) where
  abbrev R : Represents g d spans s layout run
  R = w.represents

  is_arc_of : a ≡ arc_of d r
  is_arc_of = is_arc_lem R w.workable w.leaf w.row

  in_arcs : a < arcs g
  in_arcs = arc_in R w.workable w.leaf w.row

  in_nodes : v < g.nodes
  in_nodes = head_in R w.workable w.leaf w.row w.to

  label_in_lem : (node : ℕ) → node < g.nodes → at run.labels node ≡ label s node
  label_in_lem node l = sym (get_or-take g.nodes run.labels node 0 l) ∙ ap (λ (labels : List ℕ). at labels node) R.labels

  is_sum : x + y ≡ sum_by g (arc_of d r) s
  is_sum =
      rw (
        w.tail_label,
        label_in_lem u (tail_in_lem R w.workable w.leaf w.row w.from),
        w.arc_length_lem,
        R.fixed_ok.lengths a in_arcs,
        is_tail R w.workable w.leaf w.row w.from,
      )
      (ap (λ (b : ℕ). label s (tail g b) + len g b) is_arc_of)

  is_head_of : v ≡ head g (arc_of d r)
  is_head_of = is_head R w.workable w.leaf w.row w.to ∙ ap (head g) is_arc_of

  is_label : z ≡ label s (head g (arc_of d r))
  is_label = w.head_label ∙ label_in_lem v in_nodes ∙ ap (label s) is_head_of

  -- where the sum is not below the head's label, the leaf's key alone changes
  pub leaf_stays : z ≤ x + y → {keys : Keys} → keys ≡ record { own = set run.keys.own a top; winners = run.keys.winners }
      → {updates : ℕ} → updates ≡ (figures_in run.counts).updates → {counts : List ℕ} → figures_in counts ≡ leaf_more (figures_in run.counts) updates
      → Represents g d spans (process_leaf g d r s) layout
      (record { labels = run.labels; predecessors = run.predecessors; keys = keys; counts = counts })
  leaf_stays l K same counted =
      let stays : process_leaf g d r s ≡ cleared a s =
      leaf_cleared g d r s
      ∙ ap (cleared (arc_of d r)) (relax_stays g d (arc_of d r) s (omega (arith, is_sum, is_label)))
      ∙ ap (λ (b : ℕ). cleared b s) (sym is_arc_of) in
      rw (stays, K)
      (record {
        fixed_ok = R.fixed_ok;
        labels = R.labels;
        predecessors = R.predecessors;
        queues = own_held top R.queues in_arcs refl
            (record { valid = R.queues.held.valid; counted = ap (λ (f : Figures). f.updates) counted ∙ same ∙ R.queues.held.counted });
        rounds = ap (λ (f : Figures). f.rounds) counted ∙ R.rounds;
        leaves = ap (λ (f : Figures). f.leaves) counted ∙ omega (arith, R.leaves);
        inner = ap (λ (f : Figures). f.inner) counted ∙ R.inner;
      })

  module _ (l : x + y < z) where
    is_lowered : process_leaf g d r s ≡ cleared (arc_of d r) (lowered g d (arc_of d r) s)
    is_lowered = leaf_cleared g d r s ∙ ap (cleared (arc_of d r)) (relax_falls g d (arc_of d r) s (omega (arith, is_sum, is_label)))

    -- where it is, the head's outgoing arcs are updated
    pub leaf_asks : UpdatingOutgoing g d s.queues layout v (x + y)
    leaf_asks = record {
      updatable = record { graph = R.fixed_ok.ok.graph; division = R.fixed_ok.ok.division; arc_rows = R.fixed_ok.arc_rows };
      links = R.fixed_ok.links;
      arc_count_lem = R.fixed_ok.arc_count_lem;
      in_range = in_nodes;
      small = rw (is_head_of, is_sum, ← ap (λ (s : State). s.queues.updates) is_lowered) w.workable.small.updates;
    }

    -- the state before the leaf's key is none
    abbrev fallen : State
    fallen = record {
      labels = set s.labels v (x + y);
      predecessors = set s.predecessors v a;
      queues = update_outgoing d g.tails v (x + y) s.queues;
      rounds = s.rounds;
      leaves = s.leaves;
      inner = s.inner;
    }

    is_fallen : cleared a fallen ≡ process_leaf g d r s
    is_fallen = rw (is_head_of, is_sum, is_arc_of) (sym is_lowered)

    -- the label is lowered
    module _ {run₁ : Run} (L : run₁ ≡ record run { labels = set run.labels v (x + y); predecessors = set run.predecessors v a }) where
      pub lowered_held : {updates : ℕ} → updates ≡ (figures_in run.counts).updates → HoldsQueues g d s.queues layout run₁.keys updates
      lowered_held same = rw (L, same) R.queues

      pub lowered_count_fits : (figures_in run₁.counts).leaves + 1 < 18446744073709551616
      lowered_count_fits = rw L (leaf_count_fits R w.workable w.leaf)

      -- the arcs are updated, and the leaf's key is none
      pub leaf_falls : {keys keys' : Keys} {updates : ℕ}
          → HoldsQueues g d (update_outgoing d g.tails v (x + y) s.queues) layout keys updates
          → keys' ≡ record { own = set keys.own a top; winners = keys.winners }
          → {counts : List ℕ} → figures_in counts ≡ leaf_more (figures_in run₁.counts) updates
          → Represents g d spans (process_leaf g d r s) layout
          (record { labels = run₁.labels; predecessors = run₁.predecessors; keys = keys'; counts = counts })
      leaf_falls {updates = updates} Q K {counts} counted =
          let more : figures_in counts ≡ leaf_more (figures_in run.counts) updates = rw L at counted in
          rw (← is_fallen, K, L)
          (record {
            fixed_ok = R.fixed_ok;
            labels = take-set-lt g.nodes run.labels v (x + y) in_nodes ∙ ap (λ (labels : List ℕ). set labels v (x + y)) R.labels;
            predecessors =
                take-set-lt g.nodes run.predecessors v a in_nodes
                ∙ ap (λ (predecessors : List ℕ). set predecessors v a) R.predecessors;
            queues = own_held top Q in_arcs refl
                (record { valid = Q.held.valid; counted = ap (λ (f : Figures). f.updates) more ∙ Q.held.counted });
            rounds = ap (λ (f : Figures). f.rounds) more ∙ R.rounds;
            leaves = ap (λ (f : Figures). f.leaves) more ∙ omega (arith, R.leaves);
            inner = ap (λ (f : Figures). f.inner) more ∙ R.inner;
          })
