-- What a loop of steps rests on, and the turns of an inner region: those left to make lead to the same end.
use Prim.Native.Nat.{ℕ, suc, pred, ◌-◌, ◌≤◌, ◌<◌}
use mathlib.Core.Bool.{Bool, true, false}
use mathlib.Core.Path.{◌≡◌, sym, ap, ◌∙◌}
use mathlib.Core.Logic.{◌≢◌}
use mathlib.Core.List.{List}
use native.Mathlib.Omega.{arith}
use lib.ListN.{length, set}
use Rattle.indices.specs.Columns.{at}
use Rattle.indices.specs.Steps.{times}
use Rattle.indices.proofs.Steps.{times_on, times_off, times_none}
use Rattle.sheet.specs.Words.{top}
use Rattle.sheet.proofs.Heights.{root_highest}
use Rattle.procedure.specs.Graph.{Graph}
use Rattle.procedure.specs.Division.{Division, regions, parent, is_leaf, height, level, span_of}
use Rattle.procedure.specs.State.{State}
use Rattle.procedure.specs.Queues.{min_item, min_key}
use Rattle.procedure.specs.Procedure.{process_leaf, rewrite_key, count_at, count_inner, process_child, alive, process}
use Rattle.theory.proofs.Chosen.{Chosen, chosen_of_key}
use Rattle.theory.proofs.Process.{key_alive, none_alive, inner_high, chosen_lower, process_leaf_lem, process_inner_lem}
use Rattle.theory.proofs.Grows.{grows_trans, grows_small, rewrite_key_grows, process_grows, children_grow}
use Rattle.run_counts.specs.Figures.{Figures, InnerFits, figures_in, inner_more}
use Rattle.run_arrays.specs.declared.arrays.Layout.{Layout}
use Rattle.run_arrays.specs.declared.arrays.Run.{Run}
use Rattle.run_arrays.specs.Trees.{IsMinKey, QueuesOk, SomeQueue}
use Rattle.run_arrays.specs.Fixed.{no_arc, HasSpan}
use Rattle.run_arrays.specs.States.{Keyed, Represents, Workable}
use Rattle.run_engine.proofs.leaf.Leaves.{region_fits}
use Rattle.run_engine.proofs.region.Regions.{entry_inner, entry_leaf, before_height}

-- the arrays represent s, and up to `left` steps from s lead to `end`
pub record Looping (g : Graph) (d : Division) (spans : List ℕ) (layout : Layout) (test : State → Bool) (step : State → State) (left : ℕ) (end s : State)
    (run : Run) : Type 0 where
  pub represents : Represents g d spans s layout run
  pub sofar : times left test step s ≡ end

module _ {g : Graph} {d : Division} {spans : List ℕ} {layout : Layout} {test : State → Bool} {step : State → State} {left : ℕ} {end s : State}
    {run : Run} (L : Looping g d spans layout test step left end s run) where
  -- the end, where the test fails
  pub loop-off : test s ≡ false → Represents g d spans end layout run
  loop-off e = rw (← L.sofar, times_off test step left s e) L.represents

  -- and where no step is left
  pub loop-spent : left ≤ 0 → Represents g d spans end layout run
  loop-spent l = let e : left ≡ 0 = omega arith in rw (← L.sofar, e, times_none test step s) L.represents

  -- otherwise one step is made
  pub loop-on : 0 < left → test s ≡ true → times (left - 1) test step (step s) ≡ end
  loop-on pos e = sym (times_on test step (left - 1) s e) ∙ (let one : suc (left - 1) ≡ left = omega arith in rw one L.sofar)

-- THE TURNS OF AN INNER REGION
abbrev pub turn : Graph → Division → List ℕ → ℕ → State → State
turn g d spans r s = process_child g d (process g d spans) r s

module _ {g : Graph} {d : Division} {spans : List ℕ} {s : State} {layout : Layout} {run : Run} {r : ℕ}
    (R : Represents g d spans s layout run) (W : Workable d r (process g d spans r s)) (inner : is_leaf d r ≡ false) where
  heights : at layout.heights r ≡ height d r
  heights = R.fixed_ok.heights r W.in_range

  -- a region's height is one of those that have a span
  height_in_lem : height d r ≤ length spans
  height_in_lem =
      let ok = R.fixed_ok.ok in
      omega (arith, root_highest (is_leaf d) (parent d) (regions d) ok.division.nesting r W.in_range, ok.attention.each_height)

  height_positive : 0 < height d r
  height_positive = inner_high R.fixed_ok.ok.division r W.in_range inner

  -- what `span_of` asks
  pub span_asks : HasSpan layout.heights r
  span_asks = record {
    in_range = region_fits R W;
    positive = omega (arith, heights, height_positive);
    few = omega (arith, heights, height_in_lem, R.fixed_ok.ok.attention.few);
  }

  -- the place of its height
  levels : at layout.heights r - 1 ≡ level d r
  levels = before_height (at layout.heights r) ∙ ap pred heights

  pub inner_count_fits : {l : ℕ} → l ≡ at layout.heights r - 1 → InnerFits (figures_in run.counts) l
  inner_count_fits {l} found =
      let more = process_grows g d R.fixed_ok.ok.division spans r s W.in_range in
      record {
        in_range = omega (arith, found, span_asks.positive, span_asks.few);
        fits = omega (arith, ap (λ (counts : List ℕ). at counts l) R.inner, more.inner l, W.small.inner l);
      }

-- the region is counted in `counts`, at the place l of its height, and `left` is its span
pub record Opened (g : Graph) (d : Division) (spans : List ℕ) (s : State) (layout : Layout) (run : Run) (r left l : ℕ) (counts : List ℕ) : Type 0 where
  pub represents : Represents g d spans s layout run
  pub workable : Workable d r (process g d spans r s)
  pub inner : is_leaf d r ≡ false
  pub span : left ≡ at layout.spans (at layout.heights r - 1)
  pub found : l ≡ at layout.heights r - 1
  pub counted : figures_in counts ≡ inner_more (figures_in run.counts) l

module _ {g : Graph} {d : Division} {spans : List ℕ} {s : State} {layout : Layout} {run : Run} {r left l : ℕ} {counts : List ℕ}
    (O : Opened g d spans s layout run r left l counts) where
  abbrev opened : Run
  opened = record { labels = run.labels; predecessors = run.predecessors; keys = run.keys; counts = counts }

  abbrev R : Represents g d spans s layout run
  R = O.represents

  is_level : at layout.heights r - 1 ≡ level d r
  is_level = levels R O.workable O.inner

  counted_represents : Represents g d spans (count_inner g d r s) layout opened
  unfolding count_at count_inner
  counted_represents = record {
    fixed_ok = R.fixed_ok;
    labels = R.labels;
    predecessors = R.predecessors;
    queues = record { own = R.queues.own; owned = R.queues.owned; held = record { valid = R.queues.held.valid; counted = ap (λ (f : Figures). f.updates) O.counted ∙ R.queues.held.counted } };
    rounds = ap (λ (f : Figures). f.rounds) O.counted ∙ R.rounds;
    leaves = ap (λ (f : Figures). f.leaves) O.counted ∙ R.leaves;
    inner = ap (λ (f : Figures). f.inner) O.counted ∙ rw (R.inner, O.found, is_level) (ap (set s.inner (level d r)) (omega arith));
  }

  is_span : left ≡ span_of d spans r
  is_span =
      let within : pred (height d r) < length spans =
      omega (arith, height_positive R O.workable O.inner, height_in_lem R O.workable O.inner) in
      O.span ∙ ap (at layout.spans) is_level ∙ R.fixed_ok.each_span (level d r) within

  -- the loop begins: the turns are the working of the region
  pub turns_first : {left' : ℕ} → left' ≡ left
      → Looping g d spans layout (alive g d r) (turn g d spans r) left' (process g d spans r s) (count_inner g d r s) opened
  turns_first all = record {
    represents = counted_represents;
    sofar = rw (all, is_span) (sym (process_inner_lem g d spans R.fixed_ok.ok.division r s O.workable.in_range O.inner));
  }

-- the queues are valid in every turn
pub turn_queue : {g : Graph} {d : Division} {spans : List ℕ} {layout : Layout} {test : State → Bool} {step : State → State} {left : ℕ} {end s : State}
    {run : Run} → Looping g d spans layout test step left end s run → {r : ℕ} → r < regions d
    → SomeQueue layout.rows run.keys.winners r
turn_queue {d = d} {s = s} L inside =
    record { division = d; keys = s.queues.keys; queues = L.represents.queues.held.valid; inside = inside }

-- the smallest key is none
pub turns_none : {g : Graph} {d : Division} {spans : List ℕ} {layout : Layout} (r : ℕ) {left : ℕ} {end s : State} {run : Run}
    → Looping g d spans layout (alive g d r) (turn g d spans r) left end s run → {least : ℕ} → least ≡ min_key d s.queues r → top ≤ least
    → Represents g d spans end layout run
turns_none {g} {d} r {s = s} L key l = loop-off L (none_alive g d s r (omega arith))

-- it isn't, and the first-chosen child x is worked
pub record Turning (g : Graph) (d : Division) (spans : List ℕ) (layout : Layout) (r left : ℕ) (end s : State) (run : Run) (x : ℕ)
    : Type 0 where
  pub workable : Workable d r end
  pub inner : is_leaf d r ≡ false
  pub loop : Looping g d spans layout (alive g d r) (turn g d spans r) left end s run
  pub positive : 0 < left
  pub some : min_key d s.queues r < top
  pub item : x ≡ min_item d s.queues.keys r

pub turning : {g : Graph} {d : Division} {spans : List ℕ} {layout : Layout} {r left : ℕ} {end s : State} {run : Run} {x least : ℕ}
    → Workable d r end → is_leaf d r ≡ false
    → Looping g d spans layout (alive g d r) (turn g d spans r) left end s run → 0 < left → least < top
    → ((keys : List ℕ) → QueuesOk d layout.rows keys run.keys.winners → r < regions d → IsMinKey d keys r least)
    → ((keys : List ℕ) → QueuesOk d layout.rows keys run.keys.winners → r < regions d → x ≡ min_item d keys r)
    → Turning g d spans layout r left end s run x
turning {s = s} W inner L positive small key item =
    let valid = L.represents.queues.held.valid in
    record {
      workable = W;
      inner = inner;
      loop = L;
      positive = positive;
      some = omega (arith, key _ valid W.in_range inner s.queues.own s.queues.updates);
      item = item _ valid W.in_range;
    }

module _ {g : Graph} {d : Division} {spans : List ℕ} {layout : Layout} {r left : ℕ} {end s : State} {run : Run} {x : ℕ}
    (T : Turning g d spans layout r left end s run x) where
  chosen : Chosen d s.queues r
  chosen = chosen_of_key d s.queues r T.inner T.some

  pub child_in_lem : x < regions d
  child_in_lem = rw T.item chosen.child.in_range

  pub child_positive : 0 < x
  child_positive = rw T.item chosen.child.positive

  pub child_lower : at layout.heights x < at layout.heights r
  child_lower =
      let ok = T.loop.represents.fixed_ok in
      rw (ok.heights x child_in_lem, ok.heights r T.workable.in_range, T.item) (chosen_lower ok.ok.division s r chosen)

  onward : times (left - 1) (alive g d r) (turn g d spans r) (rewrite_key g d x (process g d spans x s)) ≡ end
  unfolding process_child
  onward = rw T.item (loop-on T.loop T.positive (key_alive g d s r T.some))

  pub child_asks : Workable d x (process g d spans x s)
  child_asks =
      let worked = process g d spans x s in
      record {
        in_range = child_in_lem;
        small =
            grows_small
            (grows_trans (rewrite_key_grows g d x worked)
            (children_grow g d T.loop.represents.fixed_ok.ok.division spans (left - 1) r (rewrite_key g d x worked) T.inner))
            (rw onward T.workable.small);
      }

  pub key_asks : Keyed g d layout x
  key_asks =
      let ok = T.loop.represents.fixed_ok in
      record { few = ok.ok.graph.few_arcs; division = ok.ok.division; region_arcs = ok.region_arcs; in_range = child_in_lem }

  -- it is worked, its key is rewritten, and the loop goes on
  pub turned : {run' : Run} → Represents g d spans (process g d spans x s) layout run' → {k : ℕ} → k ≡ min_key d (process g d spans x s).queues x
      → {winners : List ℕ} → QueuesOk d layout.rows (set (process g d spans x s).queues.keys x k) winners → {left' : ℕ} → left' ≡ left - 1
      → Looping g d spans layout (alive g d r) (turn g d spans r) left' end (rewrite_key g d x (process g d spans x s))
      (record {
        labels = run'.labels;
        predecessors = run'.predecessors;
        keys = record { own = run'.keys.own; winners = winners };
        counts = run'.counts;
      })
  unfolding rewrite_key
  turned W e valid fewer = record {
    represents = record {
      fixed_ok = W.fixed_ok;
      labels = W.labels;
      predecessors = W.predecessors;
      queues = record { own = W.queues.own; owned = W.queues.owned; held = record { valid = rw e at valid; counted = W.queues.held.counted } };
      rounds = W.rounds;
      leaves = W.leaves;
      inner = W.inner;
    };
    sofar = rw fewer onward;
  }

-- the working of a region, whose entry among the regions' arcs is a
module _ {g : Graph} {d : Division} {spans : List ℕ} {s : State} {layout : Layout} {run : Run} {r : ℕ}
    (R : Represents g d spans s layout run) (W : Workable d r (process g d spans r s)) {a : ℕ}
    (row : a ≡ at layout.region_arcs r) where
  -- it is inner, and worked as such
  pub region_inner : a ≡ no_arc → is_leaf d r ≡ false
  region_inner =
      let ok = R.fixed_ok in
      entry_inner ok.ok.division ok.ok.graph.few_arcs ok.region_arcs W.in_range row

  -- or it is a leaf
  module _ (some : a ≢ no_arc) where
    pub region_leaf : is_leaf d r ≡ true
    region_leaf =
        let ok = R.fixed_ok in
        entry_leaf ok.ok.division ok.ok.graph.few_arcs ok.region_arcs W.in_range row some

    pub leaf_asks : Workable d r (process_leaf g d r s)
    leaf_asks = record { in_range = W.in_range; small = rw (← process_leaf_lem g d spans r s region_leaf) W.small }

    pub leaf_worked : {run' : Run} → Represents g d spans (process_leaf g d r s) layout run' → Represents g d spans (process g d spans r s) layout run'
    leaf_worked done = rw (process_leaf_lem g d spans r s region_leaf) done
