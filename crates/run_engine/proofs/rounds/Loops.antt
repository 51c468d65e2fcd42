-- What the rounds rest on: one round is a working of region 0, and the rounds left to make lead to the same end.
use Prim.Native.Nat.{ℕ, suc, ◌+◌, ◌-◌, ◌<◌}
use mathlib.Core.Bool.{Bool, true, false, not}
use mathlib.Core.Path.{◌≡◌, refl, sym, ap, ◌∙◌}
use mathlib.Core.List.{List}
use native.Mathlib.Omega.{arith}
use borrow.Author.Tests.{le-leb, lt-leb}
use lib.Dec.{leb}
use Rattle.indices.specs.Steps.{times}
use Rattle.indices.proofs.Steps.{by_order, times_on}
use Rattle.sheet.specs.Words.{top}
use Rattle.procedure.specs.Graph.{Graph}
use Rattle.procedure.specs.Division.{Division}
use Rattle.procedure.specs.State.{State}
use Rattle.procedure.specs.Queues.{min_key}
use Rattle.procedure.specs.Procedure.{count_round, ended, process, round, more, round_by}
use Rattle.theory_shortest.specs.WellFormed.{DivisionOk}
use Rattle.theory.specs.Counts.{Small}
use Rattle.theory.proofs.Process.{key_running, none_ended}
use Rattle.theory.proofs.Grows.{grows_small, process_grows, rounds_grow}
use Rattle.run_counts.specs.Figures.{Figures, figures_in, round_more}
use Rattle.run_arrays.specs.declared.arrays.Layout.{Layout}
use Rattle.run_arrays.specs.declared.arrays.Run.{Run}
use Rattle.run_arrays.specs.States.{Represents, Workable}
use Rattle.run_engine.proofs.region.Loops.{Looping, loop-off}

-- "A run has ended when region 0's smallest key is none."
pub ended_by_key : (g : Graph) (d : Division) (s : State) (k : ℕ) → k ≡ min_key d s.queues 0 → leb top k ≡ ended g d s
ended_by_key g d s k e =
    by_order (min_key d s.queues 0) top (λ some. lt-leb top k (omega arith) ∙ sym (key_running g d s some))
    (λ none. le-leb top k (omega arith) ∙ sym (none_ended g d s none))

-- one round
by_process : (g : Graph) (d : Division) (spans : List ℕ) (s : State) → process g d spans 0 (count_round g d s) ≡ round g d spans s
unfolding round_by
by_process g d spans s = refl

round_counted_lem : (g : Graph) (d : Division) (s : State) → (count_round g d s).rounds ≡ suc s.rounds
unfolding count_round
round_counted_lem g d s = refl

module _ {g : Graph} {d : Division} {spans : List ℕ} {s : State} {layout : Layout} {run : Run} (R : Represents g d spans s layout run)
    (W : Workable d 0 (round g d spans s)) where
  pub round_count_fits : (figures_in run.counts).rounds + 1 < 18446744073709551616
  round_count_fits =
      let grown = process_grows g d R.fixed_ok.ok.division spans 0 (count_round g d s) W.in_range in
      let all = ap (λ (w : State). w.rounds) (by_process g d spans s) in
      omega (arith, R.rounds, grown.rounds, round_counted_lem g d s, all, W.small.rounds)

  -- the round is counted in `counts`
  pub round_begun : {counts : List ℕ} → figures_in counts ≡ round_more (figures_in run.counts)
      → Represents g d spans (count_round g d s) layout
      (record { labels = run.labels; predecessors = run.predecessors; keys = run.keys; counts = counts })
  unfolding count_round
  round_begun counted = record {
    fixed_ok = R.fixed_ok;
    labels = R.labels;
    predecessors = R.predecessors;
    queues =
        record {
          own = R.queues.own;
          owned = R.queues.owned;
          held = record { valid = R.queues.held.valid; counted = ap (λ (f : Figures). f.updates) counted ∙ R.queues.held.counted };
        };
    rounds = ap (λ (f : Figures). f.rounds) counted ∙ omega (arith, R.rounds);
    leaves = ap (λ (f : Figures). f.leaves) counted ∙ R.leaves;
    inner = ap (λ (f : Figures). f.inner) counted ∙ R.inner;
  }

  pub round_asks : Workable d 0 (process g d spans 0 (count_round g d s))
  round_asks = record { in_range = W.in_range; small = rw (by_process g d spans s) W.small }

-- a run goes on
abbrev pub running : Graph → Division → State → Bool
running g d s = not (ended g d s)

-- THE ROUNDS LEFT lead to `end`: a round is left to make, and the run goes on
module _ (g : Graph) (d : Division) (spans : List ℕ) (s : State) {left : ℕ} {end : State} (ahead : times left (running g d) (round g d spans) s ≡ end)
    (positive : 0 < left) (runs : ended g d s ≡ false) where
  onward_rounds : more g d spans (left - 1) (round g d spans s) ≡ end
  onward_rounds =
      let one : suc (left - 1) ≡ left = omega arith in
      sym (times_on (running g d) (round g d spans) (left - 1) s (ap not runs)) ∙ rw one ahead

  -- the counts at the end are small, and so are those of every round
  pub next_asks : {m : ℕ} → DivisionOk m d → Small end → Workable d 0 (round g d spans s)
  next_asks ok small = record {
    in_range = ok.nesting.root;
    small = grows_small (rounds_grow g d ok spans (left - 1) (round g d spans s)) (rw onward_rounds small);
  }

pub rounds_first : {g : Graph} {d : Division} {spans : List ℕ} {s : State} {layout : Layout} {run : Run} {limit : ℕ} → Represents g d spans s layout run
    → {left : ℕ} → left ≡ limit → Looping g d spans layout (running g d) (round g d spans) left (more g d spans limit s) s run
rounds_first R all = record { represents = R; sofar = rw all }

module _ {g : Graph} {d : Division} {spans : List ℕ} {layout : Layout} {left : ℕ} {end s : State} {run : Run}
    (L : Looping g d spans layout (running g d) (round g d spans) left end s run) where
  pub rounds_ended : ended g d s ≡ true → Represents g d spans end layout run
  rounds_ended e = loop-off L (ap not e)

  pub rounds_step : 0 < left → ended g d s ≡ false → {run' : Run} → Represents g d spans (process g d spans 0 (count_round g d s)) layout run'
      → {left' : ℕ} → left' ≡ left - 1 → Looping g d spans layout (running g d) (round g d spans) left' end (round g d spans s) run'
  rounds_step positive runs done fewer = record {
    represents = rw (by_process g d spans s) at done;
    sofar = rw fewer (onward_rounds g d spans s L.sofar positive runs);
  }
