-- Request 2026-02 only parts the count of inner regions: with the fifteen added up, the procedure is the one that counted all of them in one figure. The
-- map that adds them up commutes with every step, so with any number of rounds.
use Prim.Native.Nat.{ℕ, zero, suc, pred, ◌≤◌, ◌<◌}
use mathlib.Core.Bool.{Bool, true, false, not}
use mathlib.Core.Path.{◌≡◌, refl, sym, ap, ◌∙◌}
use mathlib.Core.List.{List, ◌∷◌}
use native.Mathlib.Omega.{arith}
use lib.ListN.{length, set, replicate}
use lib.Seq.{get_or-set_same, get_or-set_other}
use lib.Dec.{T}
use Rattle.indices.specs.Columns.{at}
use Rattle.indices.specs.Steps.{times}
use Rattle.indices.specs.Tests.{total}
use Rattle.indices.proofs.Steps.{by_truth, times_keeps, times_maps}
use Rattle.indices.proofs.Totals.{total_one}
use Rattle.sheet.specs.Limits.{most_spans}
use Rattle.procedure.specs.Graph.{Graph}
use Rattle.procedure.specs.Division.{Division, regions, is_leaf, height, level, span_of}
use Rattle.procedure.specs.State.{State}
use Rattle.procedure.specs.Queues.{min_item}
use Rattle.procedure.specs.Procedure.{
  process_leaf,
  rewrite_key,
  count_at,
  count_inner,
  count_inner_before,
  count_round,
  process_child,
  alive,
  ended,
  start,
  process_for_by,
  process_by,
  round_by,
  after_by,
  after,
}
use Rattle.theory_shortest.specs.WellFormed.{DivisionOk}
use Rattle.theory.specs.Counts.{Levelled}
use Rattle.theory.proofs.Chosen.{chosen_of_key}
use Rattle.theory.proofs.Process.{recounted, leaf_recounted, alive_key, for_leaf, for_inner}
use Rattle.theory.proofs.Levels.{level_used, leaf_levels, inner_levels, start_levels, round_levels}

-- one more at one place is one more in all
joined_one : (counts : List ℕ) (l : ℕ) → length counts ≡ most_spans → l < most_spans
    → total (at (set counts l (suc (at counts l)))) most_spans ≡ suc (total (at counts) most_spans)
joined_one counts l all in_range =
    let counts' = set counts l (suc (at counts l)) in
    omega (
      arith,
      total_one (at counts) (at counts') l most_spans in_range (λ i li other. get_or-set_other counts l i _ 0 other),
      get_or-set_same counts l (suc (at counts l)) 0 (rw all in_range),
    )

-- the state with its fifteen counts of inner regions added up, in the place of the first
abbrev pub joined : State → State
joined = recounted (λ n. n) (λ counts. total (at counts) most_spans ∷ replicate (pred most_spans) 0)

module _ (g : Graph) {m : ℕ} {d : Division} (ok : DivisionOk m d) (spans : List ℕ) (few : height d 0 ≤ most_spans) where
  abbrev before : ℕ → State → State
  before = count_inner_before g d

  -- THE STEPS
  leaf_joined : (r : ℕ) (s : State) → process_leaf g d r (joined s) ≡ joined (process_leaf g d r s)
  leaf_joined = leaf_recounted g d (λ n. n) (λ counts. total (at counts) most_spans ∷ replicate (pred most_spans) 0)

  count_joined : (r : ℕ) (s : State) → r < regions d → is_leaf d r ≡ false → Levelled d s
      → before r (joined s) ≡ joined (count_inner g d r s)
  unfolding count_inner_before count_inner count_at
  count_joined r s lr inner p = rw (joined_one s.inner (level d r) p.fifteen (omega (arith, level_used g ok r lr inner, few)))

  -- WORKING a region, whatever the fuel
  record Joined (n r : ℕ) (s : State) : Type 0 where
    levels : Levelled d (process_for_by g d (count_inner g d) spans n r s)
    same : process_for_by g d before spans n r (joined s) ≡ joined (process_for_by g d (count_inner g d) spans n r s)

  -- a child worked, by ways that commute at it
  child_joined : (go go' : ℕ → State → State) (r : ℕ) (s : State) → let c = min_item d s.queues.keys r in
      go' c (joined s) ≡ joined (go c s) → process_child g d go' r (joined s) ≡ joined (process_child g d go r s)
  unfolding process_child rewrite_key
  child_joined go go' r s e = ap (rewrite_key g d (min_item d s.queues.keys r)) e

  child_levels : (go : ℕ → State → State) (r : ℕ) (s : State) → Levelled d (go (min_item d s.queues.keys r) s)
      → Levelled d (process_child g d go r s)
  unfolding process_child rewrite_key
  child_levels go r s p = record { fifteen = p.fifteen; unused = p.unused }

  same_alive : (r : ℕ) (s : State) → alive g d r (joined s) ≡ alive g d r s
  unfolding alive
  same_alive r s = refl

  -- the first-chosen child of a region that is alive
  chosen_in : (r : ℕ) (s : State) → is_leaf d r ≡ false → T (alive g d r s) → min_item d s.queues.keys r < regions d
  chosen_in r s inner live = (chosen_of_key d s.queues r inner (alive_key g d s r live)).child.in_range

  inner_joined : (n r : ℕ) (s : State) → r < regions d → Levelled d s → is_leaf d r ≡ false
      → ((c : ℕ) (t : State) → c < regions d → Levelled d t → Joined n c t) → Joined (suc n) r s
  inner_joined n r s lr p inner ih =
      let go = process_for_by g d (count_inner g d) spans n in
      let go' = process_for_by g d before spans n in
      let span = span_of d spans r in
      let today = for_inner g d (count_inner g d) spans n r s inner in
      let counted = inner_levels g ok r s lr inner p in
      let keep : (t : State) → T (alive g d r t) → Levelled d t → Levelled d (process_child g d go r t) =
      λ t live q. child_levels go r t (ih _ t (chosen_in r t inner live) q).levels in
      record {
        levels = rw today (times_keeps (λ t. Levelled d t) (alive g d r) (process_child g d go r) keep span (count_inner g d r s) counted);
        same =
            for_inner g d before spans n r (joined s) inner
            ∙ ap (times span (alive g d r) (process_child g d go' r)) (count_joined r s lr inner p)
            ∙ times_maps (λ t. Levelled d t) joined (alive g d r) (process_child g d go r) (process_child g d go' r) (same_alive r) keep
            (λ t live q. child_joined go go' r t (ih _ t (chosen_in r t inner live) q).same) span (count_inner g d r s) counted
            ∙ sym (ap joined today);
      }

  leaf_whole : (n r : ℕ) (s : State) → Levelled d s → is_leaf d r ≡ true → Joined n r s
  leaf_whole n r s p leaf =
      let today = for_leaf g d (count_inner g d) spans n r s leaf in
      record {
        levels = rw today (leaf_levels g ok r s p);
        same = for_leaf g d before spans n r (joined s) leaf ∙ leaf_joined r s ∙ sym (ap joined today);
      }

  worked_joined : (n r : ℕ) (s : State) → r < regions d → Levelled d s → Joined n r s
  unfolding process_for_by
  worked_joined zero r s lr p = record { levels = leaf_levels g ok r s p; same = leaf_joined r s }
  worked_joined (suc n) r s lr p =
      by_truth (is_leaf d r) (leaf_whole (suc n) r s p) (λ inner. inner_joined n r s lr p inner (λ c t lc q. worked_joined n c t lc q))

  -- A ROUND, and any number of them
  round_joined : (s : State) → Levelled d s → round_by g d before spans (joined s) ≡ joined (round_by g d (count_inner g d) spans s)
  unfolding round_by process_by count_round
  round_joined s p =
      (worked_joined (height d 0) 0 (count_round g d s) ok.nesting.root (record { fifteen = p.fifteen; unused = p.unused })).same

  same_ended : (s : State) → not (ended g d (joined s)) ≡ not (ended g d s)
  unfolding ended
  same_ended s = ap (λ (live : Bool). not (not live)) (same_alive 0 s)

  start_joined : start g d ≡ joined (start g d)
  unfolding start total
  start_joined = refl

  -- "one figure for all inner regions": what it was is the sum of the fifteen, and nothing else is another
  pub after_joined : (k : ℕ) → after_by g d before spans k ≡ joined (after g d spans k)
  unfolding after_by
  after_joined k =
      ap (times k (λ s. not (ended g d s)) (round_by g d before spans)) start_joined
      ∙ times_maps (λ s. Levelled d s) joined (λ s. not (ended g d s)) (round_by g d (count_inner g d) spans) (round_by g d before spans)
      same_ended (λ s _ p. round_levels g ok spans s p) (λ s _ p. round_joined s p) k (start g d) (start_levels g ok spans)
