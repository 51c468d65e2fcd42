-- Inner regions are counted by height: one count grows by one where a region is worked, there are always fifteen, and those of unused heights stay 0.
use Prim.Native.Nat.{ℕ, zero, suc, pred, ◌≤◌, ◌<◌}
use mathlib.Core.Bool.{false, not}
use mathlib.Core.Path.{◌≡◌, refl, ◌∙◌}
use mathlib.Core.Logic.{◌≢◌}
use mathlib.Core.List.{List, [], ◌∷◌}
use native.Mathlib.Nat.{le_refl}
use native.Mathlib.Omega.{arith}
use lib.ListN.{set, replicate, length-set, length-replicate}
use lib.Seq.{get_or-set_other}
use Rattle.indices.specs.Columns.{at}
use Rattle.indices.proofs.Steps.{times_keeps}
use Rattle.sheet.specs.Limits.{most_spans}
use Rattle.sheet.proofs.Heights.{root_highest}
use Rattle.procedure.specs.Graph.{Graph}
use Rattle.procedure.specs.Division.{Division, regions, parent, arc_of, is_leaf, height, level}
use Rattle.procedure.specs.State.{State}
use Rattle.procedure.specs.Procedure.{
  clear_key,
  process_leaf,
  rewrite_key,
  count_inner,
  count_round,
  ended,
  start,
  round,
  more,
  after,
  after_by,
  count_at,
  round_by,
}
use Rattle.theory_shortest.specs.WellFormed.{DivisionOk}
use Rattle.theory.specs.Counts.{Levelled}
use Rattle.theory.proofs.Process.{relax_elim, inner_high, Invariant, process_invariant}

-- where one count grows by one, none falls and none grows by more
pub one_more : (counts : List ℕ) (l i : ℕ) → let counts' = set counts l (suc (at counts l)) in (at counts i ≤ at counts' i) × (at counts' i ≤ suc (at counts i))
one_more [] l i = (le_refl _, omega arith)
one_more (x ∷ xs) zero zero = (omega arith, le_refl _)
one_more (x ∷ xs) zero (suc i) = (le_refl _, omega arith)
one_more (x ∷ xs) (suc l) zero = (le_refl _, omega arith)
one_more (x ∷ xs) (suc l) (suc i) = one_more xs l i

pub zeros : (n i : ℕ) → at (replicate n 0) i ≡ 0
zeros zero i = refl
zeros (suc n) zero = refl
zeros (suc n) (suc i) = zeros n i

module _ (g : Graph) {m : ℕ} {d : Division} (ok : DivisionOk m d) where
  -- the height of an inner region is one of those that are counted
  pub level_used : (r : ℕ) → r < regions d → is_leaf d r ≡ false → level d r < height d 0
  level_used r lr inner =
      let below : pred (height d r) < height d 0 = omega (
        arith,
        inner_high ok r lr inner,
        root_highest (is_leaf d) (parent d) (regions d) ok.nesting r lr,
      ) in
      below

  -- what every step keeps
  pub leaf_levels : (r : ℕ) (s : State) → Levelled d s → Levelled d (process_leaf g d r s)
  unfolding process_leaf clear_key
  leaf_levels r s p =
      relax_elim (λ t. Levelled d (clear_key g d (arc_of d r) t)) g d (arc_of d r) s
      (λ _. record { fifteen = p.fifteen; unused = p.unused }) (λ _. record { fifteen = p.fifteen; unused = p.unused })

  pub inner_levels : (r : ℕ) (s : State) → r < regions d → is_leaf d r ≡ false → Levelled d s → Levelled d (count_inner g d r s)
  unfolding count_at count_inner
  inner_levels r s lr inner p = record {
    fifteen = length-set s.inner (level d r) _ ∙ p.fifteen;
    unused = λ i h.
        let other : i ≢ level d r = λ e. omega (arith, level_used r lr inner) in
        get_or-set_other s.inner (level d r) i _ 0 other ∙ p.unused i h;
  }

  levels_invariant : Invariant g d (λ s. Levelled d s)
  unfolding rewrite_key
  levels_invariant = record {
    leaf = λ r s _ _ p. leaf_levels r s p;
    inner = inner_levels;
    rewritten = λ c s _ _ p. record { fifteen = p.fifteen; unused = p.unused };
  }

  module _ (spans : List ℕ) where
    pub start_levels : Levelled d (start g d)
    unfolding start
    start_levels = record { fifteen = length-replicate {A = ℕ} most_spans 0; unused = λ i _. zeros most_spans i }

    pub round_levels : (s : State) → Levelled d s → Levelled d (round g d spans s)
    unfolding round_by count_round
    round_levels s p =
        process_invariant g d spans ok levels_invariant 0 (count_round g d s) ok.nesting.root (record { fifteen = p.fifteen; unused = p.unused })

    -- "fifteen, for heights 1 to 15, zero where unused", after any number of rounds more, from a state that has them
    pub more_levels : (k : ℕ) (s : State) → Levelled d s → Levelled d (more g d spans k s)
    more_levels = times_keeps (λ s. Levelled d s) (λ s. not (ended g d s)) (round g d spans) (λ s _ p. round_levels s p)

    pub after_levels : (k : ℕ) → Levelled d (after g d spans k)
    unfolding after_by
    after_levels k = more_levels k (start g d) start_levels
