-- Whatever the division and the spans, a run that has ended has worked no fewer leaves than there are arcs with a reached tail: a label that falls gives every
-- arc that leaves its node a key, so that relaxing makes no arc scanned, and the working of a leaf makes one at most.
use Prim.Native.Nat.{ℕ, suc, ◌≤◌, ◌<◌}
use mathlib.Core.Bool.{Bool, true, false, cond, true≢false}
use mathlib.Core.Path.{◌≡◌, sym, ◌∙◌}
use mathlib.Core.List.{List}
use native.Mathlib.Nat.{le_refl}
use native.Mathlib.Omega.{arith}
use lib.ListN.{set}
use Rattle.indices.proofs.Steps.{by_equal}
use Rattle.indices.proofs.Totals.{count_within}
use Rattle.sheet.specs.Words.{top}
use Rattle.procedure.specs.Graph.{Graph, arcs, tail, head}
use Rattle.procedure.specs.Division.{Division, regions, arc_of, is_leaf}
use Rattle.procedure.specs.State.{State}
use Rattle.procedure.specs.Procedure.{relax, clear_key, process_leaf, rewrite_key, count_at, count_inner, count_round, ended, start, after, after_by}
use Rattle.theory_shortest.specs.Work.{reached_tails}
use Rattle.theory_shortest.specs.WellFormed.{WellFormed}
use Rattle.theory.specs.Sound.{Shape}
use Rattle.theory.proofs.Process.{relax_elim}
use Rattle.theory.proofs.Grows.{leaf_counts}
use Rattle.theory.proofs.Start.{start_shape, start_sound}
use Rattle.theory.proofs.Lift.{Kept, rounds_keep}
use Rattle.theory.proofs.Scanned.{scanned, scanned_arcs, cleared_one, lowered_out, lowered_other}
use Rattle.theory.proofs.Next.{start_scans_none, ended_scanned}

abbrev scanned_in : Graph → State → ℕ
scanned_in g s = scanned_arcs g s.labels s.queues.own

module _ {most : ℕ} {g : Graph} {d : Division} {spans : List ℕ} (ok : WellFormed most g d spans) where
  relax_scans_none : (a : ℕ) (s : State) → a < arcs g → Shape g d s → scanned_in g (relax g d a s) ≤ scanned_in g s
  relax_scans_none a s la z =
      relax_elim (λ t. scanned_in g t ≤ scanned_in g s) g d a s
      (λ fell.
      count_within _ _ (arcs g)
      (λ b lb t.
      by_equal (tail g b) (head g a)
      (λ e. absurd (true≢false (sym t ∙ lowered_out ok a s la z fell b lb e))) (λ n. sym (lowered_other ok a s la z fell b n) ∙ t)))
      (λ _. le_refl _)

  clear_scans_one : (a : ℕ) (s : State) → a < arcs g → scanned_in g (clear_key g d a s) ≤ suc (scanned_in g s)
  unfolding clear_key
  clear_scans_one a s la =
      omega (arith, cleared_one g s.labels s.queues.own a la, at_most (scanned g s.labels (set s.queues.own a top) a))
    where
      at_most : (x : Bool) → cond x 1 0 ≤ 1
      at_most true = omega arith
      at_most false = omega arith

  leaf_scans_one : (r : ℕ) (s : State) → r < regions d → is_leaf d r ≡ true → Shape g d s → scanned_in g (process_leaf g d r s) ≤ suc (scanned_in g s)
  unfolding process_leaf
  leaf_scans_one r s lr leaf z =
      let a = arc_of d r in
      let la = (ok.division.leaf_arc_lem r lr leaf).0 in
      omega (arith, relax_scans_none a s la z, clear_scans_one a (relax g d a s) la)

  -- all else that a run does changes neither labels nor own keys nor leaves
  scans_kept : Kept g d (λ _ _ _ s. scanned_in g s ≤ s.leaves) (λ _ _ s. scanned_in g s ≤ s.leaves)
  unfolding count_at count_inner rewrite_key
  scans_kept = record {
    leaf = λ X r j s w _ leaf _ z _ p. omega (arith, p, (leaf_counts g d r s).0, leaf_scans_one r s w.in_range leaf z);
    inner = λ X r j s _ _ _ _ _ p. p;
    enter = λ X r j s _ _ _ _ _ p. p;
    rewritten = λ X r c s _ _ _ _ p. p;
    weak = λ X r j s p. p;
  }

  after_scanned : (k : ℕ) → scanned_in g (after g d spans k) ≤ (after g d spans k).leaves
  unfolding start count_round after_by
  after_scanned k =
      (rounds_keep ok (λ s. scanned_in g s ≤ s.leaves) scans_kept (λ s p. p) (λ s p. p) k (start g d)
      (record { shape = start_shape ok; sound = start_sound ok; kept = omega (arith, start_scans_none ok) })).kept

  -- no ended run works fewer leaves than there are arcs with a reached tail
  pub no_fewer_leaves : (k : ℕ) → ended g d (after g d spans k) ≡ true → reached_tails g (after g d spans k).labels ≤ (after g d spans k).leaves
  no_fewer_leaves k e = omega (arith, after_scanned k, ended_scanned ok k e)
