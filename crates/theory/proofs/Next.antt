-- The next leaf: region 0's smallest key is the smallest of all, the first-chosen child of a region that has it has it too, and the working of a leaf that
-- has it keeps the order. A run that works none but such leaves has worked, at its end, as many as there are arcs with a reached tail.
use Prim.Native.Nat.{ℕ, ◌<◌}
use mathlib.Core.Bool.{true, false}
use mathlib.Core.Path.{◌≡◌, refl, sym, ◌∙◌}
use mathlib.Core.List.{List}
use native.Mathlib.Omega.{arith}
use Rattle.indices.specs.Columns.{at}
use Rattle.indices.proofs.Tests.{count_ext, count_out_all}
use Rattle.indices.proofs.Steps.{by_equal}
use Rattle.sheet.specs.Words.{top}
use Rattle.procedure.specs.Graph.{Graph, arcs, tail}
use Rattle.procedure.specs.Division.{Division, regions, arc_of, is_leaf}
use Rattle.procedure.specs.State.{Queues, State}
use Rattle.procedure.specs.Queues.{min_item, min_key}
use Rattle.procedure.specs.Procedure.{process_leaf, ended, start, after}
use Rattle.theory_shortest.specs.Work.{reached_tails}
use Rattle.theory_shortest.specs.WellFormed.{WellFormed}
use Rattle.theory.specs.Sound.{ShapeOf, SoundOf, Root}
use Rattle.theory.specs.Work.{LeastKey}
use Rattle.theory.proofs.Chosen.{chosen_of_key, min_key_leaf}
use Rattle.theory.proofs.Labels.{top_positive}
use Rattle.theory.proofs.Start.{first_labels, other_first, start_changes}
use Rattle.theory.proofs.Final.{after_shape, after_sound, root_least, sound_unkeyed}
use Rattle.theory.proofs.Scanned.{scanned_arcs, scanned_no, scanned_unkeyed, ScannedInOrder, InOrder, leaf_in_order}

-- region r has region 0's smallest key, in a state that is sound between two leaves and in order
pub record NextIn (g : Graph) (d : Division) (r : ℕ) (labels predecessors : List ℕ) (queues : Queues) (leaves : ℕ) : Type 0 where
  pub keyed : min_key d queues r < top
  pub least : min_key d queues r ≡ min_key d queues 0
  pub shape : ShapeOf g d labels predecessors queues
  pub sound : SoundOf g d Root labels predecessors queues
  pub in_order_lem : ScannedInOrder g labels queues.own leaves

abbrev pub Next : Graph → Division → ℕ → State → Type 0
Next g d r s = NextIn g d r s.labels s.predecessors s.queues s.leaves

module _ {most : ℕ} {g : Graph} {d : Division} {spans : List ℕ} (ok : WellFormed most g d spans) where
  -- a leaf that is next has a key, the smallest own key of all
  pub leaf_keyed : (r : ℕ) (s : State) → is_leaf d r ≡ true → Next g d r s → at s.queues.own (arc_of d r) < top
  leaf_keyed r s leaf p = rw (min_key_leaf d s.queues r leaf) at p.keyed

  pub leaf_least : (r : ℕ) (s : State) → is_leaf d r ≡ true → Next g d r s → LeastKey g s (arc_of d r)
  leaf_least r s leaf p b lb = omega (arith, p.least, min_key_leaf d s.queues r leaf, root_least ok s.queues p.sound.valued b lb)

  -- it is worked in order
  pub next_worked_in_order : (r : ℕ) (s : State) → r < regions d → is_leaf d r ≡ true → Next g d r s → InOrder g (process_leaf g d r s)
  next_worked_in_order r s lr leaf p = leaf_in_order ok r s lr leaf (leaf_keyed r s leaf p) p.shape p.sound (leaf_least r s leaf p) p.in_order_lem

  -- the first-chosen child of an inner region that is next is next
  pub child_next : (r : ℕ) (s : State) → is_leaf d r ≡ false → Next g d r s → Next g d (min_item d s.queues.keys r) s
  child_next r s inner p =
      let c = min_item d s.queues.keys r in
      let x = chosen_of_key d s.queues r inner p.keyed in
      let h = x.child in
      let pos = h.positive in
      let key : min_key d s.queues c ≡ min_key d s.queues r = sym (p.sound.valued c pos h.in_range (λ (e : c ≡ 0). omega arith)) ∙ x.key in
      record { keyed = omega (arith, p.keyed); least = key ∙ p.least; shape = p.shape; sound = p.sound; in_order_lem = p.in_order_lem }

  -- OVER ROUNDS
  -- at the start no arc is scanned: the source's outgoing arcs have keys, and no other tail is reached
  start_unscanned : (a : ℕ) → a < arcs g → at (first_labels g) (tail g a) < top → at (start g d).queues.own a ≡ top → ⊥
  start_unscanned a la r k =
      by_equal (tail g a) g.source
      (λ e. omega (arith, (start_changes ok).hit a la e, top_positive))
      (λ n. omega (arith, other_first ok (tail g a) (ok.graph.tail_in_lem a la) n))

  pub start_scans_none : scanned_arcs g (first_labels g) (start g d).queues.own ≡ 0
  start_scans_none = count_out_all _ (arcs g) (λ a la. scanned_no g _ _ a (start_unscanned a la))

  pub start_in_order : InOrder g (start g d)
  unfolding start
  start_in_order = record { order = λ a b la lb r k kb. absurd (start_unscanned a la r k); each_once = sym start_scans_none }

  -- before a round that is made, region 0 is next
  pub root_next : (k : ℕ) → min_key d (after g d spans k).queues 0 < top → InOrder g (after g d spans k) → Next g d 0 (after g d spans k)
  root_next k live p = record { keyed = live; least = refl; shape = after_shape ok k; sound = after_sound ok k; in_order_lem = p }

  -- where a run has ended, the scanned arcs are those with a reached tail
  pub ended_scanned : (k : ℕ) → ended g d (after g d spans k) ≡ true
      → scanned_arcs g (after g d spans k).labels (after g d spans k).queues.own ≡ reached_tails g (after g d spans k).labels
  ended_scanned k e =
      let s = after g d spans k in
      count_ext _ _ (arcs g) (λ a la. scanned_unkeyed g s.labels s.queues.own a (sound_unkeyed ok s (after_shape ok k) (after_sound ok k) e a la))

  -- so one that has ended in order has worked as many leaves as there are of these
  pub ended_leaves : (k : ℕ) → ended g d (after g d spans k) ≡ true → InOrder g (after g d spans k)
      → (after g d spans k).leaves ≡ reached_tails g (after g d spans k).labels
  ended_leaves k e p = p.each_once ∙ ended_scanned k e
