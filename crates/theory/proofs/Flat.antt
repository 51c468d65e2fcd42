-- Where every region but 0 is a leaf, each leaf worked has the smallest key of all whatever the span, and a round works as many as the span says while
-- there are any.
use Prim.Native.Nat.{ℕ, suc, pred, ◌+◌, ◌*◌, ◌≤◌, ◌<◌}
use mathlib.Core.Bool.{true}
use mathlib.Core.Path.{◌≡◌, refl, ap, ◌∙◌}
use mathlib.Core.Logic.{inl, inr, ⊎_elim}
use mathlib.Core.List.{List}
use native.Mathlib.Omega.{arith}
use lib.Dec.{T}
use Rattle.indices.specs.Columns.{at}
use Rattle.indices.specs.Steps.{times}
use Rattle.indices.proofs.Steps.{T_of, Stepped, times_keeps, times_stepped}
use Rattle.sheet.specs.Words.{top}
use Rattle.sheet.proofs.Heights.{flat_height}
use Rattle.procedure.specs.Graph.{Graph}
use Rattle.procedure.specs.Division.{Division, regions, parent, is_leaf, span_of}
use Rattle.procedure.specs.State.{State}
use Rattle.procedure.specs.Queues.{min_item, min_key}
use Rattle.procedure.specs.Procedure.{process_leaf, rewrite_key, count_at, count_inner, count_round}
use Rattle.procedure.specs.Procedure.{process_child, alive, ended, process, start, round, after, round_by}
use Rattle.theory_shortest.specs.WellFormed.{WellFormed}
use Rattle.theory_shortest.specs.Work.{RoundShared}
use Rattle.theory.specs.Sound.{Root}
use Rattle.theory.proofs.Chosen.{chosen_of_key}
use Rattle.theory.proofs.Smallest.{Closed, ◌with◌}
use Rattle.theory.proofs.Process.{key_alive, alive_key, process_leaf_lem, process_inner_lem}
use Rattle.theory.proofs.Labels.{sound_enter, leaf_shape, leaf_sound, rewrite_key_shape, rewrite_key_sound}
use Rattle.theory.proofs.Grows.{leaf_counts}
use Rattle.theory.proofs.Lift.{Held, span_positive}
use Rattle.theory.proofs.Final.{after_each}
use Rattle.theory.proofs.Scanned.{InOrder}
use Rattle.theory.proofs.Next.{Next, leaf_keyed, next_worked_in_order, child_next, start_in_order, root_next, ended_leaves}

-- what a round leaves: the order, and one to span leaves more, as many as the span says where something still has a key
record RoundOf (g : Graph) (d : Division) (span rounds leaves : ℕ) (t : State) : Type 0 where
  in_order_lem : InOrder g t
  steps : Stepped span leaves t.leaves (T (alive g d 0 t))
  counted : t.rounds ≡ rounds

-- The leaves worked so far are shared out to the rounds made: the last round has one to span of them, every other one span, and the last one too where
-- something still has a key.
record Shared (g : Graph) (d : Division) (span : ℕ) (s : State) : Type 0 where
  in_order_lem : InOrder g s
  enough : s.leaves ≤ s.rounds * span
  needed : s.rounds * span < s.leaves + span
  whole_while_alive : T (alive g d 0 s) → s.leaves ≡ s.rounds * span

module _ {most : ℕ} {g : Graph} {d : Division} {spans : List ℕ} (ok : WellFormed most g d spans)
    (leaves : (r : ℕ) → 0 < r → r < regions d → is_leaf d r ≡ true) where
  abbrev span : ℕ
  span = at spans 0

  -- region 0 has the span of height 1
  root_span : span_of d spans 0 ≡ span
  root_span =
      ap (λ (h : ℕ). at spans (pred h)) (flat_height (is_leaf d) (parent d) (regions d) ok.division.nesting ok.division.root_inner leaves)

  above_zero : 0 < span
  above_zero = rw root_span at (span_positive ok 0 ok.division.nesting.root ok.division.root_inner)

  -- between two leaves: the invariant, the order, and the rounds so far
  abbrev Between : ℕ → State → Type 0
  Between rounds s = Held g d Root (λ t. InOrder g t × (t.rounds ≡ rounds)) s

  -- region 0 hands the turn to the next leaf, and rewrites its key afterwards: neither labels nor own keys nor counts change by this
  child_between : (rounds : ℕ) (s : State) → min_key d s.queues 0 < top → Between rounds s
      → Between rounds (process_child g d (process g d spans) 0 s) × ((process_child g d (process g d spans) 0 s).leaves ≡ suc s.leaves)
  unfolding process_child rewrite_key
  child_between rounds s live p =
      let c = min_item d s.queues.keys 0 in
      let inner = ok.division.root_inner in
      let h = (chosen_of_key d s.queues 0 inner live).child in
      let lc = h.in_range in
      let leaf = leaves c h.positive lc in
      let next = child_next ok 0 s inner (record { keyed = live; least = refl; shape = p.shape; sound = p.sound; in_order_lem = p.kept.0 }) in
      let closed : Closed d (Root with c) = λ r pos lr w. inr (⊎_elim (λ (e : r ≡ c). rw e h.under) (λ (e : r ≡ 0). absurd (omega arith)) w) in
      let s' = process_leaf g d c s in
      let shape = leaf_shape ok c s lc leaf p.shape in
      let sound = leaf_sound ok (Root with c) c s closed (inl refl) lc leaf (leaf_keyed ok c s leaf next) p.shape (sound_enter c p.sound) in
      let counts = leaf_counts g d c s in
      rw (process_leaf_lem g d spans c s leaf) (
        record {
          shape = rewrite_key_shape ok c s' h.positive shape;
          sound = rewrite_key_sound ok Root c s' h.under h.positive lc shape sound;
          kept = (next_worked_in_order ok c s lc leaf next, counts.1 ∙ p.kept.1);
        },
        counts.0,
      )

  -- the loop of region 0
  loop-round : (rounds : ℕ) (s : State) → T (alive g d 0 s) → Between rounds s
      → RoundOf g d span rounds s.leaves (times span (alive g d 0) (process_child g d (process g d spans) 0) s)
  loop-round rounds s live p =
      let step = process_child g d (process g d spans) 0 in
      let keep : (t : State) → T (alive g d 0 t) → Between rounds t → Between rounds (step t) = λ t a q. (child_between rounds t (alive_key g d t 0 a) q).0 in
      let raise : (t : State) → T (alive g d 0 t) → Between rounds t → (step t).leaves ≡ suc t.leaves =
      λ t a q. (child_between rounds t (alive_key g d t 0 a) q).1 in
      let end = times_keeps (λ t. Between rounds t) (alive g d 0) step keep span s p in
      record {
        in_order_lem = end.kept.0;
        steps = times_stepped (λ t. Between rounds t) (λ t. t.leaves) (alive g d 0) step keep raise span s above_zero live p;
        counted = end.kept.1;
      }

  -- a round is the loop of region 0
  round_flat : (s : State) → Next g d 0 s → RoundOf g d span (suc s.rounds) s.leaves (round g d spans s)
  unfolding round_by count_round count_at count_inner
  round_flat s p =
      let s' = count_inner g d 0 (count_round g d s) in
      rw (process_inner_lem g d spans ok.division 0 (count_round g d s) ok.division.nesting.root ok.division.root_inner, root_span)
      (loop-round (suc s.rounds) s' (T_of _ (key_alive g d s' 0 p.keyed)) (record { shape = p.shape; sound = p.sound; kept = (p.in_order_lem, refl) }))

  -- after any number of rounds the arcs were scanned in order, in shares of the span's size, all of them whole while something has a key
  after_flat : (k : ℕ) → Shared g d span (after g d spans k)
  unfolding start
  after_flat =
      after_each g d spans (λ s. Shared g d span s)
      (record { in_order_lem = start_in_order ok; enough = omega arith; needed = omega (arith, above_zero); whole_while_alive = λ _. omega arith })
      (λ k live p.
      let s = after g d spans k in
      let q = round_flat s (root_next ok k live p.in_order_lem) in
      let whole = p.whole_while_alive (T_of _ (key_alive g d s 0 live)) in
      let rounds = ap (λ (n : ℕ). n * span) q.counted in
      record {
        in_order_lem = q.in_order_lem;
        enough = omega (arith, q.steps.no_more);
        needed = omega (arith, q.steps.some);
        whole_while_alive = λ alive. omega (arith, q.steps.all alive);
      })

  -- an ended run has worked as many leaves as there are arcs with a reached tail, a span of them each round, in the last perhaps fewer
  pub flat_work : (k : ℕ) → ended g d (after g d spans k) ≡ true
      → RoundShared g (after g d spans k).labels span (after g d spans k).rounds (after g d spans k).leaves
  flat_work k e = record { each_once = ended_leaves ok k e (after_flat k).in_order_lem; enough = (after_flat k).enough; needed = (after_flat k).needed }
