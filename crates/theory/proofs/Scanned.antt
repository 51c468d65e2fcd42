-- Where leaves are worked in the order of their keys, as Dijkstra's procedure does, each leaf worked makes one arc more scanned, and what is scanned stays
-- so.
use Prim.Native.Nat.{ℕ, ◌+◌, ◌≤◌, ◌<◌}
use mathlib.Core.Bool.{Bool, true, false, cond, ◌&&◌, and-true}
use mathlib.Core.Path.{◌≡◌, refl, sym, ap, ◌∙◌}
use mathlib.Core.Logic.{◌≢◌, ◌⊎◌, inl, inr, ⊎_elim}
use mathlib.Core.List.{List}
use native.Mathlib.Omega.{arith}
use borrow.Author.Tests.{lt-ltb, eq-eqb, ltb-true, eqb-true}
use lib.ListN.{length, set}
use lib.Seq.{get_or-set_same, get_or-set_other}
use lib.Dec.{ltb, eqb}
use Rattle.indices.specs.Columns.{at}
use Rattle.indices.specs.Tests.{count}
use Rattle.indices.proofs.Tests.{and_left, and_right, and_both, count_ext}
use Rattle.indices.proofs.Steps.{by_equal, by_truth, set_elim}
use Rattle.indices.proofs.Totals.{count_one}
use Rattle.sheet.specs.Words.{top}
use Rattle.procedure.specs.Graph.{Graph, arcs, tail, head}
use Rattle.procedure.specs.Division.{Division, regions, arc_of, is_leaf}
use Rattle.procedure.specs.State.{State, label}
use Rattle.procedure.specs.Procedure.{relax, clear_key, process_leaf}
use Rattle.theory_shortest.specs.WellFormed.{WellFormed}
use Rattle.theory.specs.Sound.{Shape, Sound}
use Rattle.theory.specs.Work.{LeastKey}
use Rattle.theory.proofs.Outgoing.{Outgoing, outgoing_changes}
use Rattle.theory.proofs.Process.{sum_by, lowered, relax_elim}
use Rattle.theory.proofs.Labels.{few_arcs, relax_shape}

-- an arc is scanned where its tail is reached and it has no key
unfoldable pub scanned : Graph → List ℕ → List ℕ → ℕ → Bool
scanned g labels own a = ltb (at labels (tail g a)) top && eqb (at own a) top

-- how many arcs are
abbrev pub scanned_arcs : Graph → List ℕ → List ℕ → ℕ
scanned_arcs g labels own = count (scanned g labels own) (arcs g)

module _ (g : Graph) (labels own : List ℕ) (a : ℕ) where
  abbrev tail_in : Bool
  tail_in = ltb (at labels (tail g a)) top

  abbrev keyless : Bool
  keyless = eqb (at own a) top

  scanned_yes : at labels (tail g a) < top → at own a ≡ top → scanned g labels own a ≡ true
  unfolding scanned
  scanned_yes l e = and_both tail_in keyless (lt-ltb _ _ l) (eq-eqb _ _ e)

  pub scanned_no : (at labels (tail g a) < top → at own a ≡ top → ⊥) → scanned g labels own a ≡ false
  unfolding scanned
  scanned_no never =
      by_truth (tail_in && keyless)
      (λ t. absurd (never (ltb-true _ _ (and_left tail_in keyless t)) (eqb-true _ _ (and_right tail_in keyless t)))) (λ f. f)

  -- it depends on the tail's label and the own key alone
  scanned_same : (labels' own' : List ℕ) → at labels' (tail g a) ≡ at labels (tail g a) → at own' a ≡ at own a
      → scanned g labels' own' a ≡ scanned g labels own a
  unfolding scanned
  scanned_same labels' own' e f = rw (e, f)

  pub scanned_keyless : scanned g labels own a ≡ true → at own a ≡ top
  unfolding scanned
  scanned_keyless t = eqb-true _ _ (and_right tail_in keyless t)

  -- where the arc has no key, it is scanned just where its tail is reached
  pub scanned_unkeyed : at own a ≡ top → scanned g labels own a ≡ tail_in
  unfolding scanned
  scanned_unkeyed e = rw (eq-eqb _ _ e) (and-true tail_in)

-- where the key of arc a becomes none, every other arc is scanned or not as it was
cleared_other : (g : Graph) (labels own : List ℕ) (a b : ℕ) → b ≢ a → scanned g labels (set own a top) b ≡ scanned g labels own b
cleared_other g labels own a b n = scanned_same g labels own b labels (set own a top) refl (get_or-set_other own a b top 0 n)

pub cleared_one : (g : Graph) (labels own : List ℕ) (a : ℕ) → a < arcs g
    → scanned_arcs g labels (set own a top) + cond (scanned g labels own a) 1 0 ≡ scanned_arcs g labels own + cond (scanned g labels (set own a top) a) 1 0
cleared_one g labels own a la =
    count_one (scanned g labels own) (scanned g labels (set own a top)) a (arcs g) la (λ b lb n. cleared_other g labels own a b n)

-- THE INVARIANT: no scanned arc's tail is above a key, and each leaf worked made one arc scanned
pub record ScannedInOrder (g : Graph) (labels own : List ℕ) (leaves : ℕ) : Type 0 where
  pub order : (a b : ℕ) → a < arcs g → b < arcs g → at labels (tail g a) < top → at own a ≡ top → at own b < top → at labels (tail g a) ≤ at own b
  pub each_once : leaves ≡ scanned_arcs g labels own

abbrev pub InOrder : Graph → State → Type 0
InOrder g s = ScannedInOrder g s.labels s.queues.own s.leaves

-- What relaxing the arc a of the smallest key leaves: the same arcs are scanned, the tails of scanned arcs and of a are at or below the key, and no key is
-- below it.
record Frontier (g : Graph) (a key : ℕ) (s t : State) : Type 0 where
  same : (b : ℕ) → b < arcs g → scanned g t.labels t.queues.own b ≡ scanned g s.labels s.queues.own b
  behind : (b : ℕ) → b < arcs g → label t (tail g b) < top → at t.queues.own b ≡ top → label t (tail g b) ≤ key
  ahead : (b : ℕ) → b < arcs g → key ≤ at t.queues.own b
  from : label t (tail g a) ≡ key
  still : at t.queues.own a ≡ key
  leaves : t.leaves ≡ s.leaves

module _ {most : ℕ} {g : Graph} {d : Division} {spans : List ℕ} (ok : WellFormed most g d spans) where
  -- WHERE THE LABEL OF ITS HEAD FALLS by arc a
  module _ (a : ℕ) (s : State) (la : a < arcs g) (z : Shape g d s) (fell : sum_by g a s < label s (head g a)) where
    abbrev s' : State
    s' = lowered g d a s

    changes : Outgoing d g.tails (head g a) (sum_by g a s) s.queues (arcs g) s'.queues
    changes = outgoing_changes d g.tails ok.division (few_arcs ok) (head g a) (sum_by g a s) s.queues z.queued

    -- an arc that leaves the head has a key, and is not scanned
    lowered_key : (b : ℕ) → b < arcs g → tail g b ≡ head g a → at s'.queues.own b ≡ top → ⊥
    lowered_key b lb e k = omega (arith, fell, changes.hit b lb e, z.capped (head g a) (ok.graph.head_in a la))

    pub lowered_out : (b : ℕ) → b < arcs g → tail g b ≡ head g a → scanned g s'.labels s'.queues.own b ≡ false
    lowered_out b lb e = scanned_no g s'.labels s'.queues.own b (λ _ k. lowered_key b lb e k)

    -- every other arc keeps its key, the label of its tail, and whether it is scanned
    lowered_label : (w : ℕ) → w ≢ head g a → label s' w ≡ label s w
    lowered_label w n = get_or-set_other s.labels (head g a) w (sum_by g a s) 0 n

    pub lowered_other : (b : ℕ) → tail g b ≢ head g a → scanned g s'.labels s'.queues.own b ≡ scanned g s.labels s.queues.own b
    lowered_other b n =
        scanned_same g s.labels s.queues.own b s'.labels s'.queues.own (lowered_label (tail g b) n) (changes.miss b n)

    -- If a has the smallest key of all, the label was above it: none of the arcs that leave the head was scanned before.
    lowered_frontier : at s.queues.own a < top → at s.queues.own a ≡ label s (tail g a) → LeastKey g s a → InOrder g s
        → Frontier g a (at s.queues.own a) s s'
    lowered_frontier keyed from least p =
        let other : tail g a ≢ head g a = λ e. omega (arith, ap (label s) e) in
        let before : (b : ℕ) → b < arcs g → label s (tail g b) < top → at s.queues.own b ≡ top
        → (tail g b ≢ head g a) × (label s (tail g b) ≤ at s.queues.own a) =
        λ b lb r k. let le = p.order b a lb la r k keyed in (λ e. omega (arith, ap (label s) e), le) in
        record {
          same = λ b lb. by_equal (tail g b) (head g a)
              (λ e. lowered_out b lb e ∙ sym (scanned_no g s.labels s.queues.own b (λ r k. (before b lb r k).0 e))) (lowered_other b);
          behind = λ b lb r k. by_equal (tail g b) (head g a)
              (λ e. absurd (lowered_key b lb e k))
              (λ n. rw (lowered_label (tail g b) n) (before b lb (rw (lowered_label (tail g b) n) at r) (rw (changes.miss b n) at k)).1);
          ahead = λ b lb. by_equal (tail g b) (head g a)
              (λ e. omega (arith, changes.hit b lb e)) (λ n. omega (arith, changes.miss b n, least b lb));
          from = lowered_label (tail g a) other ∙ sym from;
          still = changes.miss a other;
          leaves = refl;
        }

  relax_frontier : (a : ℕ) (s : State) → a < arcs g → at s.queues.own a < top → at s.queues.own a ≡ label s (tail g a) → Shape g d s
      → LeastKey g s a → InOrder g s → Frontier g a (at s.queues.own a) s (relax g d a s)
  relax_frontier a s la keyed from z least p =
      relax_elim (λ t. Frontier g a (at s.queues.own a) s t) g d a s (λ fell. lowered_frontier a s la z fell keyed from least p)
      (λ _. record {
        same = λ b lb. refl;
        behind = λ b lb r k. p.order b a lb la r k keyed;
        ahead = least;
        from = sym from;
        still = refl;
        leaves = refl;
      })

  -- where the key of the relaxed arc becomes none, it is scanned, and so are the arcs that were
  clear_scans : (a key : ℕ) (s t : State) → a < arcs g → key < top → Shape g d t → Frontier g a key s t → (b : ℕ)
      → (b ≡ a) ⊎ (scanned g t.labels t.queues.own b ≡ true)
      → scanned g (clear_key g d a t).labels (clear_key g d a t).queues.own b ≡ true
  unfolding clear_key
  clear_scans a key s t la small z f b c =
      let own = t.queues.own in
      let inside : a < length own = rw z.queued.own la in
      let now = scanned_yes g t.labels (set own a top) a (omega (arith, f.from)) (get_or-set_same own a top 0 inside) in
      by_equal b a (λ e. rw e now) (λ n. cleared_other g t.labels own a b n ∙ ⊎_elim (λ e. absurd (n e)) (λ was. was) c)

  -- it is the one arc more that is scanned
  clear_in_order : (a key : ℕ) (s t : State) → a < arcs g → key < top → Shape g d t → Frontier g a key s t → InOrder g s → InOrder g (clear_key g d a t)
  unfolding clear_key
  clear_in_order a key s t la small z f p =
      let own = t.queues.own in
      let inside : a < length own = rw z.queued.own la in
      let old : (b : ℕ) → b ≢ a → at (set own a top) b ≡ at own b = λ b n. get_or-set_other own a b top 0 n in
      let one = cleared_one g t.labels own a la in
      let was = scanned_no g t.labels own a (λ r k. omega (arith, f.still)) in
      let now = clear_scans a key s t la small z f a (inl refl) in
      record {
        order = λ b c lb lc r k kc.
            let front : key ≤ at (set own a top) c = set_elim (λ (x : ℕ). key ≤ x) own a c top 0 inside (λ _. omega arith) (λ _. f.ahead c lc) in
            by_equal b a (λ e. rw e (omega (arith, f.from))) (λ n. omega (arith, f.behind b lb r (rw (old b n) at k)));
        each_once = omega (
          arith,
          f.leaves,
          p.each_once,
          count_ext (scanned g t.labels own) (scanned g s.labels s.queues.own) (arcs g) f.same,
          rw (was, now) at one,
        );
      }

  -- THE WORKING OF A LEAF of the smallest key keeps the order, and counts itself
  pub leaf_in_order : {X : ℕ → Type 0} (r : ℕ) (s : State) → r < regions d → is_leaf d r ≡ true → at s.queues.own (arc_of d r) < top
      → Shape g d s → Sound g d X s → LeastKey g s (arc_of d r) → InOrder g s → InOrder g (process_leaf g d r s)
  unfolding process_leaf
  leaf_in_order r s lr leaf keyed z sound least p =
      let a = arc_of d r in
      let la = (ok.division.leaf_arc_lem r lr leaf).0 in
      clear_in_order a (at s.queues.own a) s (relax g d a s) la keyed (relax_shape ok a s la z)
      (relax_frontier a s la keyed (sound.keyed a la keyed) z least p) p

  -- its arc is scanned afterwards, and so are the arcs that were
  pub leaf_scans : {X : ℕ → Type 0} (r : ℕ) (s : State) → r < regions d → is_leaf d r ≡ true → at s.queues.own (arc_of d r) < top
      → Shape g d s → Sound g d X s → LeastKey g s (arc_of d r) → InOrder g s → (b : ℕ) → b < arcs g
      → (b ≡ arc_of d r) ⊎ (scanned g s.labels s.queues.own b ≡ true)
      → scanned g (process_leaf g d r s).labels (process_leaf g d r s).queues.own b ≡ true
  unfolding process_leaf
  leaf_scans r s lr leaf keyed z sound least p b lb c =
      let a = arc_of d r in
      let la = (ok.division.leaf_arc_lem r lr leaf).0 in
      let f = relax_frontier a s la keyed (sound.keyed a la keyed) z least p in
      clear_scans a (at s.queues.own a) s (relax g d a s) la keyed (relax_shape ok a s la z) f b
      (⊎_elim (λ e. inl e) (λ was. inr (f.same b lb ∙ was)) c)
