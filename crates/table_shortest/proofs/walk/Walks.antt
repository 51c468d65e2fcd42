-- A walk back along predecessors: each node that it passed is deeper than the one it is at, so that none of them has a depth if it meets itself, and
-- all of them lead back if it meets a node that does.
use Prim.Native.Nat.{ℕ, suc, pred, ◌+◌, ◌≤◌, ◌<◌}
use native.Mathlib.Omega.{arith}
use mathlib.Core.Bool.{true, not, true≢false}
use mathlib.Core.Path.{◌≡◌, refl, sym, ap, ◌∙◌}
use mathlib.Core.Logic.{◌≢◌}
use mathlib.Core.List.{List}
use lib.ListN.{length, set, length-set, length-replicate, get_or-replicate}
use lib.Seq.{get_or-set_same}
use lib.Dec.{eqb}
use borrow.Author.Tests.{eq-eqb, ne_eqb}
use Rattle.indices.specs.Columns.{at}
use Rattle.indices.specs.Tests.{count}
use Rattle.indices.proofs.Steps.{by_equal, by_truth, set_elim}
use Rattle.indices.proofs.Tally.{blank}
use Rattle.indices.proofs.Totals.{count_one}
use Rattle.sheet.specs.Words.{top}
use Rattle.sheet.specs.Sections.{node_count, source, arc_count}
use Rattle.judgement.specs.Judgement.{Accepted}
use Rattle.judgement.proofs.Accepted.{few_nodes, source_in}
use Rattle.procedure.specs.OfSheet.{graph_of}
use Rattle.procedure.proofs.OfSheet.{graph_nodes, graph_source, graph_arcs}
use Rattle.theory_shortest.proofs.WellFormed.{accepted_well_formed}
use Rattle.theory_shortest.specs.TableTest.{leads_back, led_test}
use Rattle.theory_shortest.proofs.Depth.{Depth, home, back, depth_unique, depth_below}
use Rattle.theory_shortest.proofs.LeadsBack.{depth_leads, leads_depth}
use Rattle.calls.specs.Tables.{label_in, predecessor_in}
use Rattle.table.specs.Fits.{labels, predecessors, node_before}
use Rattle.table.proofs.read.Columns.{label_there, predecessor_there}
use Rattle.table_shortest.specs.WalkChecks.{node_led}
use Rattle.table_shortest.specs.Stamps.{Followable, leads, Stamped}

-- v leads back to the source in some number of steps
abbrev Leads : List ℕ → List ℕ → ℕ → Type 0
Leads b table v = (d : ℕ) × Depth (graph_of b) (predecessors b table) v d

-- w is deeper than u, if u has a depth
abbrev Deeper : List ℕ → List ℕ → ℕ → ℕ → Type 0
Deeper b table w u = (d : ℕ) → Depth (graph_of b) (predecessors b table) u d → (e : ℕ) × (d < e) × Depth (graph_of b) (predecessors b table) w e

-- The walk from v, whose stamp is v + 2, is at u.
pub record Walking (b table stamps : List ℕ) (v u : ℕ) : Type 0 where
  pub long : length stamps ≡ 1024
  pub inside : u < node_count b
  pub reached : at (labels b table) u ≢ top
  pub home : at stamps (source b) ≡ 1
  pub low : (w : ℕ) → w < node_count b → at stamps w ≤ v + 2
  pub led : (w : ℕ) → w < node_count b → at stamps w ≢ 0 → at stamps w ≢ v + 2 → leads b table w ≡ true
  pub own : (w : ℕ) → w < node_count b → at stamps w ≡ v + 2 → Deeper b table w u
  pub up : Leads b table u → Leads b table v
  pub down : Leads b table v → Leads b table u

-- how many nodes have no stamp
abbrev pub unstamped : List ℕ → List ℕ → ℕ
unstamped b stamps = count (λ w. eqb (at stamps w) 0) (node_count b)

module _ {b table : List ℕ} where
  -- v is unreached, and its walk is none
  pub stamps_on : {stamps : List ℕ} {v : ℕ} → Stamped b table stamps v → Stamped b table stamps (v + 1)
  stamps_on S = record { long = S.long; home = S.home; low = λ w l. omega (arith, S.low w l); led = S.led }

  pub walk_start : {stamps : List ℕ} {v x : ℕ} → Stamped b table stamps v → v < node_count b → x ≡ label_in table v → x ≢ top → Walking b table stamps v v
  walk_start {v = v} S l ex r = record {
    long = S.long;
    inside = l;
    reached = λ e. r (ex ∙ label_there b table v l ∙ e);
    home = S.home;
    low = λ w lw. omega (arith, S.low w lw);
    led = λ w lw s _. S.led w lw s;
    own = λ w lw e. absurd (omega (arith, S.low w lw));
    up = λ p. p;
    down = λ p. p;
  }

  module _ (ok : Accepted b) (F : Followable b table) where
    -- v has a depth: it leads back
    depth_led : {v : ℕ} → Leads b table v → leads b table v ≡ true
    depth_led p =
        depth_leads (graph_of b) (predecessors b table) (pred (node_count b)) p.1
        (omega (arith, depth_below (graph_of b) (predecessors b table) p.1, graph_nodes b))

    -- an unreached node need not lead back, a reached one must
    pub led_unreached : {v x : ℕ} → v < node_count b → x ≡ label_in table v → x ≡ top → true ≡ node_led b table v
    unfolding led_test
    led_unreached {v} l ex e = rw (eq-eqb (at (labels b table) v) top (sym (ex ∙ label_there b table v l) ∙ e))

    led_reached : (v : ℕ) → at (labels b table) v ≢ top → node_led b table v ≡ leads b table v
    unfolding led_test
    led_reached v r =
        rw (ne_eqb (at (labels b table) v) top r) (ap (λ (n : ℕ). leads_back (graph_of b) (predecessors b table) (pred n) v) (graph_nodes b))

    -- the feeder of a reached node other than the source is a node
    before_in : (v : ℕ) → v < node_count b → at (labels b table) v ≢ top → v ≢ source b → node_before b table v < node_count b
    before_in v l r n =
        let good = (accepted_well_formed b ok).graph in
        omega (arith, graph_nodes b, good.tail_in_lem (at (predecessors b table) v) (F.onward v l r n).is_arc_lem)

    -- a reached node that leads back has a depth
    led_depth : (v : ℕ) → v < node_count b → at (labels b table) v ≢ top → leads b table v ≡ true → Leads b table v
    led_depth v l r =
        leads_depth (graph_of b) (predecessors b table) (λ u. (u < node_count b) × (at (labels b table) u ≢ top)) (λ u q. omega (arith, q.0, graph_nodes b))
        (λ u q n.
        let other : u ≢ source b = λ e. n (e ∙ sym (graph_source b)) in
        (before_in u q.0 q.1 other, (F.onward u q.0 q.1 other).from_reached))
        (pred (node_count b)) v (l, r)

    -- the source leads back, and has the first stamp
    pub stamps_start : {stamps : List ℕ} {h : ℕ} → stamps ≡ blank 1024 → h ≡ source b → Stamped b table (set stamps h 1) 0
    stamps_start {stamps} {h} e eh = record {
      long = simp length-set long;
      home = ap (at (set stamps h 1)) (sym eh) ∙ get_or-set_same stamps h 1 0 there;
      low = λ w lw. set_elim (λ (x : ℕ). x ≤ 1) stamps h w 1 0 there (λ _. omega arith) (λ _. omega (arith, zero_at w lw));
      led = λ w lw. set_elim (λ (x : ℕ). x ≢ 0 → leads b table w ≡ true) stamps h w 1 0 there (λ same _. rw (same, eh) source_led)
          (λ _ s. absurd (s (zero_at w lw)));
    }
      where
        source_led : leads b table (source b) ≡ true
        source_led = depth_led (0, home (omega (arith, graph_nodes b, source_in b ok)) (sym (graph_source b)))

        long : length stamps ≡ 1024
        long = ap length e ∙ length-replicate {A = ℕ} 1024 0

        there : h < length stamps
        there = omega (arith, long, eh, source_in b ok, few_nodes b ok)

        zero_at : (w : ℕ) → w < node_count b → at stamps w ≡ 0
        zero_at w lw = ap (λ (l : List ℕ). at l w) e ∙ get_or-replicate {A = ℕ} 1024 w 0 0 (omega (arith, few_nodes b ok))

    module _ {stamps : List ℕ} {v u : ℕ} (W : Walking b table stamps v u) where
      u_in : u < length stamps
      u_in = omega (arith, W.long, W.inside, few_nodes b ok)

      -- a node without a stamp is not the source
      module _ (blank : at stamps u ≡ 0) where
        walk_away : u ≢ source b
        walk_away e = omega (arith, ap (at stamps) e, W.home)

        step_deeper : {d : ℕ} → Depth (graph_of b) (predecessors b table) (node_before b table u) d → Depth (graph_of b) (predecessors b table) u (suc d)
        step_deeper p = back {v = u} (omega (arith, W.inside, graph_nodes b)) (λ e. walk_away (e ∙ graph_source b)) p

        step_back : {w : ℕ} → w ≡ u → Leads b table w → Leads b table (node_before b table u)
        step_back e (_, home l h) = absurd (walk_away (sym e ∙ h ∙ graph_source b))
        step_back e (_, back {d = d} l n p) = (d, rw (ap (node_before b table) e) at p)

        -- its predecessor is an arc
        pub walk_arc : predecessor_in table u < arc_count b
        walk_arc = let f = F.onward u W.inside W.reached walk_away in omega (arith, f.is_arc_lem, graph_arcs b, predecessor_there b table u W.inside)

        -- u gets the stamp, and the walk goes on
        pub walk_on : Walking b table (set stamps u (v + 2)) v (node_before b table u)
        walk_on = record {
          long = simp length-set W.long;
          inside = before_in u W.inside W.reached walk_away;
          reached = (F.onward u W.inside W.reached walk_away).from_reached;
          home = set_elim (λ (x : ℕ). x ≡ 1) stamps u (source b) (v + 2) 0 u_in (λ e. absurd (walk_away (sym e))) (λ _. W.home);
          low = λ w l. set_elim (λ (x : ℕ). x ≤ v + 2) stamps u w (v + 2) 0 u_in (λ _. omega arith) (λ _. W.low w l);
          led = λ w l. set_elim (λ (x : ℕ). x ≢ 0 → x ≢ v + 2 → leads b table w ≡ true) stamps u w (v + 2) 0 u_in (λ _ _ n. absurd (n refl))
              (λ _. W.led w l);
          own = λ w l. set_elim (λ (x : ℕ). x ≡ v + 2 → Deeper b table w (node_before b table u)) stamps u w (v + 2) 0 u_in
              (λ e _ d p. (suc d, omega arith, rw e (step_deeper p)))
              (λ _ e d p. let q = W.own w l e (suc d) (step_deeper p) in (q.0, omega (arith, q.1), q.2));
          up = λ p. W.up (suc p.0, step_deeper p.1);
          down = λ p. step_back refl (W.down p);
        }

        -- one node less is without a stamp
        pub walk_less : unstamped b (set stamps u (v + 2)) < unstamped b stamps
        walk_less =
            let stamped : at (set stamps u (v + 2)) u ≡ v + 2 = get_or-set_same stamps u (v + 2) 0 u_in in
            let one = count_one (λ w. eqb (at stamps w) 0) (λ w. eqb (at (set stamps u (v + 2)) w) 0) u (node_count b) W.inside
            (λ w l n. set_elim (λ (x : ℕ). eqb x 0 ≡ eqb (at stamps w) 0) stamps u w (v + 2) 0 u_in (λ e. absurd (n e)) (λ _. refl)) in
            omega (arith, rw (eq-eqb (at stamps u) 0 blank, ne_eqb (at (set stamps u (v + 2)) u) 0 (λ e. omega arith)) at one)

      -- the walk meets itself: v does not lead back
      walk_ring : at stamps u ≡ v + 2 → leads b table v ≡ true → v < node_count b → at (labels b table) v ≢ top → ⊥
      walk_ring e t l r =
          let p = W.down (led_depth v l r t) in
          let q = W.own u W.inside e p.0 p.1 in
          omega (arith, q.1, depth_unique (graph_of b) (predecessors b table) p.1 q.2)

      -- it meets a node of an earlier walk, or the source: all that it passed lead back
      module _ (met : at stamps u ≢ 0) (other : at stamps u ≢ v + 2) where
        u_leads : Leads b table u
        u_leads = led_depth u W.inside W.reached (W.led u W.inside met other)

        walk_led : leads b table v ≡ true
        walk_led = depth_led (W.up u_leads)

        walk_stamped : Stamped b table stamps (v + 1)
        walk_stamped = record {
          long = W.long;
          home = W.home;
          low = λ w l. omega (arith, W.low w l);
          led = λ w l s. by_equal (at stamps w) (v + 2)
              (λ e. let q = W.own w l e u_leads.0 u_leads.1 in depth_led (q.0, q.2)) (λ n. W.led w l s n);
        }

      -- where the walk ends, the stamp that is met decides
      pub walk_end : {x : ℕ} → v < node_count b → x ≡ label_in table v → x ≢ top → at stamps u ≢ 0
          → (not (eqb (at stamps u) (v + 2)) ≡ node_led b table v) × (not (eqb (at stamps u) (v + 2)) ≡ true → Stamped b table stamps (v + 1))
      walk_end l ex rx met =
          let r : at (labels b table) v ≢ top = λ e. rx (ex ∙ label_there b table v l ∙ e) in
          by_equal (at stamps u) (v + 2)
          (λ e.
          rw (eq-eqb (at stamps u) (v + 2) e) (
            sym (led_reached v r ∙ by_truth (leads b table v) (λ t. absurd (walk_ring e t l r)) (λ f. f)),
            λ f. absurd (true≢false (sym f)),
          ))
          (λ n. rw (ne_eqb (at stamps u) (v + 2) n) (sym (led_reached v r ∙ walk_led met n), λ _. walk_stamped met n))

-- one walk
pub ruleset walk_steps = (few_nodes, led_unreached, stamps_on, walk_start, walk_less)
