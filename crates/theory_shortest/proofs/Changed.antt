-- Two graphs whose lengths differ only on arcs that leave node u, by at most c. Each route of the one is followed by one of the other that is longer by at most
-- c: of the arcs that leave u only the last that the route takes adds to it, since a route to u that is no longer takes the place of all before that. So labels
-- move by at most c, and where no length is smaller in the second graph, none falls.
use Prim.Native.Nat.{ℕ, ◌+◌, ◌≤◌, ◌<◌}
use native.Mathlib.Nat.{zero-add, add-zero}
use native.Mathlib.Omega.{arith}
use mathlib.Core.Path.{◌≡◌, sym, ap, subst, ◌∙◌}
use mathlib.Core.Logic.{◌≢◌, ◌↔◌}
use mathlib.Core.List.{List, [], ◌∷◌, ◌++◌}
use Rattle.indices.specs.Columns.{at}
use Rattle.indices.proofs.Steps.{by_equal}
use Rattle.sheet.specs.Words.{top}
use Rattle.procedure.specs.Graph.{Graph, arcs, tail, head, len}
use Rattle.procedure.specs.Routes.{Route, Shortest}
use Rattle.theory_shortest.specs.Changed.{ChangedAt, Lengthened}
use Rattle.theory_shortest.proofs.Routes.{route_none, route_more, length_none, length_more, along_route}
use Rattle.theory_shortest.proofs.Compared as compared
use Rattle.theory_shortest.proofs.Compared.{Within, Follows}

-- ROUTES OF LENGTH AT MOST n
module _ (g : Graph) where
  within_source : (v n : ℕ) → g.source ≡ v → Within g v n
  within_source v n e = record { way = []; route = route_none g g.source v e; no_longer = omega (arith, length_none g) }

  within_more : {n : ℕ} (a v m : ℕ) → a < arcs g → head g a ≡ v → Within g (tail g a) n → n + len g a ≤ m → Within g v m
  within_more a v m la e w l = record {
    way = w.way ++ (a ∷ []);
    route = route_more g g.source w.way a v w.route la e;
    no_longer = omega (arith, length_more g w.way a, w.no_longer);
  }

  within_longer : {v n : ℕ} (m : ℕ) → Within g v n → n ≤ m → Within g v m
  within_longer m w l = record { way = w.way; route = w.route; no_longer = omega (arith, w.no_longer) }

-- How a route of length n to v in the first graph is followed in g': by one no longer; or, where it has left u, by one to u no longer and one to v that is
-- longer by at most c.
data Followed (g' : Graph) (u c v n : ℕ) : Type 0 where
  unchanged : Within g' v n → Followed g' u c v n
  changed : Within g' u n → Within g' v (n + c) → Followed g' u c v n

-- at u itself, by one no longer
followed_at : {g' : Graph} {u c n : ℕ} → Followed g' u c u n → Within g' u n
followed_at (unchanged w) = w
followed_at (changed w x) = w

followed_within : {g' : Graph} {u c v n : ℕ} → Followed g' u c v n → Within g' v (n + c)
followed_within {g'} {u} {c} {v} {n} (unchanged w) = within_longer g' (n + c) w (omega arith)
followed_within (changed w x) = x

module _ {u c : ℕ} {g g' : Graph} (p : ChangedAt u c g g') where
  same_tail : (a : ℕ) → tail g a ≡ tail g' a
  same_tail a = ap (λ (l : List ℕ). at l a) p.tails

  same_head : (a : ℕ) → head g a ≡ head g' a
  same_head a = ap (λ (l : List ℕ). at l a) p.heads

  is_arc_lem : {a : ℕ} → a < arcs g → a < arcs g'
  is_arc_lem la = rw p.tails at la

  -- a route of the one is a route of the other
  pub route_too : (w : ℕ) (way : List ℕ) (v : ℕ) → Route g w way v → Route g' w way v
  unfolding Route
  route_too w [] v r = r
  route_too w (a ∷ way) v r = (is_arc_lem r.0, sym (same_tail a) ∙ r.1, rw (← same_head a) (route_too (head g a) way v r.2))

  -- one arc more in the other graph
  more' : {n : ℕ} (a m : ℕ) → a < arcs g → Within g' (tail g a) n → n + len g' a ≤ m → Within g' (head g a) m
  more' {n} a m la w l = within_more g' a (head g a) m (is_arc_lem la) (sym (same_head a)) (subst (λ (t : ℕ). Within g' t n) (same_tail a) w) l

  -- an arc that leaves u, behind a route to u that is no longer
  from_changed : (a n : ℕ) → a < arcs g → tail g a ≡ u → Within g' u n → Followed g' u c (head g a) (n + len g a)
  from_changed a n la e w =
      changed (within_longer g' (n + len g a) w (omega arith)) (more' {n = n} a (n + len g a + c) la (rw e w) (omega (arith, (p.leaving a la e).1)))

  from_other : (a n : ℕ) → a < arcs g → tail g a ≢ u → Followed g' u c (tail g a) n → Followed g' u c (head g a) (n + len g a)
  from_other a n la e (unchanged w) = unchanged (more' a (n + len g a) la w (omega (arith, p.elsewhere a la e)))
  from_other a n la e (changed w x) =
      changed (within_longer g' (n + len g a) w (omega arith)) (more' a (n + len g a + c) la x (omega (arith, p.elsewhere a la e)))

  step : (a n : ℕ) → a < arcs g → Followed g' u c (tail g a) n → Followed g' u c (head g a) (n + len g a)
  step a n la w = by_equal (tail g a) u (λ e. from_changed a n la e (followed_at (rw e at w))) (λ n'. from_other a n la n' w)

  -- Each route of the first graph is followed by one that is longer by at most c.
  follows : (v : ℕ) → Follows c g g' v
  follows v = record {
    route_for = λ way r.
        let at_source : Followed g' u c g.source 0 = unchanged (within_source g' g.source 0 (sym p.source)) in
        followed_within (rw zero-add at (along_route g (Followed g' u c) step g.source 0 way v at_source r));
  }

  -- Where no length is smaller in the first graph, by one that is no longer.
  follows_shortened : Lengthened g' g → (v : ℕ) → Follows 0 g g' v
  follows_shortened up v = record {
    route_for = λ way r.
        let at_source : Within g' g.source 0 = within_source g' g.source 0 (sym p.source) in
        let more : (a n : ℕ) → a < arcs g → Within g' (tail g a) n → Within g' (head g a) (n + len g a) =
        λ a n la w. more' a (n + len g a) la w (omega (arith, up a (is_arc_lem la))) in
        rw add-zero (rw zero-add at (along_route g (Within g') more g.source 0 way v at_source r));
  }

-- the same change, the other way round
pub changed_back : {u c : ℕ} {g g' : Graph} → ChangedAt u c g g' → ChangedAt u c g' g
changed_back p = record {
  nodes = sym p.nodes;
  source = sym p.source;
  tails = sym p.tails;
  heads = sym p.heads;
  elsewhere = λ a la n. sym (p.elsewhere a (rw p.tails la) (λ e. n (sym (same_tail p a) ∙ e)));
  leaving = λ a la e. let near = p.leaving a (rw p.tails la) (same_tail p a ∙ e) in (near.1, near.0);
}

-- SHORTEST LABELS
module _ {u c : ℕ} {g g' : Graph} {L P L' P' : List ℕ} (p : ChangedAt u c g g') (s : Shortest g L P) (s' : Shortest g' L' P') (v : ℕ) (l : v < g.nodes) where
  l' : v < g'.nodes
  l' = rw p.nodes at l

  -- "the same nodes are reached"
  pub same_unreached : (at L v ≡ top) ↔ (at L' v ≡ top)
  same_unreached = compared.same_unreached s s' v l l' (follows p v) (follows (changed_back p) v)

  -- "no distance moves by more than the change"
  pub no_farther : (at L v ≤ at L' v + c) × (at L' v ≤ at L v + c)
  no_farther =
      let there = follows p v in
      let back = follows (changed_back p) v in
      (compared.labels_near s' s v l' l back there, compared.labels_near s s' v l l' there back)

  -- "lengthening the arc brings no distance down"
  pub none_down : Lengthened g g' → at L v ≤ at L' v
  none_down up =
      omega (arith, compared.labels_near s' s v l' l (follows_shortened (changed_back p) up v) (follows p v))
