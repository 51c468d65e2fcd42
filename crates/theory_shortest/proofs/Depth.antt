-- How many steps back a node is from the source: that number is one only, and by the pigeonhole below the number of nodes; nodes with such a number are
-- those whose predecessors, followed back, are a route.
use Prim.Native.Nat.{ℕ, zero, suc, ◌+◌, ◌-◌, ◌≤◌, ◌<◌}
use native.Mathlib.Omega.{arith}
use mathlib.Core.Path.{◌≡◌, refl, sym, ap, subst}
use mathlib.Core.Logic.{◌≢◌}
use mathlib.Core.List.{List, [], ◌∷◌}
use lib.ListN.{length, length-append}
use Rattle.indices.specs.Columns.{at}
use Rattle.indices.proofs.Pigeonhole.{pigeonhole}
use Rattle.indices.proofs.Steps.{by_equal}
use Rattle.procedure.specs.Graph.{Graph, arcs, tail, head}
use Rattle.procedure.specs.Routes.{Route, followed}
use Rattle.theory_shortest.specs.WellFormed.{GraphOk}
use Rattle.theory_shortest.specs.Settled.{LeadsBack, home as led-home, back as led-back}
use Rattle.theory_shortest.proofs.Routes.{route_none, route_none_ends, route_more, route_last, followed_none, followed_home, followed_back}

-- Following predecessors back from v, the source is met after d steps and not before, and every node met is a node of the graph.
pub data Depth (g : Graph) (predecessors : List ℕ) : ℕ → ℕ → Type 0 where
  home : {v : ℕ} → v < g.nodes → v ≡ g.source → Depth g predecessors v 0
  back : {v d : ℕ} → v < g.nodes → v ≢ g.source → Depth g predecessors (tail g (at predecessors v)) d → Depth g predecessors v (suc d)

module _ (g : Graph) (predecessors : List ℕ) where
  -- the node that i steps back from v lead to
  node_back : ℕ → ℕ → ℕ
  node_back v zero = v
  node_back v (suc i) = node_back (tail g (at predecessors v)) i

  depth_node : {v d : ℕ} → Depth g predecessors v d → v < g.nodes
  depth_node (home l e) = l
  depth_node (back l n p) = l

  pub depth_unique : {v d e : ℕ} → Depth g predecessors v d → Depth g predecessors v e → d ≡ e
  depth_unique (home l e) (home l' e') = refl
  depth_unique (home l e) (back l' n' q) = absurd (n' e)
  depth_unique (back l n p) (home l' e') = absurd (n e')
  depth_unique (back l n p) (back l' n' q) = ap suc (depth_unique p q)

  -- each step back is one less deep
  depth_back : {v d : ℕ} (i k : ℕ) → Depth g predecessors v d → i + k ≡ d → Depth g predecessors (node_back v i) k
  unfolding node_back
  depth_back {v} {d} zero k p e = let here : d ≡ k = omega arith in subst (λ (n : ℕ). Depth g predecessors v n) here p
  depth_back (suc i) k (home l h) e = absurd (omega arith)
  depth_back {v = v} (suc i) k (back l n p) e = depth_back {v = tail g (at predecessors v)} i k p (omega arith)

  -- a node is less deep than there are nodes
  pub depth_below : {v d : ℕ} → Depth g predecessors v d → d < g.nodes
  depth_below {v} {d} p =
      pigeonhole g.nodes (suc d) (node_back v) (λ i l. depth_node (at_step i l)) (λ i j li lj e.
      omega (arith, depth_unique (at_step i li) (subst (λ (w : ℕ). Depth g predecessors w (d - j)) (sym e) (at_step j lj))))
    where
      at_step : (i : ℕ) → i < suc d → Depth g predecessors (node_back v i) (d - i)
      at_step i l = depth_back i (d - i) p (omega arith)

  -- the chain from a node has as many arcs as the node is deep
  pub chain_arcs : {v d : ℕ} (m : ℕ) → Depth g predecessors v d → d ≤ m → length (followed g predecessors m v) ≡ d
  chain_arcs {v} m (home l e) lm = ap length (followed_home g predecessors m v e)
  chain_arcs zero (back l n p) lm = absurd (omega arith)
  chain_arcs {v} (suc m) (back l n p) lm =
      let a = at predecessors v in
      let rest = followed g predecessors m (tail g a) in
      omega (arith, ap length (followed_back g predecessors m v n), length-append rest (a ∷ []), chain_arcs m p (omega arith))

  -- the predecessors followed back in enough steps are a route, if each node in P but the source has an arc for its predecessor that leads to it from a
  -- node in P
  pub depth_route : (P : ℕ → Type 0) → ((v : ℕ) → P v → v ≢ g.source
      → (at predecessors v < arcs g) × (head g (at predecessors v) ≡ v) × P (tail g (at predecessors v)))
      → {v d : ℕ} (m : ℕ) → Depth g predecessors v d → d ≤ m → P v → Route g g.source (followed g predecessors m v) v
  depth_route P on {v} m (home l e) lm p = rw (followed_home g predecessors m v e) (route_none g g.source v (sym e))
  depth_route P on zero (back l n q) lm p = absurd (omega arith)
  depth_route P on {v} (suc m) (back l n q) lm p =
      let a = at predecessors v in
      let f = on v p n in
      rw (followed_back g predecessors m v n)
      (route_more g g.source (followed g predecessors m (tail g a)) a v (depth_route P on m q (omega arith) f.2) f.0 f.1)

module _ {most : ℕ} {g : Graph} (ok : GraphOk most g) where
  -- predecessors followed from v that are a route have a depth
  pub followed_depth : (predecessors : List ℕ) (n v : ℕ) → v < g.nodes → Route g g.source (followed g predecessors n v) v
      → (d : ℕ) × Depth g predecessors v d
  followed_depth predecessors zero v l r = (0, home l (sym (route_none_ends g g.source v (rw followed_none at r))))
  followed_depth predecessors (suc n) v l r =
      by_equal v g.source
      (λ e. (0, home l e))
      (λ e.
      let a = at predecessors v in
      let p = route_last g g.source (followed g predecessors n (tail g a)) a v (rw (followed_back g predecessors n v e) at r) in
      let q = followed_depth predecessors n (tail g a) (ok.tail_in_lem a p.1) p.0 in
      (suc q.0, back l e q.1))

  -- so has a node that is led back
  pub led_depth : {labels predecessors : List ℕ} {v : ℕ} → LeadsBack g labels predecessors v → v < g.nodes → (d : ℕ) × Depth g predecessors v d
  led_depth (led-home e) l = (0, home l e)
  led_depth {v = v} (led-back a la e to down rest) l =
      by_equal v g.source (λ h. (0, home l h)) (λ n. let p = led_depth rest (ok.tail_in_lem a la) in (suc p.0, back l n (rw e p.1)))
