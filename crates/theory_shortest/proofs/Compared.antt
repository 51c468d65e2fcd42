-- Shortest labels of two graphs compared by their routes: where each route to a node in one graph is followed by one in the other that is longer by at most c,
-- the label there is higher by at most c, and a node that is unreached there is unreached in the first.
use Prim.Native.Nat.{ℕ, ◌+◌, ◌≤◌, ◌<◌}
use native.Mathlib.Omega.{arith}
use mathlib.Core.Path.{◌≡◌}
use mathlib.Core.Logic.{◌≢◌, ◌↔◌}
use mathlib.Core.List.{List}
use Rattle.indices.specs.Columns.{at}
use Rattle.indices.proofs.Steps.{by_equal}
use Rattle.sheet.specs.Words.{top}
use Rattle.procedure.specs.Graph.{Graph}
use Rattle.procedure.specs.Routes.{Route, route_length, chain_to, Shortest}

-- a route of length at most n leads from the source to v
pub record Within (g : Graph) (v n : ℕ) : Type 0 where
  pub way : List ℕ
  pub route : Route g g.source way v
  pub no_longer : route_length g way ≤ n

-- each route of g to v is followed by one of h that is longer by at most c
pub record Follows (c : ℕ) (g h : Graph) (v : ℕ) : Type 0 where
  pub route_for : (way : List ℕ) → Route g g.source way v → Within h v (route_length g way + c)

-- ONE WAY
module _ {g h : Graph} {L P L' P' : List ℕ} (s : Shortest g L P) (s' : Shortest h L' P') (v : ℕ) (l : v < g.nodes) (l' : v < h.nodes) {c : ℕ}
    (there : Follows c g h v) where
  unreached_too : at L' v ≡ top → at L v ≡ top
  unreached_too e = (s.unreached v l).1 (λ way r. let w = there.route_for way r in (s'.unreached v l').0 e w.way w.route)

  reached_near : at L v ≢ top → at L' v ≤ at L v + c
  reached_near reached =
      let q = s.chain v l reached in
      let w = there.route_for (chain_to g P v) q.0 in
      omega (arith, q.1, w.no_longer, s'.least v l' w.way w.route)

-- BOTH WAYS, where the other way routes are longer by at most c'
module _ {g h : Graph} {L P L' P' : List ℕ} (s : Shortest g L P) (s' : Shortest h L' P') (v : ℕ) (l : v < g.nodes) (l' : v < h.nodes) {c c' : ℕ}
    (there : Follows c g h v) (back : Follows c' h g v) where
  pub same_unreached : (at L v ≡ top) ↔ (at L' v ≡ top)
  same_unreached = (unreached_too s' s v l' l back, unreached_too s s' v l l' there)

  -- 'unreached' is the same number in both
  pub labels_near : at L' v ≤ at L v + c
  labels_near = by_equal (at L v) top (λ e. omega (arith, same_unreached.0 e)) (reached_near s s' v l l' there)

-- where none is longer either way, the labels are the same, 'unreached' included
pub both_labels : {g h : Graph} {L P L' P' : List ℕ} → Shortest g L P → Shortest h L' P' → (v : ℕ) → v < g.nodes → v < h.nodes → Follows 0 g h v
    → Follows 0 h g v → at L v ≡ at L' v
both_labels s s' v l l' there back = omega (arith, labels_near s s' v l l' there back, labels_near s' s v l' l back there)
