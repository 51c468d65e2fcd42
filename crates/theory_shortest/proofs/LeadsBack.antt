-- Laws of `leads_back`: a node leads back to the source in n steps just where it has a depth of at most n.
use Prim.Native.Nat.{ℕ, zero, suc, ◌≤◌, ◌<◌}
use native.Mathlib.Omega.{arith}
use mathlib.Core.Bool.{true}
use mathlib.Core.Path.{◌≡◌}
use mathlib.Core.Logic.{◌≢◌}
use mathlib.Core.List.{List}
use lib.Dec.{eqb}
use borrow.Author.Tests.{eqb-true, eqb-false, eq-eqb, ne_eqb}
use Rattle.indices.specs.Columns.{at}
use Rattle.indices.proofs.Steps.{by_equal}
use Rattle.indices.proofs.Tests.{or_then, or_if}
use Rattle.procedure.specs.Graph.{Graph, tail}
use Rattle.theory_shortest.specs.TableTest.{leads_back}
use Rattle.theory_shortest.proofs.Depth.{Depth, home, back}

module _ (g : Graph) (predecessors : List ℕ) where
  -- a node of a given depth leads back in as many steps, and in more
  pub depth_leads : {v d : ℕ} (n : ℕ) → Depth g predecessors v d → d ≤ n → leads_back g predecessors n v ≡ true
  unfolding leads_back
  depth_leads {v} zero (home l e) m = eq-eqb v g.source e
  depth_leads {v} (suc n) (home l e) m = or_if (eqb v g.source) _ (λ f. absurd (eqb-false v g.source f e))
  depth_leads zero (back l e p) m = absurd (omega arith)
  depth_leads {v} (suc n) (back l e p) m = or_if (eqb v g.source) _ (λ f. depth_leads {v = tail g (at predecessors v)} n p (omega arith))

  -- A node that leads back has a depth, if a predecessor leads from each node in P but the source to one in P.
  pub leads_depth : (P : ℕ → Type 0) → ((v : ℕ) → P v → v < g.nodes) → ((v : ℕ) → P v → v ≢ g.source → P (tail g (at predecessors v)))
      → (n v : ℕ) → P v → leads_back g predecessors n v ≡ true → (d : ℕ) × Depth g predecessors v d
  unfolding leads_back
  leads_depth P node on zero v p t = (0, home (node v p) (eqb-true v g.source t))
  leads_depth P node on (suc n) v p t =
      by_equal v g.source
      (λ e. (0, home (node v p) e))
      (λ e.
      let q = leads_depth P node on n (tail g (at predecessors v)) (on v p e) (or_then (eqb v g.source) _ t (ne_eqb v g.source e)) in
      (suc q.0, back (node v p) e q.1))
