-- The chain of predecessors in a shortest table, without its bound on steps: none at the source, one arc more at each other node.
use Prim.Native.Nat.{ℕ, zero, suc, pred, ◌+◌, ◌≤◌, ◌<◌}
use native.Mathlib.Omega.{arith}
use mathlib.Core.Path.{◌≡◌, sym, ap, ◌∙◌}
use mathlib.Core.Logic.{◌≢◌}
use mathlib.Core.List.{List, [], ◌∷◌, ◌++◌}
use lib.ListN.{length, length-append}
use Rattle.indices.specs.Columns.{at}
use Rattle.sheet.specs.Words.{top}
use Rattle.procedure.specs.Graph.{Graph, arcs, tail}
use Rattle.procedure.specs.Routes.{followed, chain_to, Shortest}
use Rattle.theory_shortest.specs.WellFormed.{GraphOk}
use Rattle.theory_shortest.proofs.Routes.{followed_home, followed_back}
use Rattle.theory_shortest.proofs.Depth.{Depth, home, back, depth_below}
use Rattle.theory_shortest.proofs.TightTree.{TightTree, shortest_tree}

-- as many steps as a node is deep are enough
followed_enough : (g : Graph) (P : List ℕ) {v d : ℕ} (m n : ℕ) → Depth g P v d → d ≤ m → d ≤ n → followed g P m v ≡ followed g P n v
followed_enough g P {v} m n (home l e) lm ln = followed_home g P m v e ∙ sym (followed_home g P n v e)
followed_enough g P zero n (back l e p) lm ln = absurd (omega arith)
followed_enough g P (suc m) zero (back l e p) lm ln = absurd (omega arith)
followed_enough g P {v} (suc m) (suc n) (back l e p) lm ln =
    followed_back g P m v e ∙ ap (λ (way : List ℕ). way ++ (at P v ∷ [])) (followed_enough g P m n p (omega arith) (omega arith))
    ∙ sym (followed_back g P n v e)

module _ {most : ℕ} (g : Graph) (ok : GraphOk most g) (labels P : List ℕ) (s : Shortest g labels P) (v : ℕ) (l : v < g.nodes) where
  pub chain_home : v ≡ g.source → chain_to g P v ≡ []
  chain_home e = followed_home g P g.nodes v e

  module _ (r : at labels v ≢ top) (n : v ≢ g.source) where
    tree : TightTree g labels P
    tree = shortest_tree g ok labels P s

    -- the predecessor is an arc, from a reached node
    pub chain_arc : at P v < arcs g
    chain_arc = (tree.fed v l r n).is_arc_lem

    pub chain_from : tail g (at P v) < g.nodes
    chain_from = ok.tail_in_lem (at P v) chain_arc

    pub chain_reached : at labels (tail g (at P v)) ≢ top
    chain_reached = (tree.fed v l r n).from_reached

    -- the chain is that of its tail and the predecessor
    pub chain_back : chain_to g P v ≡ chain_to g P (tail g (at P v)) ++ (at P v ∷ [])
    chain_back =
        let m = pred g.nodes in
        let size : g.nodes ≡ suc m = omega arith in
        let p = tree.led (tail g (at P v)) chain_from chain_reached in
        let few = depth_below g P p.1 in
        ap (λ (k : ℕ). followed g P k v) size ∙ followed_back g P m v n
        ∙ ap (λ (way : List ℕ). way ++ (at P v ∷ [])) (followed_enough g P m g.nodes p.1 (omega arith) (omega arith))

    pub chain_longer : length (chain_to g P v) ≡ length (chain_to g P (tail g (at P v))) + 1
    chain_longer = ap length chain_back ∙ length-append (chain_to g P (tail g (at P v))) (at P v ∷ [])
