-- Two graphs whose lengths differ only on arcs that leave one node. Definitions.
use Rattle.std.specs.Prelude.{ℕ, ◌+◌, ◌≤◌, ◌<◌, ◌≡◌, ◌≢◌}
use Rattle.procedure.specs.Graph.{Graph, arcs, tail, len}

-- The same nodes, source, tails and heads; on arcs that leave node u lengths differ by at most c, and on no other. So it is where one arc's length is changed,
-- whose tail is u, and where the hold of u is.
pub record ChangedAt (u c : ℕ) (g g' : Graph) : Type 0 where
  pub nodes : g.nodes ≡ g'.nodes
  pub source : g.source ≡ g'.source
  pub tails : g.tails ≡ g'.tails
  pub heads : g.heads ≡ g'.heads
  pub elsewhere : (a : ℕ) → a < arcs g → tail g a ≢ u → len g a ≡ len g' a
  pub leaving : (a : ℕ) → a < arcs g → tail g a ≡ u → (len g a ≤ len g' a + c) × (len g' a ≤ len g a + c)

-- no length is smaller in the second graph
abbrev pub Lengthened : Graph → Graph → Type 0
Lengthened g g' = (a : ℕ) → a < arcs g → len g a ≤ len g' a
