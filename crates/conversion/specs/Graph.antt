-- A graph without its arcs from a node to itself. Definitions.
use Rattle.std.specs.Prelude.{ℕ, Bool, not, [], ◌∷◌, eqb}
use Rattle.indices.specs.Columns.{selected}
use Rattle.procedure.specs.Graph.{Graph, arcs, tail, head, len}

-- an arc that leads from one node to another
abbrev pub leads_on : Graph → ℕ → Bool
leads_on g a = not (eqb (tail g a) (head g a))

-- the same nodes and source, and those arcs in their old order, each with its length
unfoldable pub without_self_arcs : Graph → Graph
without_self_arcs g = record {
  nodes = g.nodes;
  source = g.source;
  tails = selected (leads_on g) (λ a. tail g a ∷ []) (arcs g);
  heads = selected (leads_on g) (λ a. head g a ∷ []) (arcs g);
  lengths = selected (leads_on g) (λ a. len g a ∷ []) (arcs g);
}
