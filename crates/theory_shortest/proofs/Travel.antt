-- A route from the source is as long as its arcs in the graph together, of which each has its tail's hold in its length; so what is shortest by the graph is
-- shortest for the sheet.
use Prim.Native.Nat.{ℕ, ◌+◌, ◌<◌}
use native.Mathlib.Omega.{arith}
use mathlib.Core.Path.{◌≡◌, refl, sym, ap, ◌∙◌}
use mathlib.Core.Logic.{◌↔◌}
use mathlib.Core.List.{List, [], ◌∷◌}
use Rattle.sheet.specs.Sections.{hold_count, arc_count}
use Rattle.sheet.specs.Arcs.{arc_length, charged, taken_length}
use Rattle.sheet.proofs.Holds.{charged_source, charged_none}
use Rattle.procedure.specs.Graph.{Graph, head}
use Rattle.procedure.specs.OfSheet.{graph_of}
use Rattle.procedure.specs.Routes.{Route, route_length, ShortestBy, Shortest}
use Rattle.procedure.specs.Travel.{sum_over, between, travel_time, ShortestFor}
use Rattle.procedure.proofs.OfSheet.{graph_source, graph_arcs, graph_tail, graph_head, graph_len}

-- lengths that agree on every route from the source make the same labels shortest
shortest_ext : {g : Graph} {long long' : List ℕ → ℕ} {labels predecessors : List ℕ}
    → ((way : List ℕ) (v : ℕ) → Route g g.source way v → long way ≡ long' way) → ShortestBy long g labels predecessors
    → ShortestBy long' g labels predecessors
shortest_ext agree s = record {
  unreached = s.unreached;
  least = λ v l way r. rw (sym (agree way v r)) (s.least v l way r);
  chain = λ v l n. let p = s.chain v l n in (p.0, sym (agree _ v p.0) ∙ p.1);
  unfed = s.unfed;
  source_unfed = s.source_unfed;
}

module _ (b : List ℕ) where
  -- from any node on: what the graph's arcs have beyond the travel time is charged at the first node
  from_node : (u a : ℕ) (way : List ℕ) (v : ℕ) → Route (graph_of b) u (a ∷ way) v → route_length (graph_of b) (a ∷ way) ≡ charged b u + travel_time b (a ∷ way)
  unfolding Route route_length travel_time sum_over between taken_length
  from_node u a [] v r =
      let la : a < arc_count b = rw (graph_arcs b) at r.0 in
      omega (arith, graph_len b a la, ap (charged b) (sym (graph_tail b a la) ∙ r.1))
  from_node u a (next ∷ way) v r =
      let la : a < arc_count b = rw (graph_arcs b) at r.0 in
      omega (
        arith,
        graph_len b a la,
        ap (charged b) (sym (graph_tail b a la) ∙ r.1),
        ap (charged b) (graph_head b a la),
        from_node (head (graph_of b) a) next way v r.2,
      )

  -- The length of a route from the source, as the request words it, is that of its arcs in the graph.
  pub travel_time_lem : (way : List ℕ) (v : ℕ) → Route (graph_of b) (graph_of b).source way v → travel_time b way ≡ route_length (graph_of b) way
  unfolding route_length travel_time sum_over between
  travel_time_lem [] v r = refl
  travel_time_lem (a ∷ way) v r = omega (arith, from_node _ a way v r, charged_source b (graph_of b).source (graph_source b))

  -- Without holds it is "the sum of its arcs' lengths. Passing a node takes no time."
  pub without_holds : hold_count b ≡ 0 → (way : List ℕ) → travel_time b way ≡ sum_over (arc_length b) way
  unfolding travel_time sum_over
  without_holds none way = omega (arith, nothing_charged (between b way))
    where
      nothing_charged : (vs : List ℕ) → sum_over (charged b) vs ≡ 0
      nothing_charged [] = refl
      nothing_charged (v ∷ vs) = omega (arith, charged_none b v none, nothing_charged vs)

  -- Shortest by the graph is shortest for the sheet.
  pub for_sheet : {labels predecessors : List ℕ} → Shortest (graph_of b) labels predecessors ↔ ShortestFor b labels predecessors
  for_sheet = (shortest_ext (λ way v r. sym (travel_time_lem way v r)), shortest_ext travel_time_lem)
