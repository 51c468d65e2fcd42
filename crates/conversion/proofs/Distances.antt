-- Without its self-arcs a graph has the same distances: a route without them is a route, and every route has one without them that is no longer. So the
-- converted sheet has the distances that the old one had.
use Prim.Native.Nat.{ℕ, ◌≤◌, ◌<◌}
use mathlib.Core.Bool.{true, false}
use mathlib.Core.List.{List, [], ◌∷◌}
use mathlib.Core.Path.{◌≡◌, refl, sym, ap, subst, ◌∙◌}
use borrow.Author.Tests.{eqb-true, not-false}
use native.Mathlib.Omega.{arith}
use Rattle.indices.specs.Columns.{at}
use Rattle.indices.specs.Tests.{count}
use Rattle.indices.proofs.Steps.{by_truth}
use Rattle.indices.proofs.Tests.{count_nth}
use Rattle.indices.proofs.Selected.{number_below, selected_size, selected_entry}
use Rattle.sheet.specs.Sections.{node_count}
use Rattle.judgement.specs.Judgement.{Convertible}
use Rattle.procedure.specs.Graph.{Graph, arcs, tail, head, len}
use Rattle.procedure.specs.Routes.{Route, route_length, Shortest}
use Rattle.procedure.specs.Travel.{ShortestFor}
use Rattle.procedure.proofs.OfSheet.{graph_nodes}
use Rattle.theory_shortest.proofs.Compared.{both_labels}
use Rattle.theory_shortest.proofs.Travel.{for_sheet}
use Rattle.conversion.specs.Converted.{converted}
use Rattle.conversion.specs.Graph.{leads_on, without_self_arcs}
use Rattle.conversion.proofs.Graph.{graph_without}

module _ (g : Graph) where
  abbrev g' : Graph
  g' = without_self_arcs g

  -- the new number of an arc
  abbrev number : ℕ → ℕ
  number a = count (leads_on g) a

  -- ITS ARCS
  arcs_left_lem : arcs g' ≡ count (leads_on g) (arcs g)
  unfolding without_self_arcs
  arcs_left_lem = selected_size (leads_on g) (tail g) (arcs g)

  module _ (a : ℕ) (l : a < arcs g) (s : leads_on g a ≡ true) where
    arc_left : number a < arcs g'
    arc_left = omega (arith, arcs_left_lem, number_below (leads_on g) a (arcs g) l s)

    same_tail : tail g' (number a) ≡ tail g a
    unfolding without_self_arcs
    same_tail = selected_entry (leads_on g) (tail g) (arcs g) a l s

    same_head : head g' (number a) ≡ head g a
    unfolding without_self_arcs
    same_head = selected_entry (leads_on g) (head g) (arcs g) a l s

    same_len : len g' (number a) ≡ len g a
    unfolding without_self_arcs
    same_len = selected_entry (leads_on g) (len g) (arcs g) a l s

  -- a self-arc leads nowhere else
  leads_back_lem : (a : ℕ) → leads_on g a ≡ false → tail g a ≡ head g a
  leads_back_lem a e = eqb-true (tail g a) (head g a) (not-false _ e)

  -- ROUTES
  -- a route, and one without self-arcs that is no longer
  pub route_without : (u : ℕ) (way : List ℕ) (v : ℕ) → Route g u way v → (way' : List ℕ) × Route g' u way' v × (route_length g' way' ≤ route_length g way)
  unfolding Route route_length
  route_without u [] v r = ([], r, omega arith)
  route_without u (a ∷ rest) v r =
      let q = route_without (head g a) rest v r.2 in
      by_truth (leads_on g a)
      (λ on. (
        number a ∷ q.0,
        (arc_left a r.0 on, same_tail a r.0 on ∙ r.1, rw (same_head a r.0 on) q.1),
        omega (arith, same_len a r.0 on, q.2),
      ))
      (λ back. (q.0, rw (sym r.1 ∙ leads_back_lem a back) q.1, omega (arith, q.2)))

  -- a route without self-arcs is a route, of the same length
  pub route_with : (u : ℕ) (way : List ℕ) (v : ℕ) → Route g' u way v → (way' : List ℕ) × Route g u way' v × (route_length g way' ≡ route_length g' way)
  unfolding Route route_length
  route_with u [] v r = ([], r, refl)
  route_with u (a' ∷ rest) v r =
      let o = count_nth (leads_on g) (arcs g) a' (omega (arith, arcs_left_lem, r.0)) in
      let a = o.0 in
      let q = route_with (head g' a') rest v r.2 in (
        a ∷ q.0,
        (o.1, sym (same_tail a o.1 o.2) ∙ ap (tail g') o.3 ∙ r.1, rw (← same_head a o.1 o.2, o.3) q.1),
        omega (arith, same_len a o.1 o.2, ap (len g') o.3, q.2),
      )

-- DISTANCES
pub same_label : {g : Graph} {L P L' P' : List ℕ} → Shortest g L P → Shortest (without_self_arcs g) L' P' → (v : ℕ) → v < g.nodes → at L v ≡ at L' v
unfolding without_self_arcs
same_label {g} s s' v l =
    both_labels s s' v l l
    (record { route_for = λ way r. let w = route_without g g.source way v r in record { way = w.0; route = w.1; no_longer = omega (arith, w.2) } })
    (record { route_for = λ way r. let w = route_with g g.source way v r in record { way = w.0; route = w.1; no_longer = omega (arith, w.2) } })

-- "The converted sheet's distances are those the old sheet had."
pub same_shortest : (b : List ℕ) → Convertible b → {labels predecessors labels' predecessors' : List ℕ} → ShortestFor b labels predecessors
    → ShortestFor (converted b) labels' predecessors' → (v : ℕ) → v < node_count b → at labels v ≡ at labels' v
same_shortest b ok {labels' = labels'} {predecessors' = predecessors'} s s' v l =
    same_label ((for_sheet b).1 s) (subst (λ (g : Graph). Shortest g labels' predecessors') (graph_without b ok) ((for_sheet (converted b)).1 s')) v
    (rw (graph_nodes b) l)
