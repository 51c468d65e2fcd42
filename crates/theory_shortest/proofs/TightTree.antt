-- Labels are shortest just where predecessors form a tree with tight labels and arcs are relaxed: no route is shorter than its chain.
use Prim.Native.Nat.{ℕ, zero, suc, pred, ◌+◌, ◌*◌, ◌≤◌, ◌<◌}
use native.Mathlib.Nat.{zero-add}
use native.Mathlib.Omega.{arith}
use mathlib.Core.Path.{◌≡◌, refl, sym, ap, ◌∙◌}
use mathlib.Core.Logic.{◌≢◌}
use mathlib.Core.List.{List, [], ◌∷◌, ◌++◌}
use lib.ListN.{length}
use Rattle.indices.specs.Columns.{at}
use Rattle.indices.proofs.Steps.{by_equal}
use Rattle.sheet.specs.Limits.{most_length}
use Rattle.sheet.specs.Words.{top}
use Rattle.procedure.specs.Graph.{Graph, arcs, tail, head, len}
use Rattle.procedure.specs.Routes.{Route, route_length, followed, chain_to, Shortest}
use Rattle.theory_shortest.specs.WellFormed.{GraphOk}
use Rattle.theory_shortest.specs.Settled.{LeadsBack, home as led-home, back as led-back, Settled}
use Rattle.theory_shortest.proofs.Routes.{route_none, route_more, route_last, length_none, length_more, along_route, followed_home, followed_back}
use Rattle.theory_shortest.proofs.Depth.{Depth, home, back, depth_below, chain_arcs, depth_route, followed_depth, led_depth}

-- v's predecessor is an arc that leads to it from a reached node, and v's label allows for that arc
pub record FedBy (Allows : ℕ → ℕ → Type 0) (g : Graph) (labels predecessors : List ℕ) (v : ℕ) : Type 0 where
  pub is_arc_lem : at predecessors v < arcs g
  pub to_node : head g (at predecessors v) ≡ v
  pub from_reached : at labels (tail g (at predecessors v)) ≢ top
  pub allows : Allows (at labels (tail g (at predecessors v)) + len g (at predecessors v)) (at labels v)

-- its label allows for just that arc
abbrev pub Fed : Graph → List ℕ → List ℕ → ℕ → Type 0
Fed = FedBy (λ sum label. sum ≡ label)

-- The predecessors lead back to the source from every reached node, labels are tight along them, and every arc from a reached node is relaxed.
pub record TightTree (g : Graph) (labels predecessors : List ℕ) : Type 0 where
  pub source_label : at labels g.source ≡ 0
  pub source_unfed : at predecessors g.source ≡ top
  pub unfed : (v : ℕ) → v < g.nodes → at labels v ≡ top → at predecessors v ≡ top
  pub fed : (v : ℕ) → v < g.nodes → at labels v ≢ top → v ≢ g.source → Fed g labels predecessors v
  pub relaxed : (a : ℕ) → a < arcs g → at labels (tail g a) ≢ top → at labels (head g a) ≤ at labels (tail g a) + len g a
  pub led : (v : ℕ) → v < g.nodes → at labels v ≢ top → (d : ℕ) × Depth g predecessors v d

module _ {most : ℕ} (g : Graph) (ok : GraphOk most g) (labels predecessors : List ℕ) where
  module _ (t : TightTree g labels predecessors) where
    -- a label is no more than its depth allows
    label_low : {v d : ℕ} → Depth g predecessors v d → at labels v ≢ top → at labels v ≤ d * most_length
    label_low (home l e) r = rw (e, t.source_label) (omega arith)
    label_low (back {v = v} l n p) r =
        let f = t.fed v l r n in
        omega (arith, f.allows, label_low p f.from_reached, ok.short (at predecessors v) f.is_arc_lem)

    -- a reached label and one arc more is still below 'unreached'
    room : (v : ℕ) → v < g.nodes → at labels v ≢ top → at labels v + most_length < top
    unfolding top
    room v l r = let p = t.led v l r in omega (arith, label_low p.1 r, depth_below g predecessors p.1, ok.few_nodes)

    -- v is reached, at no more than n
    record ReachedBy (v n : ℕ) : Type 0 where
      is_node : v < g.nodes
      reached : at labels v ≢ top
      no_longer : at labels v ≤ n

    route_reaches : (way : List ℕ) (v : ℕ) → Route g g.source way v → ReachedBy v (route_length g way)
    unfolding top
    route_reaches way v r =
        rw zero-add at (along_route g ReachedBy step g.source 0 way v
        (record { is_node = ok.source_in; reached = omega (arith, t.source_label); no_longer = omega (arith, t.source_label) }) r)
      where
        step : (a n : ℕ) → a < arcs g → ReachedBy (tail g a) n → ReachedBy (head g a) (n + len g a)
        step a n la p =
            let up = t.relaxed a la p.reached in
            let small = room (tail g a) p.is_node p.reached in
            record { is_node = ok.head_in a la; reached = omega (arith, ok.short a la); no_longer = omega (arith, p.no_longer) }

    -- the predecessors followed from v, in enough steps, have just its label's length
    chain_length : {v d : ℕ} (m : ℕ) → Depth g predecessors v d → d ≤ m → at labels v ≢ top → route_length g (followed g predecessors m v) ≡ at labels v
    chain_length {v} m (home l e) lm r =
        rw (followed_home g predecessors m v e) (length_none g ∙ sym t.source_label ∙ ap (at labels) (sym e))
    chain_length zero (back l n p) lm r = absurd (omega arith)
    chain_length {v} (suc m) (back l n p) lm r =
        let f = t.fed v l r n in
        let a = at predecessors v in
        rw (followed_back g predecessors m v n)
        (length_more g (followed g predecessors m (tail g a)) a ∙ ap (λ (x : ℕ). x + len g a) (chain_length m p (omega arith) f.from_reached) ∙ f.allows)

    -- and are a route
    chain_shortest : (v : ℕ) → v < g.nodes → at labels v ≢ top
        → Route g g.source (chain_to g predecessors v) v × (route_length g (chain_to g predecessors v) ≡ at labels v)
    chain_shortest v l r =
        let p = t.led v l r in
        let few : p.0 ≤ g.nodes = omega (arith, depth_below g predecessors p.1) in
        let route = depth_route g predecessors (λ u. (u < g.nodes) × (at labels u ≢ top))
        (λ u q n. let f = t.fed u q.0 q.1 n in (f.is_arc_lem, f.to_node, (ok.tail_in_lem (at predecessors u) f.is_arc_lem, f.from_reached)))
        g.nodes p.1 few (l, r) in
        (route, chain_length g.nodes p.1 few r)

    -- A tight tree is shortest.
    pub tree_shortest : Shortest g labels predecessors
    tree_shortest = record {
      unreached = λ v l. (
        λ e way r. (route_reaches way v r).reached e,
        λ no_way. by_equal (at labels v) top (λ e. e) (λ n. absurd (no_way _ (chain_shortest v l n).0)),
      );
      least = λ v l way r. (route_reaches way v r).no_longer;
      chain = chain_shortest;
      unfed = t.unfed;
      source_unfed = t.source_unfed;
    }

  module _ (s : Shortest g labels predecessors) where
    -- a node that a route leads to is reached
    reached_by : (v : ℕ) → v < g.nodes → (way : List ℕ) → Route g g.source way v → at labels v ≢ top
    reached_by v l way r e = (s.unreached v l).0 e way r

    -- one arc more on the chain to its tail is a route
    shortest_relaxed : (a : ℕ) → a < arcs g → at labels (tail g a) ≢ top → at labels (head g a) ≤ at labels (tail g a) + len g a
    shortest_relaxed a la r =
        let p = s.chain (tail g a) (ok.tail_in_lem a la) r in
        let way = chain_to g predecessors (tail g a) in
        let on = route_more g g.source way a (head g a) p.0 la refl in
        omega (arith, s.least (head g a) (ok.head_in a la) (way ++ (a ∷ [])) on, length_more g way a, p.1)

    -- the last arc of a chain is its node's predecessor; the chain before it is no shorter than the tail's label, and no longer
    shortest_fed : (n v : ℕ) → g.nodes ≡ suc n → v < g.nodes → at labels v ≢ top → v ≢ g.source → Fed g labels predecessors v
    shortest_fed n v size l r e =
        let a = at predecessors v in
        let way = followed g predecessors n (tail g a) in
        let split : chain_to g predecessors v ≡ way ++ (a ∷ []) = ap (λ (m : ℕ). followed g predecessors m v) size ∙ followed_back g predecessors n v e in
        let p = s.chain v l r in
        let q = route_last g g.source way a v (rw split at p.0) in
        let from = ok.tail_in_lem a q.1 in
        let from_reached = reached_by (tail g a) from way q.0 in
        record {
          is_arc_lem = q.1;
          to_node = q.2;
          from_reached = from_reached;
          allows = omega (
            arith,
            s.least (tail g a) from way q.0,
            shortest_relaxed a q.1 from_reached,
            ap (at labels) q.2,
            ap (route_length g) split,
            length_more g way a,
            p.1,
          );
        }

    -- What is shortest is a tight tree.
    pub shortest_tree : TightTree g labels predecessors
    shortest_tree = record {
      source_label = omega (arith, s.least g.source ok.source_in [] (route_none g g.source g.source refl), length_none g);
      source_unfed = s.source_unfed;
      unfed = s.unfed;
      fed = λ v l. shortest_fed (pred g.nodes) v (omega arith) l;
      relaxed = shortest_relaxed;
      led = λ v l r. followed_depth ok predecessors g.nodes v l (s.chain v l r).0;
    }

    -- the chain of a reached node has fewer arcs than there are nodes
    pub chain_few : (v : ℕ) → v < g.nodes → at labels v ≢ top → length (chain_to g predecessors v) < g.nodes
    chain_few v l r =
        let p = shortest_tree.led v l r in
        let few = depth_below g predecessors p.1 in
        omega (arith, chain_arcs g predecessors g.nodes p.1 (omega arith))

  module _ (s : Settled g labels predecessors) where
    below : (v : ℕ) → v < g.nodes → at labels v ≢ top → at labels v < top
    below v l r = let cap = s.capped v l in omega arith

    led_fed : {v : ℕ} → LeadsBack g labels predecessors v → v < g.nodes → at labels v ≢ top → v ≢ g.source → Fed g labels predecessors v
    led_fed (led-home e) l r n = absurd (n e)
    led_fed {v} (led-back a la e to down rest) l r n =
        let here = below v l r in
        record {
          is_arc_lem = rw e la;
          to_node = rw e to;
          from_reached = rw e (omega arith);
          allows = rw e (omega (arith, s.relaxed a la (omega arith), ap (at labels) to));
        }

    -- Where no leaf has a key there is a tight tree.
    settled_tree : TightTree g labels predecessors
    settled_tree = record {
      source_label = s.source_label;
      source_unfed = s.source_unfed;
      unfed = s.unfed;
      fed = λ v l r. led_fed (s.led v l (below v l r)) l r;
      relaxed = λ a la r. s.relaxed a la (below (tail g a) (ok.tail_in_lem a la) r);
      led = λ v l r. led_depth ok (s.led v l (below v l r)) l;
    }

-- Where no leaf has a key, labels and predecessors are shortest.
pub settled_shortest : {most : ℕ} {g : Graph} {labels predecessors : List ℕ} → GraphOk most g → Settled g labels predecessors → Shortest g labels predecessors
settled_shortest {g = g} {labels = labels} {predecessors = predecessors} ok s =
    tree_shortest g ok labels predecessors (settled_tree g ok labels predecessors s)
