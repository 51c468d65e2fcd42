-- Predecessors followed back in a table that passed: at each step the route is one arc shorter, and the source has none.
use Prim.Native.Nat.{ℕ, suc, ◌+◌, ◌-◌, ◌≤◌, ◌<◌}
use native.Mathlib.Omega.{arith}
use mathlib.Core.Bool.{false}
use mathlib.Core.Path.{◌≡◌, refl, sym, ap, ◌∙◌}
use mathlib.Core.Logic.{◌≢◌}
use mathlib.Core.List.{List, [], ◌∷◌, ◌++◌, append_assoc}
use lib.ListN.{length, drop, set, length-set}
use lib.Seq.{drop-cons, drop-set-lt, get_or-set_same}
use Rattle.indices.specs.Columns.{at}
use Rattle.sheet.specs.Limits.{most_arcs_each_way}
use Rattle.sheet.specs.Words.{top}
use Rattle.sheet.specs.Sections.{node_count, source, arc_count}
use Rattle.judgement.specs.Judgement.{Accepted}
use Rattle.judgement.proofs.Accepted.{few_nodes}
use Rattle.procedure.specs.OfSheet.{graph_of}
use Rattle.theory_shortest.specs.WellFormed.{GraphOk}
use Rattle.procedure.specs.Routes.{chain_to, Shortest}
use Rattle.procedure.proofs.OfSheet.{graph_nodes, graph_source, graph_arcs}
use Rattle.theory_shortest.proofs.WellFormed.{accepted_well_formed}
use Rattle.theory_shortest.proofs.TightTree.{chain_few}
use Rattle.theory_shortest.proofs.Chains.{chain_home, chain_arc, chain_from, chain_reached, chain_back, chain_longer}
use Rattle.theory_shortest.proofs.Travel.{for_sheet}
use Rattle.calls.specs.Tables.{predecessor_in}
use Rattle.calls.specs.Routes.{not_shortest, route_to}
use Rattle.calls.proofs.Routes.{shortest_agrees}
use Rattle.table.specs.Fits.{labels, predecessors, node_before}
use Rattle.table.proofs.read.Columns.{label_there, predecessor_there}
use Rattle.route.specs.Reached.{Reached}

-- a node that is not the number read as the source's is not the source
pub not_home : {u home source : ℕ} → home ≡ source → u ≢ home → u ≢ source
not_home e n h = n (h ∙ sym e)

module _ (b : List ℕ) (ok : Accepted b) where
  good : GraphOk most_arcs_each_way (graph_of b)
  good = (accepted_well_formed b ok).graph

  shortest : (table : List ℕ) → not_shortest b table ≡ false → Shortest (graph_of b) (labels b table) (predecessors b table)
  shortest table passed = (for_sheet b).1 ((shortest_agrees b table ok).0 passed)

module _ {b table : List ℕ} (ok : Accepted b) (passed : not_shortest b table ≡ false) where
  module _ {u : ℕ} (r : Reached b table u) where
    node : u < (graph_of b).nodes
    node = omega (arith, graph_nodes b, r.inside)

    label : at (labels b table) u ≢ top
    label e = r.labelled (label_there b table u r.inside ∙ e)

    -- the source has the empty route
    pub route_home : u ≡ source b → length (route_to b table u) ≡ 0
    unfolding route_to
    route_home e =
        ap length
        (chain_home (graph_of b) (good b ok) (labels b table) (predecessors b table) (shortest b ok table passed) u node (e ∙ sym (graph_source b)))

    pub route_few : length (route_to b table u) < 1024
    unfolding route_to
    route_few =
        let few = chain_few (graph_of b) (good b ok) (labels b table) (predecessors b table) (shortest b ok table passed) u node label in
        omega (arith, graph_nodes b, few_nodes b ok)

    -- where the route has an arc, the node is not the source
    pub route_away : 0 < length (route_to b table u) → u ≢ source b
    route_away l e = omega (arith, route_home e)

    -- elsewhere the route is that of the node before, and the predecessor
    module _ (away : u ≢ source b) where
      other : u ≢ (graph_of b).source
      other e = away (e ∙ graph_source b)

      pub arc_there : predecessor_in table u < arc_count b
      arc_there =
          let is_arc_lem = chain_arc (graph_of b) (good b ok) (labels b table) (predecessors b table) (shortest b ok table passed) u node label other in
          omega (arith, graph_arcs b, predecessor_there b table u r.inside)

      pub before_reached : Reached b table (node_before b table u)
      before_reached =
          let from = chain_from (graph_of b) (good b ok) (labels b table) (predecessors b table) (shortest b ok table passed) u node label other in
          let inside : node_before b table u < node_count b = omega (arith, graph_nodes b) in
          let reached = chain_reached (graph_of b) (good b ok) (labels b table) (predecessors b table) (shortest b ok table passed) u node label other in
          record { inside = inside; labelled = λ e. reached (sym (label_there b table (node_before b table u) inside) ∙ e) }

      pub route_back : route_to b table u ≡ route_to b table (node_before b table u) ++ (predecessor_in table u ∷ [])
      unfolding route_to
      route_back =
          chain_back (graph_of b) (good b ok) (labels b table) (predecessors b table) (shortest b ok table passed) u node label other
          ∙ ap (λ (a : ℕ). chain_to (graph_of b) (predecessors b table) (node_before b table u) ++ (a ∷ [])) (sym (predecessor_there b table u r.inside))

      pub route_longer : length (route_to b table u) ≡ length (route_to b table (node_before b table u)) + 1
      unfolding route_to
      route_longer = chain_longer (graph_of b) (good b ok) (labels b table) (predecessors b table) (shortest b ok table passed) u node label other

-- COUNTING: of the arcs of the route to v, n are counted, and those of the route to u are not
pub record Counting (b table : List ℕ) (v u n : ℕ) : Type 0 where
  pub reached : Reached b table u
  pub total : n + length (route_to b table u) ≡ length (route_to b table v)

module _ {b table : List ℕ} {v u n : ℕ} (ok : Accepted b) (passed : not_shortest b table ≡ false) (C : Counting b table v u n) where
  pub count_on : u ≢ source b → Counting b table v (node_before b table u) (n + 1)
  count_on away = record {
    reached = before_reached ok passed C.reached away;
    total = omega (arith, C.total, route_longer ok passed C.reached away);
  }

  pub count_less : u ≢ source b → length (route_to b table (node_before b table u)) < length (route_to b table u)
  count_less away = omega (arith, route_longer ok passed C.reached away)

  pub count_end : u ≡ source b → n ≡ length (route_to b table v)
  count_end e = omega (arith, C.total, route_home ok passed C.reached e)

-- WRITING: of the n arcs of the route to v those from place k on are written, those before it, the route to u, are still to come
pub record Writing (b table buffer₀ : List ℕ) (v n : ℕ) (buffer : List ℕ) (u k : ℕ) : Type 0 where
  pub reached : Reached b table u
  pub left : k ≡ length (route_to b table u)
  pub long : length buffer ≡ length buffer₀
  pub few : k ≤ n
  pub room : n ≤ length buffer
  pub same : route_to b table u ++ drop k buffer ≡ route_to b table v ++ drop n buffer₀

-- what stands from a place on, after a store there
drop_set : (l : List ℕ) (i a : ℕ) → i < length l → drop i (set l i a) ≡ a ∷ drop (suc i) l
drop_set l i a h =
    let there : i < length (set l i a) = simp length-set h in
    drop-cons (set l i a) i 0 there ∙ rw (get_or-set_same l i a 0 h, drop-set-lt (suc i) l i a (omega arith))

-- none is written
pub write_start : {b table buffer : List ℕ} {v n : ℕ} → Reached b table v → n ≡ length (route_to b table v) → n ≤ length buffer
    → Writing b table buffer v n buffer v n
write_start r e room = record { reached = r; left = e; long = refl; few = omega arith; room = room; same = refl }

module _ {b table buffer₀ buffer : List ℕ} {v n u k : ℕ} (ok : Accepted b) (passed : not_shortest b table ≡ false)
    (W : Writing b table buffer₀ v n buffer u k) where
  -- one arc more, in front of those that are written
  module _ (some : 0 < k) where
    pub write_away : u ≢ source b
    write_away = route_away ok passed W.reached (omega (arith, W.left))

    pub write_on : Writing b table buffer₀ v n (set buffer (k - 1) (predecessor_in table u)) (node_before b table u) (k - 1)
    write_on =
        let before = node_before b table u in
        let a = predecessor_in table u in
        let next : suc (k - 1) ≡ k = omega arith in
        record {
          reached = before_reached ok passed W.reached write_away;
          left = omega (arith, W.left, route_longer ok passed W.reached write_away);
          long = simp length-set W.long;
          few = omega (arith, W.few);
          room = simp length-set W.room;
          same =
              ap (λ (rest : List ℕ). route_to b table before ++ rest) (drop_set buffer (k - 1) a (omega (arith, W.few, W.room)))
              ∙ ap (λ (i : ℕ). route_to b table before ++ (a ∷ drop i buffer)) next
              ∙ sym (append_assoc (route_to b table before) (a ∷ []) (drop k buffer))
              ∙ ap (λ (way : List ℕ). way ++ drop k buffer) (sym (route_back ok passed W.reached write_away)) ∙ W.same;
        }

  -- none is to come
  pub write_end : k ≡ 0 → buffer ≡ route_to b table v ++ drop n buffer₀
  write_end e = empty (route_to b table u) (sym W.left ∙ e) ∙ W.same
    where
      empty : (way : List ℕ) → length way ≡ 0 → buffer ≡ way ++ drop k buffer
      empty [] h = rw e
      empty (a ∷ way) h = absurd (omega arith)

-- a count, and arcs written
pub ruleset count_steps = (not_home, arc_there, route_few, count_on, count_less, count_end)

pub ruleset write_steps = (arc_there, write_start, write_away, write_on, write_end)
