-- The test of a table, part by part: it fails where a part fails, and passes where all do.
use Prim.Native.Nat.{ℕ, zero, suc}
use mathlib.Core.Bool.{Bool, true, false, not, ◌&&◌}
use mathlib.Core.Path.{◌≡◌, refl, ap, ◌∙◌}
use mathlib.Core.List.{List}
use Rattle.indices.specs.Tests.{all}
use Rattle.indices.proofs.Tests.{and_right, all_at}
use Rattle.sheet.specs.Sections.{node_count, arc_count}
use Rattle.procedure.specs.Graph.{arcs}
use Rattle.procedure.specs.OfSheet.{graph_of}
use Rattle.procedure.proofs.OfSheet.{graph_nodes, graph_source, graph_arcs}
use Rattle.theory_shortest.specs.TableTest.{unfed_test, fed_test, settled?}
use Rattle.theory_shortest.proofs.TableTest.{fed_test_lem}
use Rattle.calls.specs.Routes.{not_shortest}
use Rattle.table.specs.Fits.{labels, predecessors}
use Rattle.table_shortest.specs.declared.nodes.Allowed.{Allowed}
use Rattle.table_shortest.specs.declared.nodes.Allowed.TheVariants.{Exactly}
use Rattle.table_shortest.specs.ArcChecks.{source_fits, arc_relaxed}
use Rattle.table_shortest.specs.NodeChecks.{allowed, node_fits}
use Rattle.table_shortest.specs.WalkChecks.{node_led}
use Rattle.table_shortest.specs.Stamps.{Followable}

-- both tests of all indices are each test of all
pub all_both : (p q : ℕ → Bool) (n : ℕ) → all (λ i. p i && q i) n ≡ all p n && all q n
unfolding all
all_both p q zero = refl
all_both p q (suc n) = ap (λ (t : Bool). t && (p n && q n)) (all_both p q n) ∙ swap (all p n) (all q n) (p n) (q n)
  where
    swap : (a b c d : Bool) → (a && b) && (c && d) ≡ (a && c) && (b && d)
    swap true true c d = refl
    swap true false true d = refl
    swap true false false d = refl
    swap false b c d = refl

regroup : (s u f r l : Bool) → not ((s && u) && ((f && r) && l)) ≡ not (s && ((u && f) && (r && l)))
regroup true true true r l = refl
regroup true true false r l = refl
regroup true false f r l = refl
regroup false u f r l = refl

-- source, nodes, arcs, and that all lead back
pub shortest_parts : (b table : List ℕ) → not_shortest b table
    ≡ not (source_fits b table &&
    (all (node_fits b table Exactly) (node_count b) && (all (arc_relaxed b table) (arc_count b) && all (node_led b table) (node_count b))))
unfolding not_shortest settled?
shortest_parts b table =
    let unfed = unfed_test (graph_of b) (labels b table) (predecessors b table) in
    let fed = fed_test (graph_of b) (labels b table) (predecessors b table) in
    let relaxed = arc_relaxed b table in
    let led = node_led b table in
    let tests : ℕ → ℕ → Bool = λ n m. not ((source_fits b table && all unfed n) && ((all fed n && all relaxed m) && all led n)) in
    ap (λ (n : ℕ). tests n (arcs (graph_of b))) (graph_nodes b) ∙ ap (tests (node_count b)) (graph_arcs b)
    ∙ rw (all_both unfed fed (node_count b))
    (regroup (source_fits b table) (all unfed (node_count b)) (all fed (node_count b)) (all relaxed (arc_count b)) (all led (node_count b)))

-- where the nodes fit, the predecessors can be followed back
pub fit_followable : (b table : List ℕ) (how : Allowed) → all (node_fits b table how) (node_count b) ≡ true → Followable b table
fit_followable b table how fit = record {
  onward =
      λ v l r n.
      let unfed = unfed_test (graph_of b) (labels b table) (predecessors b table) v in
      let fed = and_right unfed _ (all_at (node_fits b table how) (node_count b) v fit l) in
      let f =
      (fed_test_lem (graph_of b) (labels b table) (predecessors b table) {Allows = λ sum label. allowed how sum label ≡ true} (λ _ _. (λ t. t, λ t. t))
      v).0
      fed r (λ e. n (e ∙ graph_source b)) in
      record { is_arc_lem = f.is_arc_lem; from_reached = f.from_reached };
}
