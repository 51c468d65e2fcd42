-- The test of labels and predecessors passes just where they are shortest: it says, test by test, that they form a tight tree.
use Prim.Native.Nat.{ℕ, pred, ◌+◌, ◌≤◌, ◌<◌}
use native.Mathlib.Omega.{arith}
use mathlib.Core.Bool.{Bool, true, not, ◌&&◌}
use mathlib.Core.Path.{◌≡◌, ap}
use mathlib.Core.Logic.{◌≢◌, ◌↔◌}
use mathlib.Core.List.{List}
use lib.Dec.{ltb, eqb}
use borrow.Author.Tests.{ltb-true, lt-ltb, leb-true, le-leb, eqb-true, eq-eqb, ne_eqb, eqb-false, not-true, not-false}
use Rattle.indices.specs.Columns.{at}
use Rattle.indices.specs.Tests.{all}
use Rattle.indices.proofs.Tests.{and_left, and_right, and_both, or_then, or_if, all_at, all_true}
use Rattle.sheet.specs.Words.{top}
use Rattle.procedure.specs.Graph.{Graph, arcs, tail, head, len}
use Rattle.procedure.specs.Routes.{Shortest}
use Rattle.theory_shortest.specs.WellFormed.{GraphOk}
use Rattle.theory_shortest.specs.TableTest.{leads_back, source_test, unfed_test, fed_by, fed_test, relaxed_test, led_test, settled?}
use Rattle.theory_shortest.proofs.Depth.{Depth, depth_below}
use Rattle.theory_shortest.proofs.LeadsBack.{depth_leads, leads_depth}
use Rattle.theory_shortest.proofs.TightTree.{FedBy, Fed, TightTree, tree_shortest, shortest_tree}

-- what each test says
module _ (g : Graph) (labels predecessors : List ℕ) where
  pub source_test_lem : (source_test g labels predecessors ≡ true) ↔ ((at labels g.source ≡ 0) × (at predecessors g.source ≡ top))
  unfolding source_test
  source_test_lem =
      let zeroed = eqb (at labels g.source) 0 in (
        λ t. (eqb-true _ _ (and_left zeroed _ t), eqb-true _ _ (and_right zeroed _ t)),
        λ p. and_both _ _ (eq-eqb _ _ p.0) (eq-eqb _ _ p.1),
      )

  pub unfed_test_lem : (v : ℕ) → (unfed_test g labels predecessors v ≡ true) ↔ (at labels v ≡ top → at predecessors v ≡ top)
  unfolding unfed_test
  unfed_test_lem v = (
    λ t e. eqb-true _ _ (or_then (not (eqb (at labels v) top)) _ t (ap not (eq-eqb (at labels v) top e))),
    λ p. or_if (not (eqb (at labels v) top)) _ (λ e. eq-eqb _ _ (p (eqb-true _ _ (not-false _ e)))),
  )

  -- for any comparison and what it tells
  pub fed_test_lem : {allows : ℕ → ℕ → Bool} {Allows : ℕ → ℕ → Type 0} → ((m n : ℕ) → (allows m n ≡ true) ↔ Allows m n)
      → (v : ℕ) → (fed_by g labels predecessors allows v ≡ true) ↔ (at labels v ≢ top → v ≢ g.source → FedBy Allows g labels predecessors v)
  unfolding fed_by
  fed_test_lem {allows} told v =
      let a = at predecessors v in
      let arrives = ltb a (arcs g) && eqb (head g a) v in
      let reached = not (eqb (at labels (tail g a)) top) in (
        λ t r n.
            let fits : arrives && (reached && allows (at labels (tail g a) + len g a) (at labels v)) ≡ true =
            or_then (eqb v g.source) _ (or_then (eqb (at labels v) top) _ t (ne_eqb (at labels v) top r)) (ne_eqb v g.source n) in
            let first = and_left arrives _ fits in
            let second = and_right arrives _ fits in
            record {
              is_arc_lem = ltb-true a (arcs g) (and_left (ltb a (arcs g)) (eqb (head g a) v) first);
              to_node = eqb-true (head g a) v (and_right (ltb a (arcs g)) (eqb (head g a) v) first);
              from_reached = eqb-false (at labels (tail g a)) top (not-true _ (and_left reached _ second));
              allows = (told _ _).0 (and_right reached _ second);
            },
        λ p. or_if (eqb (at labels v) top) _ (λ r. or_if (eqb v g.source) _ (λ n.
            let f = p (eqb-false (at labels v) top r) (eqb-false v g.source n) in
            and_both _ _ (and_both _ _ (lt-ltb _ _ f.is_arc_lem) (eq-eqb _ _ f.to_node))
            (and_both _ _ (ap not (ne_eqb _ top f.from_reached)) ((told _ _).1 f.allows)))),
      )

  -- labels are equal
  pub tight_test : (v : ℕ) → (fed_test g labels predecessors v ≡ true) ↔ (at labels v ≢ top → v ≢ g.source → Fed g labels predecessors v)
  tight_test = fed_test_lem (λ m n. (eqb-true m n, eq-eqb m n))

  pub relaxed_test_lem : (a : ℕ) → (relaxed_test g labels predecessors a ≡ true)
      ↔ (at labels (tail g a) ≢ top → at labels (head g a) ≤ at labels (tail g a) + len g a)
  unfolding relaxed_test
  relaxed_test_lem a = (
    λ t r. leb-true _ _ (or_then (eqb (at labels (tail g a)) top) _ t (ne_eqb (at labels (tail g a)) top r)),
    λ p. or_if (eqb (at labels (tail g a)) top) _ (λ r. le-leb _ _ (p (eqb-false _ top r))),
  )

  pub led_test_lem : (v : ℕ) → (led_test g labels predecessors v ≡ true) ↔ (at labels v ≢ top → leads_back g predecessors (pred g.nodes) v ≡ true)
  unfolding led_test
  led_test_lem v = (
    λ t r. or_then (eqb (at labels v) top) _ t (ne_eqb (at labels v) top r),
    λ p. or_if (eqb (at labels v) top) _ (λ r. p (eqb-false (at labels v) top r)),
  )

-- each of the tests passes
record Passes (g : Graph) (labels predecessors : List ℕ) : Type 0 where
  of_source : source_test g labels predecessors ≡ true
  of_unfed : (v : ℕ) → v < g.nodes → unfed_test g labels predecessors v ≡ true
  of_fed : (v : ℕ) → v < g.nodes → fed_test g labels predecessors v ≡ true
  of_relaxed : (a : ℕ) → a < arcs g → relaxed_test g labels predecessors a ≡ true
  of_led : (v : ℕ) → v < g.nodes → led_test g labels predecessors v ≡ true

module _ (g : Graph) (labels predecessors : List ℕ) where
  apart : settled? g labels predecessors ≡ true → Passes g labels predecessors
  unfolding settled?
  apart t =
      let source = source_test g labels predecessors in
      let fed = all (fed_test g labels predecessors) g.nodes in
      let relaxed = all (relaxed_test g labels predecessors) (arcs g) in
      let first = and_left (source && all (unfed_test g labels predecessors) g.nodes) _ t in
      let rest = and_right (source && all (unfed_test g labels predecessors) g.nodes) _ t in
      let second = and_left (fed && relaxed) _ rest in
      record {
        of_source = and_left source _ first;
        of_unfed = λ v l. all_at _ g.nodes v (and_right source _ first) l;
        of_fed = λ v l. all_at _ g.nodes v (and_left fed _ second) l;
        of_relaxed = λ a l. all_at _ (arcs g) a (and_right fed _ second) l;
        of_led = λ v l. all_at _ g.nodes v (and_right (fed && relaxed) _ rest) l;
      }

  together : Passes g labels predecessors → settled? g labels predecessors ≡ true
  unfolding settled?
  together p =
      let fed = all_true _ g.nodes p.of_fed in
      let relaxed = all_true _ (arcs g) p.of_relaxed in
      let led = all_true _ g.nodes p.of_led in
      and_both _ _ (and_both _ _ p.of_source (all_true _ g.nodes p.of_unfed)) (and_both _ _ (and_both _ _ fed relaxed) led)

module _ {most : ℕ} (g : Graph) (ok : GraphOk most g) (labels predecessors : List ℕ) where
  -- the tests pass: a tight tree
  module _ (p : Passes g labels predecessors) where
    node_unfed : (v : ℕ) → v < g.nodes → at labels v ≡ top → at predecessors v ≡ top
    node_unfed v l = (unfed_test_lem g labels predecessors v).0 (p.of_unfed v l)

    node_fed : (v : ℕ) → v < g.nodes → at labels v ≢ top → v ≢ g.source → Fed g labels predecessors v
    node_fed v l = (tight_test g labels predecessors v).0 (p.of_fed v l)

    node_depth : (v : ℕ) → v < g.nodes → at labels v ≢ top → (d : ℕ) × Depth g predecessors v d
    node_depth v l r =
        leads_depth g predecessors (λ u. (u < g.nodes) × (at labels u ≢ top)) (λ u q. q.0)
        (λ u q n. let f = node_fed u q.0 q.1 n in (ok.tail_in_lem (at predecessors u) f.is_arc_lem, f.from_reached)) (pred g.nodes) v (l, r)
        ((led_test_lem g labels predecessors v).0 (p.of_led v l) r)

    passes_tree : TightTree g labels predecessors
    passes_tree = record {
      source_label = ((source_test_lem g labels predecessors).0 p.of_source).0;
      source_unfed = ((source_test_lem g labels predecessors).0 p.of_source).1;
      unfed = node_unfed;
      fed = node_fed;
      relaxed = λ a la. (relaxed_test_lem g labels predecessors a).0 (p.of_relaxed a la);
      led = node_depth;
    }

  -- a tight tree: the tests pass
  tree_passes : TightTree g labels predecessors → Passes g labels predecessors
  tree_passes t = record {
    of_source = (source_test_lem g labels predecessors).1 (t.source_label, t.source_unfed);
    of_unfed = λ v l. (unfed_test_lem g labels predecessors v).1 (t.unfed v l);
    of_fed = λ v l. (tight_test g labels predecessors v).1 (t.fed v l);
    of_relaxed = λ a la. (relaxed_test_lem g labels predecessors a).1 (t.relaxed a la);
    of_led = λ v l. (led_test_lem g labels predecessors v).1 (λ r.
        let q = t.led v l r in
        depth_leads g predecessors (pred g.nodes) q.1 (omega (arith, depth_below g predecessors q.1)));
  }

-- The test passes: the table is shortest.
pub test_shortest : {most : ℕ} (g : Graph) → GraphOk most g → (labels predecessors : List ℕ) → settled? g labels predecessors ≡ true
    → Shortest g labels predecessors
test_shortest g ok labels predecessors t = tree_shortest g ok labels predecessors (passes_tree g ok labels predecessors (apart g labels predecessors t))

-- The table is shortest: the test passes.
pub shortest_test : {most : ℕ} (g : Graph) → GraphOk most g → (labels predecessors : List ℕ) → Shortest g labels predecessors
    → settled? g labels predecessors ≡ true
shortest_test g ok labels predecessors s = together g labels predecessors (tree_passes g ok labels predecessors (shortest_tree g ok labels predecessors s))
