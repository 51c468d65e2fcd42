-- The test of a possible state passes just where the table is `Possible`: each of its tests is one sentence of it, and so many steps back lead to the source
-- just where the feeding arcs, followed back, are a route from there.
use Prim.Native.Nat.{ℕ, suc, pred, ◌+◌, ◌-◌, ◌*◌, ◌^◌, ◌≤◌, ◌<◌}
use mathlib.Core.Bool.{Bool, true, false, not, ◌&&◌, true≢false}
use mathlib.Core.Path.{◌≡◌, sym, ap, ◌∙◌}
use mathlib.Core.Logic.{◌≢◌, ◌↔◌}
use mathlib.Core.List.{List}
use native.Mathlib.Omega.{arith}
use borrow.Author.Tests.{ltb-true, lt-ltb, le-ltb, ltb-false, leb-true, le-leb, eqb-true, eq-eqb, ne_eqb, eqb-false, not-true, not-false}
use lib.Dec.{ltb, eqb}
use Rattle.indices.specs.Columns.{at}
use Rattle.indices.specs.Tests.{all, any}
use Rattle.indices.proofs.Steps.{by_truth}
use Rattle.indices.proofs.Tests.{and_left, and_right, and_both, or_then, or_if, any_at, any_false, all_at, all_true}
use Rattle.sheet.specs.Limits.{most_length, most_spans}
use Rattle.sheet.specs.Words.{top}
use Rattle.procedure.specs.Graph.{Graph, arcs, tail, head, len}
use Rattle.procedure.specs.Routes.{Route, chain_to, followed, reached}
use Rattle.procedure.specs.Table.{inner_place, counts_length}
use Rattle.theory_shortest.specs.WellFormed.{GraphOk}
use Rattle.theory_shortest.specs.TableTest.{leads_back, source_test, unfed_test, led_test}
use Rattle.theory_shortest.proofs.Routes.{route_last, followed_back}
use Rattle.theory_shortest.proofs.Depth.{Depth, depth_below, depth_route, followed_depth}
use Rattle.theory_shortest.proofs.LeadsBack.{depth_leads, leads_depth}
use Rattle.theory_shortest.proofs.TableTest.{source_test_lem, unfed_test_lem, fed_test_lem, relaxed_test_lem, led_test_lem}
use Rattle.theory_shortest.proofs.TightTree.{FedBy}
use Rattle.calls.specs.Tables.{status_in, count_in}
use Rattle.calls.specs.LongTables.{has_key}
use Rattle.calls.specs.Possible.{table_labels, table_predecessors, Possible, feeder_test, bound_test, keyless_test, done_test, sound_test}
use Rattle.calls.specs.Possible.{counts_test, status_test, possible?}
use Rattle.calls.proofs.Tables.{labels_at}

-- v's predecessor is an arc that leads to it from a reached node, and v's label is not below its feeder's plus that arc's length
abbrev pub Allowed : Graph → List ℕ → List ℕ → ℕ → Type 0
Allowed = FedBy (λ sum label. sum ≤ label)

-- WHAT EACH TEST SAYS
module _ (g : Graph) (labels predecessors : List ℕ) where
  pub feeder_test_lem : (v : ℕ) → (feeder_test g labels predecessors v ≡ true) ↔ (at labels v ≢ top → v ≢ g.source → Allowed g labels predecessors v)
  feeder_test_lem = fed_test_lem g labels predecessors (λ m n. (leb-true m n, le-leb m n))

  pub bound_test_lem : (v : ℕ) → (bound_test g labels predecessors v ≡ true) ↔ (at labels v ≢ top → at labels v ≤ most_length * (reached g labels - 1))
  unfolding bound_test
  bound_test_lem v = (
    λ t r. leb-true _ _ (or_then (eqb (at labels v) top) _ t (ne_eqb (at labels v) top r)),
    λ p. or_if (eqb (at labels v) top) _ (λ r. le-leb _ _ (p (eqb-false _ top r))),
  )

  module _ (keyed : ℕ → Bool) where
    pub keyless_test_lem : (a : ℕ) → (keyless_test g labels predecessors keyed a ≡ true) ↔ (at labels (tail g a) ≡ top → keyed a ≡ false)
    unfolding keyless_test
    keyless_test_lem a = (
      λ t e. not-true _ (or_then (not (eqb (at labels (tail g a)) top)) _ t (ap not (eq-eqb (at labels (tail g a)) top e))),
      λ p. or_if (not (eqb (at labels (tail g a)) top)) _ (λ e. ap not (p (eqb-true _ _ (not-false _ e)))),
    )

    pub done_test_lem : (a : ℕ) → (done_test g labels predecessors keyed a ≡ true)
        ↔ (keyed a ≡ false → at labels (tail g a) ≢ top → at labels (head g a) ≤ at labels (tail g a) + len g a)
    unfolding done_test
    done_test_lem a = (
      λ t none. (relaxed_test_lem g labels predecessors a).0 (or_then (keyed a) _ t none),
      λ p. or_if (keyed a) _ (λ none. (relaxed_test_lem g labels predecessors a).1 (p none)),
    )

-- the sentences of the tests on labels, predecessors and keys
record Tested (g : Graph) (labels predecessors : List ℕ) (keyed : ℕ → Bool) : Type 0 where
  of_source : (at labels g.source ≡ 0) × (at predecessors g.source ≡ top)
  of_feeder : (v : ℕ) → v < g.nodes → at labels v ≢ top → v ≢ g.source → Allowed g labels predecessors v
  of_led : (v : ℕ) → v < g.nodes → at labels v ≢ top → leads_back g predecessors (pred g.nodes) v ≡ true
  of_unfed : (v : ℕ) → v < g.nodes → at labels v ≡ top → at predecessors v ≡ top
  of_keyless : (a : ℕ) → a < arcs g → at labels (tail g a) ≡ top → keyed a ≡ false
  of_done : (a : ℕ) → a < arcs g → keyed a ≡ false → at labels (tail g a) ≢ top → at labels (head g a) ≤ at labels (tail g a) + len g a
  of_bound : (v : ℕ) → v < g.nodes → at labels v ≢ top → at labels v ≤ most_length * (reached g labels - 1)

module _ (g : Graph) (labels predecessors : List ℕ) (keyed : ℕ → Bool) where
  apart : sound_test g labels predecessors keyed ≡ true → Tested g labels predecessors keyed
  unfolding sound_test
  apart t =
      let n = g.nodes in
      let m = arcs g in
      let source = source_test g labels predecessors in
      let feeders = all (feeder_test g labels predecessors) n in
      let unfeds = all (unfed_test g labels predecessors) n in
      let dones = all (done_test g labels predecessors keyed) m in
      let chained = source && (feeders && all (led_test g labels predecessors) n) in
      let unreached = unfeds && all (keyless_test g labels predecessors keyed) m in
      let first = and_left chained _ t in
      let second = and_left unreached _ (and_right chained _ t) in
      let third = and_right unreached _ (and_right chained _ t) in
      record {
        of_source = (source_test_lem g labels predecessors).0 (and_left source _ first);
        of_feeder = λ v l. (feeder_test_lem g labels predecessors v).0 (all_at _ n v (and_left feeders _ (and_right source _ first)) l);
        of_led = λ v l. (led_test_lem g labels predecessors v).0 (all_at _ n v (and_right feeders _ (and_right source _ first)) l);
        of_unfed = λ v l. (unfed_test_lem g labels predecessors v).0 (all_at _ n v (and_left unfeds _ second) l);
        of_keyless = λ a la. (keyless_test_lem g labels predecessors keyed a).0 (all_at _ m a (and_right unfeds _ second) la);
        of_done = λ a la. (done_test_lem g labels predecessors keyed a).0 (all_at _ m a (and_left dones _ third) la);
        of_bound = λ v l. (bound_test_lem g labels predecessors v).0 (all_at _ n v (and_right dones _ third) l);
      }

  together : Tested g labels predecessors keyed → sound_test g labels predecessors keyed ≡ true
  unfolding sound_test
  together t =
      let n = g.nodes in
      let m = arcs g in
      let source = (source_test_lem g labels predecessors).1 t.of_source in
      let feeders = all_true _ n (λ v l. (feeder_test_lem g labels predecessors v).1 (t.of_feeder v l)) in
      let led = all_true _ n (λ v l. (led_test_lem g labels predecessors v).1 (t.of_led v l)) in
      let unfed = all_true _ n (λ v l. (unfed_test_lem g labels predecessors v).1 (t.of_unfed v l)) in
      let keyless = all_true _ m (λ a la. (keyless_test_lem g labels predecessors keyed a).1 (t.of_keyless a la)) in
      let done = all_true _ m (λ a la. (done_test_lem g labels predecessors keyed a).1 (t.of_done a la)) in
      let bounded = all_true _ n (λ v l. (bound_test_lem g labels predecessors v).1 (t.of_bound v l)) in
      and_both _ _ (and_both _ _ source (and_both _ _ feeders led)) (and_both _ _ (and_both _ _ unfed keyless) (and_both _ _ done bounded))

-- FEEDERS AND CHAINS
-- the last arc of a chain is its node's predecessor, an arc that leads to it
pub chain_last : (g : Graph) (predecessors : List ℕ) (v : ℕ) → v < g.nodes → v ≢ g.source → Route g g.source (chain_to g predecessors v) v
    → (at predecessors v < arcs g) × (head g (at predecessors v) ≡ v)
chain_last g predecessors v l n r =
    let m = pred g.nodes in
    let size : g.nodes ≡ suc m = omega arith in
    let a = at predecessors v in
    let split = ap (λ (k : ℕ). followed g predecessors k v) size ∙ followed_back g predecessors m v n in
    let q = route_last g g.source (followed g predecessors m (tail g a)) a v (rw split at r) in
    (q.1, q.2)

module _ {most : ℕ} {g : Graph} (ok : GraphOk most g) (labels predecessors : List ℕ)
    (fed : (v : ℕ) → v < g.nodes → at labels v ≢ top → v ≢ g.source → Allowed g labels predecessors v) where
  -- a reached node
  abbrev Reached : ℕ → Type 0
  Reached v = (v < g.nodes) × (at labels v ≢ top)

  feeder_of : (v : ℕ) → Reached v → v ≢ g.source → Reached (tail g (at predecessors v))
  feeder_of v h n = let f = fed v h.0 h.1 n in (ok.tail_in_lem (at predecessors v) f.is_arc_lem, f.from_reached)

  -- a depth is a route
  pub depth_chain : {v d : ℕ} → Depth g predecessors v d → Reached v → Route g g.source (chain_to g predecessors v) v
  depth_chain q h =
      depth_route g predecessors Reached (λ u h n. let f = fed u h.0 h.1 n in (f.is_arc_lem, f.to_node, feeder_of u h n))
      g.nodes q (omega (arith, depth_below g predecessors q)) h

  -- and so many steps back that lead to the source are a depth
  leads_chain : (v : ℕ) → Reached v → leads_back g predecessors (pred g.nodes) v ≡ true → Route g g.source (chain_to g predecessors v) v
  leads_chain v h t = depth_chain (leads_depth g predecessors Reached (λ u h. h.0) feeder_of (pred g.nodes) v h t).1 h

-- COUNTS AND STATUS
module _ (spans : ℕ) (table : List ℕ) where
  pub counts_test_lem : (counts_test spans table ≡ true)
      ↔ (((i : ℕ) → i < counts_length → count_in table i < 2 ^ 55) × ((i : ℕ) → spans ≤ i → i < most_spans → count_in table (inner_place + i) ≡ 0))
  unfolding counts_test
  counts_test_lem =
      let small = all (λ i. ltb (count_in table i) (2 ^ 55)) counts_length in (
        λ t. (
          λ i l. ltb-true _ _ (all_at _ counts_length i (and_left small _ t) l),
          λ i none l. eqb-true _ _ (or_then (ltb i spans) _ (all_at _ most_spans i (and_right small _ t) l) (le-ltb i spans none)),
        ),
        λ p. and_both _ _ (all_true _ counts_length (λ i l. lt-ltb _ _ (p.0 i l)))
            (all_true _ most_spans (λ i l. or_if (ltb i spans) _ (λ none. eq-eqb _ _ (p.1 i (ltb-false i spans none) l)))),
      )

module _ (g : Graph) (table : List ℕ) where
  -- "nothing has a key"
  abbrev Keyless : Type 0
  Keyless = (a : ℕ) → a < arcs g → has_key g table a ≡ false

  pub status_said : status_test g table ≡ true → (status_in table ≡ 1) ↔ Keyless
  unfolding status_test
  status_said t =
      by_truth (any (has_key g table) (arcs g))
      (λ some.
      let paused : status_in table ≡ 0 = eqb-true (status_in table) 0 (rw some at t) in
      (λ one. absurd (omega arith), λ none. absurd (true≢false (sym some ∙ any_false _ (arcs g) none))))
      (λ none. (λ _ a la. any_at _ (arcs g) a none la, λ _. eqb-true (status_in table) 1 (rw none at t)))

  -- of a status that is 0 or 1
  pub status_passes : status_in table ≤ 1 → (status_in table ≡ 1) ↔ Keyless → status_test g table ≡ true
  unfolding status_test
  status_passes low p =
      by_truth (any (has_key g table) (arcs g))
      (λ some.
      let other : status_in table ≢ 1 = λ one. true≢false (sym some ∙ any_false _ (arcs g) (p.0 one)) in
      rw some (eq-eqb (status_in table) 0 (omega arith)))
      (λ none. rw none (eq-eqb (status_in table) 1 (p.1 (λ a la. any_at _ (arcs g) a none la))))

-- a table's label is no higher than 'unreached'
pub label_capped : (g : Graph) (table : List ℕ) (v : ℕ) → v < g.nodes → at (table_labels g table) v ≤ top
unfolding top
label_capped g table v l = omega (arith, labels_at g.nodes table v l)

-- of a possible table, each reached node but the source has such a predecessor
pub possible_allowed : {g : Graph} {spans : ℕ} {table : List ℕ} → Possible g spans table → (v : ℕ) → v < g.nodes → at (table_labels g table) v ≢ top
    → v ≢ g.source → Allowed g (table_labels g table) (table_predecessors g table) v
possible_allowed {g} {table = table} p v l r n =
    let q = chain_last g (table_predecessors g table) v l n (p.chain v l r) in
    record { is_arc_lem = q.0; to_node = q.1; from_reached = p.feeder_reached v l r n; allows = p.feeder v l r n }

-- THE WHOLE TEST, of a graph as a sheet has it
module _ {most : ℕ} {g : Graph} (ok : GraphOk most g) (spans : ℕ) (table : List ℕ) where
  abbrev L : List ℕ
  L = table_labels g table

  abbrev P : List ℕ
  P = table_predecessors g table

  -- The test passes: the table is possible.
  pub test_possible : possible? g spans table ≡ true → Possible g spans table
  unfolding possible?
  test_possible t =
      let tested = apart g L P (has_key g table) (and_left (sound_test g L P (has_key g table)) _ t) in
      let rest = and_right (sound_test g L P (has_key g table)) _ t in
      let counted = (counts_test_lem spans table).0 (and_left (counts_test spans table) _ rest) in
      record {
        source_label = tested.of_source.0;
        source_unfed = tested.of_source.1;
        chain = λ v l r. leads_chain ok L P tested.of_feeder v (l, r) (tested.of_led v l r);
        feeder_reached = λ v l r n. (tested.of_feeder v l r n).from_reached;
        feeder = λ v l r n. (tested.of_feeder v l r n).allows;
        unfed = tested.of_unfed;
        keyless = tested.of_keyless;
        relaxed = tested.of_done;
        bounded = tested.of_bound;
        counts = counted.0;
        unused = counted.1;
        status = status_said g table (and_right (counts_test spans table) _ rest);
      }

  -- The table is possible, and its status is 0 or 1 (any other is 32): the test passes.
  pub possible_test : status_in table ≤ 1 → Possible g spans table → possible? g spans table ≡ true
  unfolding possible?
  possible_test low p =
      and_both _ _
      (together g L P (has_key g table) (record {
        of_source = (p.source_label, p.source_unfed);
        of_feeder = possible_allowed p;
        of_led = λ v l r.
            let q = followed_depth ok P g.nodes v l (p.chain v l r) in
            depth_leads g P (pred g.nodes) q.1 (omega (arith, depth_below g P q.1));
        of_unfed = p.unfed;
        of_keyless = p.keyless;
        of_done = p.relaxed;
        of_bound = p.bounded;
      }))
      (and_both _ _ ((counts_test_lem spans table).1 (p.counts, p.unused)) (status_passes g table low p.status))
