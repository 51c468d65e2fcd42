-- The tests of a node, by the cases in which the code decides them.
use Prim.Native.Nat.{ℕ, ◌+◌, ◌≤◌, ◌<◌}
use native.Mathlib.Omega.{arith}
use mathlib.Core.Bool.{true, false, and-true}
use mathlib.Core.Path.{◌≡◌, sym, ◌∙◌}
use mathlib.Core.Logic.{◌≢◌}
use mathlib.Core.List.{List}
use lib.Dec.{eqb}
use borrow.Author.Tests.{eq-eqb, ne_eqb, lt-ltb, le-ltb}
use Rattle.indices.specs.Columns.{at}
use Rattle.sheet.specs.Words.{top}
use Rattle.sheet.specs.Sections.{node_count, source, arc_count}
use Rattle.sheet.specs.Arcs.{tail as tailField, head as headField, taken_length}
use Rattle.judgement.proofs.Accepted.{few_arcs, tail_in_lem, taken_short}
use Rattle.procedure.specs.Graph.{arcs, tail}
use Rattle.procedure.specs.OfSheet.{graph_of}
use Rattle.procedure.proofs.OfSheet.{graph_source, graph_arcs}
use Rattle.theory_shortest.specs.TableTest.{unfed_test, fed_by}
use Rattle.calls.specs.Tables.{label_in, predecessor_in}
use Rattle.table.specs.Fits.{TableFits, labels, predecessors}
use Rattle.table.proofs.read.Columns.{label_there, predecessor_there}
use Rattle.table.proofs.lent.AtArcs.{from_label, to_node, arc_length_lem}
use Rattle.table_shortest.specs.declared.nodes.Allowed.{Allowed}
use Rattle.table_shortest.specs.NodeChecks.{allowed, feeds, node_fits}

module _ {b table : List ℕ} (F : TableFits b table) (how : Allowed) where
  -- arc a from a node u with label x
  module _ {a u x : ℕ} (la : a < arc_count b) (eu : u ≡ tailField b a) (ex : x ≡ label_in table u) where
    module _ (reached : x ≢ top) {n : ℕ} (en : n ≡ taken_length b a) where
      -- to node v with label y
      pub feeds_compared : {w v y : ℕ} → v < node_count b → w ≡ headField b a → w ≡ v → y ≡ label_in table v → allowed how (x + n) y ≡ feeds b table how a v
      feeds_compared {v = v} l ew e ey =
          rw (← to_node F la ew, eq-eqb _ v e, ← from_label F la eu ex, ne_eqb x top reached, ← arc_length_lem F la en, ← label_there b table v l, ← ey)

    pub feeds_unreached : {w v : ℕ} → w ≡ headField b a → w ≡ v → x ≡ top → false ≡ feeds b table how a v
    feeds_unreached {v = v} ew e t =
        rw (← to_node F la ew, eq-eqb _ v e, eq-eqb (at (labels b table) (tail (graph_of b) a)) top (sym (from_label F la eu ex) ∙ t))

  pub feeds_elsewhere : {a w v : ℕ} → a < arc_count b → w ≡ headField b a → w ≢ v → false ≡ feeds b table how a v
  feeds_elsewhere {v = v} la ew n = rw (← to_node F la ew, ne_eqb _ v n)

  -- node v with label x and predecessor a
  module _ {v x a : ℕ} (l : v < node_count b) (ex : x ≡ label_in table v) (ea : a ≡ predecessor_in table v) where
    label : x ≡ at (labels b table) v
    label = ex ∙ label_there b table v l

    predecessor : a ≡ at (predecessors b table) v
    predecessor = ea ∙ predecessor_there b table v l

    pub fits_unreached : x ≡ top → eqb a top ≡ node_fits b table how v
    unfolding unfed_test fed_by
    fits_unreached e = rw (← predecessor, eq-eqb (at (labels b table) v) top (sym label ∙ e), and-true (eqb a top))

    -- h is the number read as the source's
    module _ (reached : x ≢ top) {h : ℕ} (eh : h ≡ source b) where
      pub fits_source : v ≡ h → true ≡ node_fits b table how v
      unfolding unfed_test fed_by
      fits_source e = rw (ne_eqb (at (labels b table) v) top (λ t. reached (label ∙ t)), eq-eqb v (graph_of b).source (e ∙ eh ∙ sym (graph_source b)))

      module _ (other : v ≢ h) where
        pub fits_no_arc : arc_count b ≤ a → false ≡ node_fits b table how v
        unfolding unfed_test fed_by
        fits_no_arc m = rw (
          ne_eqb (at (labels b table) v) top (λ t. reached (label ∙ t)),
          ne_eqb v (graph_of b).source (λ q. other (q ∙ graph_source b ∙ sym eh)),
          ← predecessor,
          le-ltb a (arcs (graph_of b)) (omega (arith, graph_arcs b)),
        )

        pub fits_arc : a < arc_count b → feeds b table how a v ≡ node_fits b table how v
        unfolding unfed_test fed_by
        fits_arc m = rw (
          ne_eqb (at (labels b table) v) top (λ t. reached (label ∙ t)),
          ne_eqb v (graph_of b).source (λ q. other (q ∙ graph_source b ∙ sym eh)),
          ← predecessor,
          lt-ltb a (arcs (graph_of b)) (omega (arith, graph_arcs b)),
        )

-- an arc that is tried for a node, and a node
pub ruleset feeder_steps = (tail_in_lem, taken_short, feeds_elsewhere, feeds_unreached, feeds_compared)

pub ruleset node_steps = (few_arcs, fits_unreached, fits_source, fits_no_arc, fits_arc)
