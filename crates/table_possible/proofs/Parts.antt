-- The test of labels, predecessors and keys, part by part: it passes where all parts do.
use Prim.Native.Nat.{ℕ}
use mathlib.Core.Bool.{Bool, true, false, ◌&&◌}
use mathlib.Core.Path.{◌≡◌, refl, ap, ◌∙◌}
use mathlib.Core.List.{List}
use Rattle.indices.specs.Tests.{all}
use Rattle.sheet.specs.Sections.{node_count, arc_count}
use Rattle.procedure.specs.Graph.{arcs}
use Rattle.procedure.specs.OfSheet.{graph_of}
use Rattle.procedure.proofs.OfSheet.{graph_nodes, graph_arcs}
use Rattle.theory_shortest.specs.TableTest.{unfed_test}
use Rattle.calls.specs.Tables.{labels_in, predecessors_in}
use Rattle.calls.specs.LongTables.{has_key}
use Rattle.calls.specs.Possible.{table_labels, table_predecessors, feeder_test, keyless_test, done_test, sound_test}
use Rattle.table.specs.Fits.{labels, predecessors}
use Rattle.table_shortest.specs.declared.nodes.Allowed.TheVariants.{NotBelow}
use Rattle.table_shortest.specs.ArcChecks.{source_fits}
use Rattle.table_shortest.specs.NodeChecks.{node_fits}
use Rattle.table_shortest.specs.WalkChecks.{node_led}
use Rattle.table_shortest.proofs.Parts.{all_both}
use Rattle.table_possible.specs.Held.{arc_held, label_bounded}

-- source, nodes, that all lead back, arcs, and the bound
abbrev pub sound_parts : List ℕ → List ℕ → Bool
sound_parts b table =
    source_fits b table && (all (node_fits b table NotBelow) (node_count b)
    && (all (node_led b table) (node_count b) && (all (arc_held b table) (arc_count b) && all (label_bounded b table) (node_count b))))

regroup : (s f l u k d h : Bool) → (s && (f && l)) && ((u && k) && (d && h)) ≡ s && ((u && f) && (l && ((k && d) && h)))
regroup true true true true true d h = refl
regroup true true true true false d h = refl
regroup true true true false k d h = refl
regroup true true false true k d h = refl
regroup true true false false k d h = refl
regroup true false l true k d h = refl
regroup true false l false k d h = refl
regroup false f l u k d h = refl

module _ (b table : List ℕ) where
  pub sound_parts_lem : sound_test (graph_of b) (table_labels (graph_of b) table) (table_predecessors (graph_of b) table) (has_key (graph_of b) table) ≡
      sound_parts b table
  unfolding sound_test
  sound_parts_lem =
      let unfed = unfed_test (graph_of b) (labels b table) (predecessors b table) in
      let feeder = feeder_test (graph_of b) (labels b table) (predecessors b table) in
      let keyless = keyless_test (graph_of b) (labels b table) (predecessors b table) (has_key (graph_of b) table) in
      let done = done_test (graph_of b) (labels b table) (predecessors b table) (has_key (graph_of b) table) in
      let led = node_led b table in
      let bounded = label_bounded b table in
      let tests : ℕ → ℕ → Bool = λ n m.
      (source_fits b table && (all feeder n && all led n)) && ((all unfed n && all keyless m) && (all done m && all bounded n)) in
      ap (λ (n : ℕ). sound_test (graph_of b) (labels_in n table) (predecessors_in n table) (has_key (graph_of b) table)) (graph_nodes b)
      ∙ ap (λ (n : ℕ). tests n (arcs (graph_of b))) (graph_nodes b) ∙ ap (tests (node_count b)) (graph_arcs b)
      ∙ rw (all_both unfed feeder (node_count b), all_both keyless done (arc_count b))
      (regroup (source_fits b table) (all feeder (node_count b)) (all led (node_count b)) (all unfed (node_count b)) (all keyless (arc_count b))
      (all done (arc_count b)) (all bounded (node_count b)))
