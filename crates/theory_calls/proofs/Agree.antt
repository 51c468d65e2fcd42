-- All divisions agree: two accepted sheets with the same nodes, source and arcs have the same distances, and the same nodes unreached, in every two tables of
-- theirs that are shortest, as all are that runs leave as ended.
use Prim.Native.Nat.{ℕ, ◌<◌}
use mathlib.Core.Path.{◌≡◌, sym, ap, subst, ◌∙◌}
use mathlib.Core.List.{List}
use Rattle.indices.specs.Columns.{at}
use Rattle.sheet.specs.Sections.{node_count}
use Rattle.judgement.specs.Judgement.{Accepted}
use Rattle.procedure.specs.Graph.{Graph}
use Rattle.procedure.specs.Routes.{Shortest}
use Rattle.procedure.proofs.OfSheet.{graph_nodes}
use Rattle.theory_shortest.proofs.Agree.{same_columns}
use Rattle.theory_shortest.proofs.Travel.{for_sheet}
use Rattle.calls.specs.Tables.{label_in, labels_in, predecessors_in}
use Rattle.calls.specs.Routes.{ShortestTable}
use Rattle.calls.specs.Halls.{hall_words}
use Rattle.calls.specs.Correct.{SameDistances}
use Rattle.calls.proofs.Tables.{labels_length, labels_at}
use Rattle.theory_calls.proofs.Halls.{same_nodes, same_graph}

module _ (b b' : List ℕ) (ok : Accepted b) (ok' : Accepted b') (same : hall_words b ≡ hall_words b') (table table' : List ℕ)
    (shortest : ShortestTable b table) (shortest' : ShortestTable b' table') where
  nodes : node_count b ≡ node_count b'
  nodes = same_nodes b b' ok ok' same

  pub same_distances : labels_in (node_count b) table ≡ labels_in (node_count b') table'
  same_distances =
      same_columns ((for_sheet b).1 shortest)
      (subst (λ (g : Graph). Shortest g (labels_in (node_count b') table') (predecessors_in (node_count b') table')) (sym (same_graph b b' ok ok' same))
      ((for_sheet b').1 shortest'))
      (labels_length (node_count b) table ∙ sym (graph_nodes b))
      (labels_length (node_count b') table' ∙ sym nodes ∙ sym (graph_nodes b))

  -- node by node
  same_distance : (v : ℕ) → v < node_count b → label_in table v ≡ label_in table' v
  same_distance v l =
      sym (labels_at (node_count b) table v l)
      ∙ ap (λ (column : List ℕ). at column v) same_distances
      ∙ labels_at (node_count b') table' v (rw (sym nodes) l)

  pub shortest_agree : SameDistances b table b' table'
  shortest_agree = record {
    nodes = nodes;
    distances = same_distance;
    unreached = λ v l. (λ u. sym (same_distance v l) ∙ u, λ u. same_distance v l ∙ u);
  }
