-- What is known of labels and predecessors where no leaf has a key. Definitions.
use Rattle.std.specs.Prelude.{ℕ, ◌+◌, ◌≤◌, ◌<◌, ◌≡◌, List}
use Rattle.indices.specs.Columns.{at}
use Rattle.sheet.specs.Words.{top}
use Rattle.procedure.specs.Graph.{Graph, arcs, tail, head, len}

-- Following predecessors back from v leads to the source, and each label on the way allows for the arc that feeds it.
pub data LeadsBack (g : Graph) (labels predecessors : List ℕ) : ℕ → Type 0 where
  home : {v : ℕ} → v ≡ g.source → LeadsBack g labels predecessors v
  back : {v : ℕ} (a : ℕ) → a < arcs g → at predecessors v ≡ a → head g a ≡ v → at labels (tail g a) + len g a ≤ at labels v
      → LeadsBack g labels predecessors (tail g a) → LeadsBack g labels predecessors v

-- Every arc from a reached node is relaxed, and every reached node is led back to the source.
pub record Settled (g : Graph) (labels predecessors : List ℕ) : Type 0 where
  pub source_label : at labels g.source ≡ 0
  pub source_unfed : at predecessors g.source ≡ top
  pub capped : (v : ℕ) → v < g.nodes → at labels v ≤ top
  pub led : (v : ℕ) → v < g.nodes → at labels v < top → LeadsBack g labels predecessors v
  pub unfed : (v : ℕ) → v < g.nodes → at labels v ≡ top → at predecessors v ≡ top
  pub relaxed : (a : ℕ) → a < arcs g → at labels (tail g a) < top → at labels (head g a) ≤ at labels (tail g a) + len g a
