-- Stamps: a number at each node that a walk back along predecessors has passed. Definitions.
use Rattle.std.specs.Prelude.{ℕ, pred, ◌+◌, ◌≤◌, ◌<◌, Bool, true, ◌≡◌, ◌≢◌, List, length}
use Rattle.indices.specs.Columns.{at}
use Rattle.sheet.specs.Words.{top}
use Rattle.sheet.specs.Sections.{node_count, source}
use Rattle.procedure.specs.Graph.{arcs}
use Rattle.procedure.specs.OfSheet.{graph_of}
use Rattle.theory_shortest.specs.TableTest.{leads_back}
use Rattle.table.specs.Fits.{labels, predecessors, node_before}
use Rattle.sheet.specs.Limits.{node_numbers}

-- v's predecessor is an arc, and leads from a reached node
pub record Onward (b table : List ℕ) (v : ℕ) : Type 0 where
  pub is_arc_lem : at (predecessors b table) v < arcs (graph_of b)
  pub from_reached : at (labels b table) (node_before b table v) ≢ top

-- predecessors that can be followed back: every node but the source that is reached has one, from a reached node
pub record Followable (b table : List ℕ) : Type 0 where
  pub onward : (v : ℕ) → v < node_count b → at (labels b table) v ≢ top → v ≢ source b → Onward b table v

-- v leads back to the source
abbrev pub leads : List ℕ → List ℕ → ℕ → Bool
leads b table v = leads_back (graph_of b) (predecessors b table) (pred (node_count b)) v

-- The stamps after the walks from the nodes below v: 1 at the source, w + 2 at the nodes that the walk from w was the first to pass, 0 at the others.
-- Every stamped node leads back to the source.
pub record Stamped (b table stamps : List ℕ) (v : ℕ) : Type 0 where
  pub long : length stamps ≡ node_numbers
  pub home : at stamps (source b) ≡ 1
  pub low : (w : ℕ) → w < node_count b → at stamps w ≤ v + 1
  pub led : (w : ℕ) → w < node_count b → at stamps w ≢ 0 → leads b table w ≡ true

-- a node from which a walk is to go, with the stamps of the walks from the nodes below it
pub record Walkable (b table stamps : List ℕ) (v : ℕ) : Type 0 where
  pub followable : Followable b table
  pub inside : v < node_count b
  pub stamped : Stamped b table stamps v
