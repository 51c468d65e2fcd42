-- What the code reads at a node or an arc is what the columns of the sheet's graph and of the table have there.
use Prim.Native.Nat.{ℕ, ◌<◌}
use mathlib.Core.Path.{◌≡◌, sym, ap, ◌∙◌}
use mathlib.Core.List.{List}
use Rattle.indices.specs.Columns.{at}
use Rattle.sheet.specs.Sections.{node_count, arc_count}
use Rattle.sheet.specs.Arcs.{tail as tailField}
use Rattle.judgement.proofs.Accepted.{front_there, few_nodes}
use Rattle.procedure.specs.Graph.{tail}
use Rattle.procedure.specs.OfSheet.{graph_of}
use Rattle.procedure.proofs.OfSheet.{graph_nodes, graph_tail}
use Rattle.calls.specs.Tables.{label_in, predecessor_in}
use Rattle.calls.proofs.Tables.{labels_at, predecessors_at_lem}
use Rattle.table.specs.Fits.{labels, predecessors, node_before}

module _ (b table : List ℕ) (v : ℕ) (l : v < node_count b) where
  pub label_there : label_in table v ≡ at (labels b table) v
  label_there = sym (labels_at (node_count b) table v l)

  pub predecessor_there : predecessor_in table v ≡ at (predecessors b table) v
  predecessor_there = sym (predecessors_at_lem (node_count b) table v l)

  -- the tail of the predecessor
  pub before_tail : predecessor_in table v < arc_count b → tailField b (predecessor_in table v) ≡ node_before b table v
  before_tail la = sym (graph_tail b (predecessor_in table v) la) ∙ ap (tail (graph_of b)) predecessor_there

-- the key word of an arc, behind those of the nodes of an accepted sheet
pub ruleset key_steps = (front_there, few_nodes, graph_nodes)
