-- What the tests read at an arc and at the source: ends, labels, lengths and predecessors are as the columns have them.
use Prim.Native.Nat.{ℕ, ◌<◌}
use mathlib.Core.Path.{◌≡◌, sym, ap, ◌∙◌}
use mathlib.Core.List.{List}
use Rattle.indices.specs.Columns.{at}
use Rattle.sheet.specs.Sections.{source, node_count, arc_count}
use Rattle.sheet.specs.Arcs.{tail as tailField, head as headField, taken_length}
use Rattle.judgement.proofs.Accepted.{source_in, tail_in_lem, head_in}
use Rattle.procedure.specs.Graph.{tail, head, len}
use Rattle.procedure.specs.OfSheet.{graph_of}
use Rattle.procedure.proofs.OfSheet.{graph_source, graph_tail, graph_head, graph_len}
use Rattle.calls.specs.Tables.{label_in, predecessor_in}
use Rattle.table.specs.Fits.{TableFits, labels, predecessors}
use Rattle.table.proofs.read.Columns.{label_there, predecessor_there}

-- the label that is read at u is that of v, which is the node w of the graph
module _ (b table : List ℕ) {u v w x : ℕ} (inside : v < node_count b) (same : w ≡ v) (e : u ≡ v) where
  label_read : x ≡ label_in table u → x ≡ at (labels b table) w
  label_read h = h ∙ ap (label_in table) e ∙ label_there b table v inside ∙ ap (at (labels b table)) (sym same)

  predecessor_read : x ≡ predecessor_in table u → x ≡ at (predecessors b table) w
  predecessor_read h = h ∙ ap (predecessor_in table) e ∙ predecessor_there b table v inside ∙ ap (at (predecessors b table)) (sym same)

module _ {b table : List ℕ} (F : TableFits b table) where
  module _ {a : ℕ} (la : a < arc_count b) where
    -- the label of the tail, and of the head
    pub from_label : {u x : ℕ} → u ≡ tailField b a → x ≡ label_in table u → x ≡ at (labels b table) (tail (graph_of b) a)
    from_label e h = label_read b table (tail_in_lem b F.accepted a la) (graph_tail b a la) e h

    pub to_label : {u x : ℕ} → u ≡ headField b a → x ≡ label_in table u → x ≡ at (labels b table) (head (graph_of b) a)
    to_label e h = label_read b table (head_in b F.accepted a la) (graph_head b a la) e h

    pub to_node : {u : ℕ} → u ≡ headField b a → u ≡ head (graph_of b) a
    to_node e = e ∙ sym (graph_head b a la)

    pub arc_length_lem : {n : ℕ} → n ≡ taken_length b a → n ≡ len (graph_of b) a
    arc_length_lem e = e ∙ sym (graph_len b a la)

  -- the label and the predecessor of the source
  module _ {u x : ℕ} (e : u ≡ source b) where
    pub source_label : x ≡ label_in table u → x ≡ at (labels b table) (graph_of b).source
    source_label h = label_read b table (source_in b F.accepted) (graph_source b) e h

    pub source_predecessor : x ≡ predecessor_in table u → x ≡ at (predecessors b table) (graph_of b).source
    source_predecessor h = predecessor_read b table (source_in b F.accepted) (graph_source b) e h
