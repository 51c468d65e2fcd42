-- The graph of the converted sheet is the old one without its self-arcs.
use Prim.Native.Nat.{ℕ, ◌<◌}
use mathlib.Core.Bool.{true}
use mathlib.Core.List.{List, [], ◌∷◌}
use mathlib.Core.Path.{◌≡◌, sym, ap, ◌∙◌}
use Rattle.indices.specs.Columns.{column, selected}
use Rattle.indices.proofs.Selected.{selected_ext, selected_column}
use Rattle.sheet.specs.Sections.{arc_count}
use Rattle.sheet.specs.Arcs.{tail, head, taken_length}
use Rattle.judgement.specs.Arcs.{self_arc}
use Rattle.judgement.specs.Judgement.{Convertible}
use Rattle.procedure.specs.Graph.{arcs, tail as tail_in, head as headIn, len}
use Rattle.procedure.specs.OfSheet.{graph_of}
use Rattle.procedure.proofs.OfSheet.{graph_arcs, graph_tail, graph_head, graph_len}
use Rattle.conversion.specs.Converted.{kept_arc, new_arc, converted}
use Rattle.conversion.specs.Graph.{leads_on, without_self_arcs}
use Rattle.conversion.proofs.Sections as sections

module _ (b : List ℕ) (ok : Convertible b) where
  abbrev b' : List ℕ
  b' = converted b

  -- an arc is kept in the sheet just where it is in the graph
  same_test : (a : ℕ) → a < arc_count b → kept_arc b a ≡ leads_on (graph_of b) a
  unfolding self_arc
  same_test a l = rw (graph_tail b a l, graph_head b a l)

  -- a column over the arcs that are kept
  same_column : (f f' g : ℕ → ℕ) → ((a : ℕ) → a < arc_count b → kept_arc b a ≡ true → f' (new_arc b a) ≡ f a) → ((a : ℕ) → a < arc_count b → g a ≡ f a)
      → column (arc_count b') f' ≡ selected (leads_on (graph_of b)) (λ a. g a ∷ []) (arcs (graph_of b))
  unfolding new_arc
  same_column f f' g new old =
      rw (graph_arcs b, sections.new_arcs b ok)
      (selected_column (kept_arc b) f (arc_count b) f' new
      ∙ selected_ext (kept_arc b) (leads_on (graph_of b)) (λ a. f a ∷ []) (λ a. g a ∷ []) (arc_count b) same_test
      (λ a l. ap (λ (x : ℕ). x ∷ []) (sym (old a l))))

  pub graph_without : graph_of (converted b) ≡ without_self_arcs (graph_of b)
  unfolding graph_of without_self_arcs
  graph_without =
      cc (
        sections.new_nodes b ok,
        sections.new_source b ok,
        same_column (tail b) (tail b') (tail_in (graph_of b)) (sections.new_tail b ok) (graph_tail b),
        same_column (head b) (head b') (headIn (graph_of b)) (sections.new_head b ok) (graph_head b),
        same_column (taken_length b) (taken_length b') (len (graph_of b)) (sections.new_taken b ok) (graph_len b),
      )
