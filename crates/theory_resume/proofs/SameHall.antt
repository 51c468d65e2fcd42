-- Sheets that differ in their spans alone have the same graph and division, so what stands for the one stands for the other, and facts of graph and division
-- go over.
use Prim.Native.Nat.{ℕ}
use mathlib.Core.Path.{◌≡◌, sym, ap, subst, ◌∙◌}
use mathlib.Core.List.{List}
use Rattle.indices.specs.Columns.{column}
use Rattle.sheet.specs.Sections.{span_count, arc_count}
use Rattle.sheet.specs.Regions.{region_count, parent, leaf_arc}
use Rattle.judgement.specs.Judgement.{Accepted}
use Rattle.procedure.specs.Graph.{Graph, arcs}
use Rattle.procedure.specs.Division.{Division, height}
use Rattle.procedure.specs.OfSheet.{graph_of, division_of}
use Rattle.procedure.proofs.OfSheet.{graph_arcs}
use Rattle.calls.specs.Tables.{is_long}
use Rattle.calls.specs.Routes.{wrong_keys, malformed}
use Rattle.calls.specs.Possible.{possible?}
use Rattle.calls.specs.Resume.{not_long}
use Rattle.calls.specs.InParts.{Standing, SameButSpans}
use Rattle.theory_calls.proofs.Halls.{same_nodes, same_graph}
use Rattle.theory_resume.proofs.Resumed.{spans_heights}

-- the division that region words give
abbrev division_by : List ℕ → Division
division_by words = record { parents = column (region_count words) (parent words); leaf_arcs = column (region_count words) (leaf_arc words) }

pub turned : {b b' : List ℕ} → SameButSpans b b' → SameButSpans b' b
turned same = record { hall = sym same.hall; division = sym same.division }

module _ (b b' : List ℕ) (ok : Accepted b) (ok' : Accepted b') (same : SameButSpans b b') where
  graphs : graph_of b ≡ graph_of b'
  graphs = same_graph b b' ok ok' same.hall

  divisions : division_of b ≡ division_of b'
  unfolding division_of
  divisions = ap division_by same.division

  -- a fact of graph and division
  pub moved : (P : Graph → Division → Type 0) → P (graph_of b) (division_of b) → P (graph_of b') (division_of b')
  moved P p = subst (λ (d : Division). P (graph_of b') d) divisions (subst (λ (g : Graph). P g (division_of b)) graphs p)

  arc_counts : arc_count b ≡ arc_count b'
  arc_counts = sym (graph_arcs b) ∙ ap (λ (g : Graph). arcs g) graphs ∙ graph_arcs b'

  -- as many spans, one for each height
  span_counts : span_count b ≡ span_count b'
  span_counts = spans_heights b ok ∙ ap (λ (d : Division). height d 0) divisions ∙ sym (spans_heights b' ok')

  same_form : (table : List ℕ) → not_long b table ≡ not_long b' table
  unfolding not_long malformed wrong_keys is_long
  same_form table = rw (same_nodes b b' ok ok' same.hall, arc_counts)

  same_test : (table : List ℕ) → possible? (graph_of b) (span_count b) table ≡ possible? (graph_of b') (span_count b') table
  same_test table =
      ap (λ (g : Graph). possible? g (span_count b) table) graphs ∙ ap (λ (spans : ℕ). possible? (graph_of b') spans table) span_counts

  pub same_standing : (table : List ℕ) → Standing b table → Standing b' table
  same_standing table S = record { accepted = ok'; formed = sym (same_form table) ∙ S.formed; possible = sym (same_test table) ∙ S.possible }
