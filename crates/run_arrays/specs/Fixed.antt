-- What a run only reads, and the graph, division and spans that it represents. Definitions.
use Rattle.std.specs.Prelude.{ℕ, ◌≤◌, ◌<◌, true, false, ◌≡◌, List, length}
use Rattle.indices.specs.Columns.{at}
use Rattle.sheet.specs.Limits.{most_arcs_each_way, most_spans}
use Rattle.procedure.specs.Graph.{Graph, arcs, tail, head, len}
use Rattle.procedure.specs.Division.{Division, regions, arc_of, is_leaf, leaf_of, height}
use Rattle.theory_shortest.specs.WellFormed.{WellFormed}
use Rattle.run_arrays.specs.Rows.{row_tail, row_head, row_leaf, row_next}
use Rattle.run_arrays.specs.Links.{Links}
use Rattle.run_arrays.specs.Sections.{most_regions}
use Rattle.run_arrays.specs.declared.arrays.Layout.{Layout}

-- An arc's row: tail, head, leaf, and the next arc with the same tail.
pub record ArcRows (g : Graph) (d : Division) (rows : List ℕ) : Type 0 where
  pub tails : (a : ℕ) → a < arcs g → row_tail rows a ≡ tail g a
  pub heads : (a : ℕ) → a < arcs g → row_head rows a ≡ head g a
  pub leaves : (a : ℕ) → a < arcs g → row_leaf rows a ≡ leaf_of d a

-- The last entries of the arcs' rows and the first arcs link the arcs of each tail.
pub record ArcLinks (g : Graph) (rows firsts : List ℕ) : Type 0 where
  pub linked : Links (row_tail rows) (arcs g) g.nodes (at firsts) (row_next rows)

-- in place of an inner region's arc
abbrev pub no_arc : ℕ
no_arc = 65535

-- Each region's arc.
pub record RegionArcs (d : Division) (arcs : List ℕ) : Type 0 where
  pub leaf : (r : ℕ) → r < regions d → is_leaf d r ≡ true → at arcs r ≡ arc_of d r
  pub inner : (r : ℕ) → r < regions d → is_leaf d r ≡ false → at arcs r ≡ no_arc

-- Each region's height.
abbrev pub RegionHeights : Division → List ℕ → Type 0
RegionHeights d heights = (r : ℕ) → r < regions d → at heights r ≡ height d r

-- a region whose height has a span
pub record HasSpan (heights : List ℕ) (r : ℕ) : Type 0 where
  pub in_range : r < most_regions
  pub positive : 0 < at heights r
  pub few : at heights r ≤ most_spans

-- It represents a well-formed graph, division and spans. The rows of the queues are told by the queues' own record.
pub record FixedOk (g : Graph) (d : Division) (spans : List ℕ) (layout : Layout) : Type 0 where
  pub ok : WellFormed most_arcs_each_way g d spans
  pub arc_rows : ArcRows g d layout.arc_rows
  pub links : ArcLinks g layout.arc_rows layout.firsts
  pub arc_count_lem : layout.arcs ≡ arcs g
  pub region_arcs : RegionArcs d layout.region_arcs
  pub lengths : (a : ℕ) → a < arcs g → at layout.lengths a ≡ len g a
  pub heights : RegionHeights d layout.heights
  pub each_span : (h : ℕ) → h < length spans → at layout.spans h ≡ at spans h
