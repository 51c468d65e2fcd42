-- What a run reads, laid out from an accepted sheet b. Definitions.
use Rattle.std.specs.Prelude.{ℕ, ◌<◌, ◌≡◌, List}
use Rattle.indices.specs.Columns.{at}
use Rattle.procedure.specs.Graph.{Graph}
use Rattle.procedure.specs.Division.{Division, regions, height}
use Rattle.procedure.specs.OfSheet.{graph_of, division_of, spans_of}
use Rattle.run_arrays.specs.Trees.{Planned}
use Rattle.run_arrays.specs.Fixed.{ArcRows, ArcLinks, FixedOk}
use Rattle.run_arrays.specs.declared.arrays.Layout.{Layout}

-- It represents the graph, the division and the spans of the sheet, and the trees of the queues are planned.
pub record Laid (b : List ℕ) (layout : Layout) : Type 0 where
  pub fixed_ok : FixedOk (graph_of b) (division_of b) (spans_of b) layout
  pub planned : Planned (division_of b) layout.rows

-- the rows represent the arcs, and link those of each tail
pub record ArcsLaid (g : Graph) (d : Division) (arcRows firsts : List ℕ) : Type 0 where
  pub arc_rows : ArcRows g d arcRows
  pub links : ArcLinks g arcRows firsts

-- each region's height
pub record HeightsLaid (d : Division) (heights : List ℕ) : Type 0 where
  pub each : (r : ℕ) → r < regions d → at heights r ≡ height d r
