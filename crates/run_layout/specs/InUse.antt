-- How much of a run's arrays a sheet uses. Definitions.
use Rattle.std.specs.Prelude.{ℕ, ◌≤◌, ◌≡◌, List}
use Rattle.sheet.specs.Limits.{most_nodes, most_arcs, most_spans}
use Rattle.sheet.specs.Sections.{node_count, arc_count, span_count, region_words}
use Rattle.sheet.specs.Regions.{region_count}
use Rattle.judgement.specs.Judgement.{Accepted}
use Rattle.run_arrays.specs.Sections.{most_regions}
use Rattle.run_layout.specs.declared.sizes.Sizes.{Sizes}

-- the sizes of a sheet, all within the limits
pub record InUse (b : List ℕ) (z : Sizes) : Type 0 where
  pub nodes_all : z.nodes ≡ node_count b
  pub arcs_all : z.arcs ≡ arc_count b
  pub spans_all : z.spans ≡ span_count b
  pub regions_all : z.regions ≡ region_count (region_words b)
  pub few_nodes : z.nodes ≤ most_nodes
  pub few_arcs : z.arcs ≤ most_arcs
  pub few_spans : z.spans ≤ most_spans
  pub few_regions : z.regions ≤ most_regions

-- an accepted sheet, whose sizes are known
pub record Outlined (b : List ℕ) (z : Sizes) : Type 0 where
  pub accepted : Accepted b
  pub in_use : InUse b z
