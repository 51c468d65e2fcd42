-- What is asked where the arcs of each node are counted. Definitions.
use Rattle.std.specs.Prelude.{ℕ, ◌≤◌, false, ◌≡◌, List}
use Rattle.sheet.specs.Limits.{most_nodes, most_arcs}
use Rattle.sheet.specs.Sections.{node_count, arc_count}
use Rattle.judgement.specs.Arcs.{ends_outside}

-- a sheet of few arcs and few nodes to which 8 does not apply
pub record Joined (b : List ℕ) : Type 0 where
  pub few_arcs : arc_count b ≤ most_arcs
  pub few_nodes : node_count b ≤ most_nodes
  pub ends_in : ends_outside b ≡ false
