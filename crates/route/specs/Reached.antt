-- What the functions that follow predecessors ask of a node, in a table to which 24 does not apply. Definitions.
use Rattle.std.specs.Prelude.{ℕ, ◌≤◌, ◌<◌, false, ◌≡◌, ◌≢◌, List, length}
use Rattle.sheet.specs.Words.{top}
use Rattle.sheet.specs.Sections.{node_count}
use Rattle.calls.specs.Tables.{label_in}
use Rattle.calls.specs.Routes.{not_shortest, route_to}

-- a node that is reached
pub record Reached (b table : List ℕ) (v : ℕ) : Type 0 where
  pub inside : v < node_count b
  pub labelled : label_in table v ≢ top

-- a reached node, how many arcs its route has, and a buffer with room for them
pub record RouteLent (b table : List ℕ) (v arcs : ℕ) (buffer : List ℕ) : Type 0 where
  pub passed : not_shortest b table ≡ false
  pub reached : Reached b table v
  pub counted : arcs ≡ length (route_to b table v)
  pub room : arcs ≤ length buffer
