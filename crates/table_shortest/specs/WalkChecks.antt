-- The test that a node of a table leads back, for the graph of a sheet. Definitions.
use Rattle.std.specs.Prelude.{ℕ, Bool, List}
use Rattle.procedure.specs.OfSheet.{graph_of}
use Rattle.theory_shortest.specs.TableTest.{led_test}
use Rattle.table.specs.Fits.{labels, predecessors}

module _ (b table : List ℕ) where
  abbrev pub node_led : ℕ → Bool
  node_led v = led_test (graph_of b) (labels b table) (predecessors b table) v
