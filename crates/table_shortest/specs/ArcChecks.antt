-- The tests of a table at the source and at an arc, for the graph of a sheet. Definitions.
use Rattle.std.specs.Prelude.{ℕ, Bool, List}
use Rattle.procedure.specs.OfSheet.{graph_of}
use Rattle.theory_shortest.specs.TableTest.{source_test, relaxed_test}
use Rattle.table.specs.Fits.{labels, predecessors}

module _ (b table : List ℕ) where
  abbrev pub source_fits : Bool
  source_fits = source_test (graph_of b) (labels b table) (predecessors b table)

  abbrev pub arc_relaxed : ℕ → Bool
  arc_relaxed a = relaxed_test (graph_of b) (labels b table) (predecessors b table) a
