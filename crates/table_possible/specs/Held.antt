-- The tests of a possible state at an arc, and of its labels against the bound, for the graph of a sheet. Definitions.
use Rattle.std.specs.Prelude.{ℕ, Bool, ◌&&◌, ◌||◌, List, ltb, leb, eqb}
use Rattle.sheet.specs.Words.{top}
use Rattle.procedure.specs.OfSheet.{graph_of}
use Rattle.calls.specs.Tables.{label_in}
use Rattle.calls.specs.LongTables.{has_key}
use Rattle.calls.specs.Possible.{bound_test, keyless_test, done_test}
use Rattle.table.specs.Fits.{labels, predecessors}

module _ (b table : List ℕ) where
  -- both tests of arc a
  abbrev pub arc_held : ℕ → Bool
  arc_held a =
      keyless_test (graph_of b) (labels b table) (predecessors b table) (has_key (graph_of b) table) a
      && done_test (graph_of b) (labels b table) (predecessors b table) (has_key (graph_of b) table) a

  abbrev pub label_bounded : ℕ → Bool
  label_bounded v = bound_test (graph_of b) (labels b table) (predecessors b table) v

-- node v is reached
abbrev pub reached_in : List ℕ → ℕ → Bool
reached_in table v = ltb (label_in table v) top

-- node v is unreached, or its label is no higher
abbrev pub within : List ℕ → ℕ → ℕ → Bool
within table highest v = eqb (label_in table v) top || leb (label_in table v) highest
