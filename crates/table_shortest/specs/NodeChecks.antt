-- The tests of a table at a node, for the graph of a sheet. Definitions.
use Rattle.std.specs.Prelude.{ℕ, ◌+◌, Bool, not, ◌&&◌, List, leb, eqb}
use Rattle.indices.specs.Columns.{at}
use Rattle.sheet.specs.Words.{top}
use Rattle.procedure.specs.Graph.{tail, head, len}
use Rattle.procedure.specs.OfSheet.{graph_of}
use Rattle.theory_shortest.specs.TableTest.{unfed_test, fed_by}
use Rattle.table_shortest.specs.declared.nodes.Allowed.{Allowed}
use Rattle.table_shortest.specs.declared.nodes.Allowed.TheVariants.{Exactly, NotBelow}
use Rattle.table.specs.Fits.{labels, predecessors}

-- a label against the sum of its feeder's label and the length: for 24 it is exactly that, for 33 it is not below
abbrev pub allowed : Allowed → ℕ → ℕ → Bool
allowed Exactly = eqb
allowed NotBelow = leb

module _ (b table : List ℕ) (how : Allowed) where
  -- arc a leads to v from a reached node, and v's label allows for that arc
  abbrev pub feeds : ℕ → ℕ → Bool
  feeds a v =
      let u = tail (graph_of b) a in
      let allows = allowed how (at (labels b table) u + len (graph_of b) a) (at (labels b table) v) in
      eqb (head (graph_of b) a) v && (not (eqb (at (labels b table) u) top) && allows)

  -- both tests of node v
  abbrev pub node_fits : ℕ → Bool
  node_fits v =
      unfed_test (graph_of b) (labels b table) (predecessors b table) v && fed_by (graph_of b) (labels b table) (predecessors b table) (allowed how) v
