-- When a longer table is held to be a possible state (request 2026-06): what the request lists, clause by clause, and the test that is computed. Definitions.
use Rattle.std.specs.Prelude.{ℕ, ◌+◌, ◌-◌, ◌*◌, ◌^◌, ◌≤◌, ◌<◌, Bool, false, not, ◌&&◌, ◌||◌, ◌≡◌, ◌↔◌, ◌≢◌, List, ltb, leb, eqb, if◌then◌else◌}
use Rattle.indices.specs.Columns.{at}
use Rattle.indices.specs.Tests.{all, any}
use Rattle.sheet.specs.Limits.{most_length, most_spans}
use Rattle.sheet.specs.Words.{top}
use Rattle.procedure.specs.Graph.{Graph, arcs, tail, head, len}
use Rattle.procedure.specs.Routes.{Route, chain_to, reached}
use Rattle.procedure.specs.Table.{inner_place, counts_length}
use Rattle.theory_shortest.specs.TableTest.{unreached, source_test, unfed_test, fed_by, relaxed_test, led_test}
use Rattle.calls.specs.Tables.{status_in, count_in, labels_in, predecessors_in}
use Rattle.calls.specs.LongTables.{has_key}

-- the labels and predecessors of a table for a graph's nodes
module _ (g : Graph) (table : List ℕ) where
  abbrev pub table_labels : List ℕ
  table_labels = labels_in g.nodes table

  abbrev pub table_predecessors : List ℕ
  table_predecessors = predecessors_in g.nodes table

-- "A table is held to be a possible state if", of a sheet with so many spans. An arc's length is the one that the graph of the sheet has: 2026-08's "test of a
-- possible state adds the same to an arc's length too".
pub record Possible (g : Graph) (spans : ℕ) (table : List ℕ) : Type 0 where
  -- "the source is at 0, unfed"
  pub source_label : at (table_labels g table) g.source ≡ 0
  pub source_unfed : at (table_predecessors g table) g.source ≡ top
  -- "other reached nodes are fed along chains from the source": the feeding arcs followed back are a route from the source, and each comes from a reached node
  pub chain : (v : ℕ) → v < g.nodes → at (table_labels g table) v ≢ top → Route g g.source (chain_to g (table_predecessors g table) v) v
  pub feeder_reached : (v : ℕ) → v < g.nodes → at (table_labels g table) v ≢ top → v ≢ g.source
      → at (table_labels g table) (tail g (at (table_predecessors g table) v)) ≢ top
  -- "none below its feeder's label plus length"
  pub feeder : (v : ℕ) → v < g.nodes → at (table_labels g table) v ≢ top → v ≢ g.source
      → at (table_labels g table) (tail g (at (table_predecessors g table) v)) + len g (at (table_predecessors g table) v) ≤ at (table_labels g table) v
  -- "unreached nodes are unfed and the arcs leaving them keyless"
  pub unfed : (v : ℕ) → v < g.nodes → at (table_labels g table) v ≡ top → at (table_predecessors g table) v ≡ top
  pub keyless : (a : ℕ) → a < arcs g → at (table_labels g table) (tail g a) ≡ top → has_key g table a ≡ false
  -- "a keyless arc from a reached node has its head's label at most its tail's plus its length"; 'unreached' is above every such sum, so such an arc leads to a
  -- reached node
  pub relaxed : (a : ℕ) → a < arcs g → has_key g table a ≡ false → at (table_labels g table) (tail g a) ≢ top
      → at (table_labels g table) (head g a) ≤ at (table_labels g table) (tail g a) + len g a
  -- "no reached node's label exceeds 262,143 × (reached nodes less one)"
  pub bounded : (v : ℕ) → v < g.nodes → at (table_labels g table) v ≢ top → at (table_labels g table) v ≤ most_length * (reached g (table_labels g table) - 1)
  -- "each count is below 2 to the power 55, and 0 at unused heights": those above the number of spans
  pub counts : (i : ℕ) → i < counts_length → count_in table i < 2 ^ 55
  pub unused : (i : ℕ) → spans ≤ i → i < most_spans → count_in table (inner_place + i) ≡ 0
  -- "status is ended exactly when nothing has a key"
  pub status : (status_in table ≡ 1) ↔ ((a : ℕ) → a < arcs g → has_key g table a ≡ false)

-- THE TEST, in the same order. crates/calls/proofs/Possible.antt shows that it passes just where the table is `Possible`.
module _ (g : Graph) (labels predecessors : List ℕ) where
  -- if v is reached and not the source, its predecessor is an arc that leads to it from a reached node, and its label is not below its feeder's label plus that
  -- arc's length
  abbrev pub feeder_test : ℕ → Bool
  feeder_test = fed_by g labels predecessors leb

  -- if v is reached, its label is at most 262,143 × (reached nodes less one)
  unfoldable pub bound_test : ℕ → Bool
  bound_test v = unreached g labels predecessors v || leb (at labels v) (most_length * (reached g labels - 1))

  module _ (keyed : ℕ → Bool) where
    -- if arc a leaves an unreached node, it has no key
    unfoldable pub keyless_test : ℕ → Bool
    keyless_test a = not (unreached g labels predecessors (tail g a)) || not (keyed a)

    -- if arc a has no key and leaves a reached node, its head's label is at most its tail's plus its length
    unfoldable pub done_test : ℕ → Bool
    done_test a = keyed a || relaxed_test g labels predecessors a

    unfoldable pub sound_test : Bool
    sound_test =
        (source_test g labels predecessors && (all feeder_test g.nodes && all (led_test g labels predecessors) g.nodes))
        && ((all (unfed_test g labels predecessors) g.nodes && all keyless_test (arcs g)) && (all done_test (arcs g) && all bound_test g.nodes))

-- count i is below 2^55; the count of height i + 1 is 0 where it has no span
unfoldable pub counts_test : ℕ → List ℕ → Bool
counts_test spans table = all (λ i. ltb (count_in table i) (2 ^ 55)) counts_length && all (λ i. ltb i spans || eqb (count_in table (inner_place + i)) 0) most_spans

-- the status is 0 where some arc has a key, and else 1
unfoldable pub status_test : Graph → List ℕ → Bool
status_test g table = eqb (status_in table) (if any (has_key g table) (arcs g) then 0 else 1)

unfoldable pub possible? : Graph → ℕ → List ℕ → Bool
possible? g spans table =
    sound_test g (table_labels g table) (table_predecessors g table) (has_key g table) && (counts_test spans table && status_test g table)
