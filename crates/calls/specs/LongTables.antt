-- The longer table of a state, and the state that a longer table stands for (request 2026-06). Definitions.
use Rattle.std.specs.Prelude.{ℕ, pred, ◌+◌, ◌-◌, Bool, List, ◌++◌, set, replicate, eqb, if◌then◌else◌}
use Rattle.indices.specs.Columns.{column}
use Rattle.indices.specs.Steps.{up_to}
use Rattle.sheet.specs.Limits.{most_spans}
use Rattle.sheet.specs.Words.{top}
use Rattle.procedure.specs.Graph.{Graph, arcs, tail}
use Rattle.procedure.specs.Division.{Division, regions}
use Rattle.procedure.specs.State.{State, counts}
use Rattle.procedure.specs.Queues.{min_key}
use Rattle.procedure.specs.Procedure.{ended}
use Rattle.procedure.specs.Table.{inner_place, updates_place, table_of, key_words}
use Rattle.calls.specs.Tables.{payload_in, rounds_in, leaves_in, count_in, label_in, key_place, labels_in, predecessors_in}

-- "after the usual words, one per arc, kind 12, payload 1 if the arc's leaf has a key, else 0"
unfoldable pub long_table : Graph → Division → State → List ℕ
long_table g d s = table_of (ended g d s) (counts s) s.labels s.predecessors g.nodes ++ key_words s.queues.own (arcs g)

-- THE STATE that a longer table stands for
module _ (g : Graph) (table : List ℕ) where
  -- arc a's leaf has a key
  unfoldable pub has_key : ℕ → Bool
  has_key a = eqb (payload_in table (key_place g.nodes a)) 1

  -- "a keyed leaf's key being its tail's label"
  unfoldable pub own_in : List ℕ
  own_in = column (arcs g) (λ a. if has_key a then label_in table (tail g a) else top)

-- "an inner region's keys its children's smallest": each region's key in its parent is its smallest key. Children have higher numbers than their parent, so
-- from the last region to region 1 each one's key is written once its children's are; region 0 is nobody's child.
unfoldable pub keys_of : Division → List ℕ → List ℕ
keys_of d own =
    let last = pred (regions d) in
    up_to last (λ i keys. set keys (last - i) (min_key d (record { own = own; keys = keys; updates = 0 }) (last - i))) (replicate (regions d) top)

-- "Counts carry on."
unfoldable pub state_in : Graph → Division → List ℕ → State
state_in g d table = record {
  labels = labels_in g.nodes table;
  predecessors = predecessors_in g.nodes table;
  queues = record { own = own_in g table; keys = keys_of d (own_in g table); updates = count_in table updates_place };
  rounds = rounds_in table;
  leaves = leaves_in table;
  inner = column most_spans (λ i. count_in table (inner_place + i));
}
