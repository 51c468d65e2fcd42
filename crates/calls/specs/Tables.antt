-- What the words of an answer table say. Definitions.
use Rattle.std.specs.Prelude.{ℕ, ◌+◌, ◌*◌, Bool, not, ◌||◌, List, length, eqb, if◌then◌else◌}
use Rattle.indices.specs.Columns.{at, column}
use Rattle.sheet.specs.Words.{kind_of, payload_of, payloads}
use Rattle.sheet.specs.Sections.{node_count, arc_count}
use Rattle.answer.specs.Answer.{Answer, ended, paused}
use Rattle.procedure.specs.Table.{header_length}

-- "A table is then 37 + 2n words, which is what 21 checks."
abbrev pub table_length : ℕ → ℕ
table_length nodes = header_length + 2 * nodes

-- 2026-06: "A longer table is wanted: after the usual words, one per arc": of so many nodes and arcs
abbrev pub long_length : ℕ → ℕ → ℕ
long_length nodes arcs = table_length nodes + arcs

module _ (b table : List ℕ) where
  -- the table has the usual length, the longer length; with no arcs both are one
  unfoldable pub is_usual : Bool
  is_usual = eqb (length table) (table_length (node_count b))

  unfoldable pub is_long : Bool
  is_long = eqb (length table) (long_length (node_count b) (arc_count b))

  -- "21 then means neither form"
  unfoldable pub wrong_length : Bool
  wrong_length = not (is_usual || is_long)

-- "Kind 8: 1 ended, 0 paused." What a run answers whose table has that status; it is asked of runs' tables alone, which have no other
abbrev pub status_says : ℕ → Answer
status_says status = if eqb status 1 then ended else paused

module _ (table : List ℕ) where
  abbrev pub kind_in : ℕ → ℕ
  kind_in i = kind_of (at table i)

  abbrev pub payload_in : ℕ → ℕ
  payload_in i = payload_of (at table i)

  -- "Kind 8: 1 ended, 0 paused."
  abbrev pub status_in : ℕ
  status_in = payload_in 0

  -- words of kind 11, the counts "in the order above, high 28 bits before low 28": count i
  abbrev pub count_in : ℕ → ℕ
  count_in i = payload_in (1 + 2 * i) * payloads + payload_in (2 + 2 * i)

  -- "rounds, leaves worked": the first two
  abbrev pub rounds_in : ℕ
  rounds_in = count_in 0

  abbrev pub leaves_in : ℕ
  leaves_in = count_in 1

  -- "Then per node a kind 9 word, its label, and a kind 10 word, its feeding arc."
  abbrev pub label_in : ℕ → ℕ
  label_in v = payload_in (header_length + 2 * v)

  abbrev pub predecessor_in : ℕ → ℕ
  predecessor_in v = payload_in (header_length + 2 * v + 1)

-- where the key word of arc a stands, behind those of so many nodes
abbrev pub key_place : ℕ → ℕ → ℕ
key_place nodes a = table_length nodes + a

-- the labels and the predecessors of the n nodes of a table
unfoldable pub labels_in : ℕ → List ℕ → List ℕ
labels_in n table = column n (label_in table)

unfoldable pub predecessors_in : ℕ → List ℕ → List ℕ
predecessors_in n table = column n (predecessor_in table)
