-- What is asked of counts, labels and predecessors that are written into a table: that each fits its 28 bits or two times 28 bits, and that the
-- table has room for just them. Definitions.
use Rattle.std.specs.Prelude.{ℕ, ◌<◌, ◌≡◌, List, length}
use Rattle.indices.specs.Columns.{at}
use Rattle.sheet.specs.Words.{payloads}
use Rattle.calls.specs.Tables.{table_length}
use Rattle.table.specs.Countable.{Countable}

-- a label and a predecessor for each node, in a table of so many words
pub record Listed (labels predecessors : List ℕ) (words : ℕ) : Type 0 where
  pub room : words ≡ table_length (length labels)
  pub fed : length predecessors ≡ length labels
  pub label : (v : ℕ) → v < length labels → at labels v < payloads
  pub predecessor : (v : ℕ) → v < length labels → at predecessors v < payloads

pub record Writable (cs labels predecessors : List ℕ) (words : ℕ) : Type 0 where
  pub counts : Countable cs
  pub nodes : Listed labels predecessors words
