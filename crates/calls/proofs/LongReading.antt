-- Words behind a table: what is read in its front is what the front says, and the key words behind it are read back.
use Rattle.std.specs.Prelude.{if◌then◌else◌}
use Prim.Native.Nat.{ℕ, ◌+◌, ◌*◌, ◌<◌}
use mathlib.Core.Bool.{Bool, true, false, ◌&&◌}
use mathlib.Core.Path.{◌≡◌, refl, sym, ap, ◌∙◌}
use mathlib.Core.List.{List, [], ◌++◌, append-nil}
use native.Mathlib.Omega.{arith}
use borrow.Author.Tests.{ne_eqb}
use lib.ListN.{length, length-append, get_or-append}
use lib.Seq.{get_or-append-add}
use lib.Dec.{ltb, eqb}
use Rattle.indices.specs.Columns.{at, column}
use Rattle.indices.proofs.Columns.{length_column, at_column, column_ext}
use Rattle.indices.proofs.Steps.{by_equal}
use Rattle.indices.proofs.Tests.{neither, right_kind, any_ext, any_false}
use Rattle.sheet.specs.Words.{kind_of, payload_of, word_of, top}
use Rattle.sheet.specs.Sections.{node_count, arc_count}
use Rattle.procedure.specs.Graph.{Graph, arcs}
use Rattle.procedure.specs.Division.{Division}
use Rattle.procedure.specs.OfSheet.{graph_of, division_of}
use Rattle.procedure.specs.State.{State, counts}
use Rattle.procedure.specs.Procedure.{ended}
use Rattle.procedure.specs.Table.{header_length, counts_length, table_of, key_word, key_words}
use Rattle.procedure.proofs.OfSheet.{graph_nodes, graph_arcs}
use Rattle.calls.specs.Tables.{
  table_length,
  long_length,
  is_long,
  payload_in,
  status_in,
  count_in,
  label_in,
  predecessor_in,
  key_place,
  labels_in,
  predecessors_in,
}
use Rattle.calls.specs.Routes.{wrong_count, wrong_node, wrong_key, wrong_keys, malformed}
use Rattle.calls.specs.Runs.{state_after, run_table, long_run_table}
use Rattle.calls.specs.LongTables.{long_table, has_key}
use Rattle.calls.specs.Possible.{table_labels, table_predecessors}
use Rattle.calls.proofs.Reading.{status_in_lem}

-- TABLES THAT AGREE in the usual words of n nodes say the same
module _ (n : ℕ) (table table' : List ℕ) (same : (i : ℕ) → i < table_length n → at table i ≡ at table' i) where
  pub same_status : status_in table ≡ status_in table'
  same_status = ap payload_of (same 0 (omega arith))

  pub same_count : (i : ℕ) → i < counts_length → count_in table i ≡ count_in table' i
  same_count i l = rw (same (1 + 2 * i) (omega arith), same (2 + 2 * i) (omega arith))

  pub same_label : (v : ℕ) → v < n → label_in table v ≡ label_in table' v
  same_label v l = ap payload_of (same (header_length + 2 * v) (omega arith))

  pub same_labels : labels_in n table ≡ labels_in n table'
  unfolding labels_in
  same_labels = column_ext n (label_in table) (label_in table') same_label

  pub same_predecessor : (v : ℕ) → v < n → predecessor_in table v ≡ predecessor_in table' v
  same_predecessor v l = ap payload_of (same (header_length + 2 * v + 1) (omega arith))

  pub same_predecessors : predecessors_in n table ≡ predecessors_in n table'
  unfolding predecessors_in
  same_predecessors = column_ext n (predecessor_in table) (predecessor_in table') same_predecessor

  same_node : (arcs v : ℕ) → v < n → wrong_node table arcs v ≡ wrong_node table' arcs v
  unfolding wrong_node
  same_node arcs v l = rw (same (header_length + 2 * v) (omega arith), same (header_length + 2 * v + 1) (omega arith))

-- but for the key words, 22 applies to both or to neither
pub same_form : (b table table' : List ℕ) → ((i : ℕ) → i < table_length (node_count b) → at table i ≡ at table' i)
    → wrong_keys b table ≡ wrong_keys b table' → malformed b table ≡ malformed b table'
unfolding malformed
same_form b table table' same keys =
    rw (
      same 0 (omega arith),
      any_ext (wrong_count table) (wrong_count table') (2 * counts_length) (λ i l. rw (same (1 + i) (omega arith))),
      any_ext (wrong_node table (arc_count b)) (wrong_node table' (arc_count b)) (node_count b) (same_node (node_count b) table table' same (arc_count b)),
      keys,
    )

-- A KEY WORD
key_read : (own : ℕ) → (kind_of (key_word own) ≡ 12) × (payload_of (key_word own) ≡ (if ltb own top then 1 else 0))
key_read own = by (ltb own top)
  where
    by : (keyed : Bool) → (kind_of (word_of 12 (if keyed then 1 else 0)) ≡ 12) × (payload_of (word_of 12 (if keyed then 1 else 0)) ≡ (if keyed then 1 else 0))
    by true = (refl, refl)
    by false = (refl, refl)

-- 1 just where there is a key, and never above 1
key_flag : (keyed : Bool) → eqb (if keyed then 1 else 0) 1 ≡ keyed
key_flag true = refl
key_flag false = refl

key_low : (keyed : Bool) → ltb 1 (if keyed then 1 else 0) ≡ false
key_low true = refl
key_low false = refl

module _ (own : List ℕ) (m : ℕ) where
  pub key_words_length : length (key_words own m) ≡ m
  unfolding key_words
  key_words_length = length_column m _

  pub key_word_at : (a : ℕ) → a < m → at (key_words own m) a ≡ key_word (at own a)
  unfolding key_words
  key_word_at a la = at_column m _ a la

-- WORDS BEHIND the usual ones of n nodes
module _ (n : ℕ) (front : List ℕ) (long : length front ≡ table_length n) (behind : List ℕ) where
  pub in_front : (i : ℕ) → i < table_length n → at (front ++ behind) i ≡ at front i
  in_front i l = get_or-append front behind 0 i (rw long l)

  pub behind_front : (i : ℕ) → at (front ++ behind) (table_length n + i) ≡ at behind i
  behind_front i = ap (λ (k : ℕ). at (front ++ behind) (k + i)) (sym long) ∙ get_or-append-add front behind i 0

-- the key words of m arcs behind them
module _ (n : ℕ) (front : List ℕ) (long : length front ≡ table_length n) (own : List ℕ) (m : ℕ) where
  abbrev table : List ℕ
  table = front ++ key_words own m

  pub long_length_lem : length table ≡ long_length n m
  long_length_lem = omega (arith, length-append front (key_words own m), key_words_length own m, long)

  pub key_in : (a : ℕ) → a < m → at table (key_place n a) ≡ key_word (at own a)
  key_in a la = behind_front n front long (key_words own m) a ∙ key_word_at own m a la

  -- the word of an arc is 1 just where it has a key
  pub key_said : (a : ℕ) → a < m → eqb (payload_in table (key_place n a)) 1 ≡ ltb (at own a) top
  key_said a la = ap (λ (w : ℕ). eqb (payload_of w) 1) (key_in a la) ∙ rw (key_read (at own a)).1 (key_flag (ltb (at own a) top))

  -- it is of its kind, and not above 1
  key_right : (a : ℕ) → a < m → wrong_key table n a ≡ false
  key_right a la =
      rw (key_in a la) (neither _ _ (right_kind _ 12 (key_read (at own a)).0) (rw (key_read (at own a)).1 (key_low (ltb (at own a) top))))

-- So key words behind the usual ones are right, however many: they are looked at where there is one for each arc.
pub keys_right : (b front : List ℕ) → length front ≡ table_length (node_count b) → (own : List ℕ) (m : ℕ) → wrong_keys b (front ++ key_words own m) ≡ false
unfolding wrong_keys is_long
keys_right b front long own m =
    let words = length (front ++ key_words own m) in
    by_equal m (arc_count b)
    (λ all. and_none (eqb words (long_length (node_count b) (arc_count b)))
    (any_false _ (arc_count b) (λ a la. key_right (node_count b) front long own m a (rw all la))))
    (λ other. rw (ne_eqb words (long_length (node_count b) (arc_count b)) (λ e. omega (arith, long_length_lem (node_count b) front long own m))))
  where
    and_none : (x : Bool) {y : Bool} → y ≡ false → x && y ≡ false
    and_none true e = e
    and_none false e = refl

-- and so with none
pub no_keys_right : (b table : List ℕ) → length table ≡ table_length (node_count b) → wrong_keys b table ≡ false
unfolding key_words column
no_keys_right b table long = ap (wrong_keys b) (sym (append-nil table)) ∙ keys_right b table long [] 0

-- THE LONGER TABLE of a state
pub long_status : (g : Graph) (d : Division) (s : State) → status_in (long_table g d s) ≡ (if ended g d s then 1 else 0)
unfolding long_table table_of
long_status g d s = status_in_lem (ended g d s) (counts s) s.labels s.predecessors g.nodes

-- of a sheet's, the usual words are those of its nodes, and the key words those of its arcs
pub long_words : (b : List ℕ) (s : State) → long_table (graph_of b) (division_of b) s
    ≡ table_of (ended (graph_of b) (division_of b) s) (counts s) s.labels s.predecessors (node_count b) ++ key_words s.queues.own (arc_count b)
unfolding long_table
long_words b s =
    let over = ended (graph_of b) (division_of b) s in
    ap (λ (n : ℕ). table_of over (counts s) s.labels s.predecessors n ++ key_words s.queues.own (arcs (graph_of b))) (graph_nodes b)
    ∙ ap (λ (m : ℕ). table_of over (counts s) s.labels s.predecessors (node_count b) ++ key_words s.queues.own m) (graph_arcs b)

-- the labels and predecessors for the nodes of its graph are those of its nodes
pub sheet_labels : (b table : List ℕ) → table_labels (graph_of b) table ≡ labels_in (node_count b) table
sheet_labels b table = ap (λ (n : ℕ). labels_in n table) (graph_nodes b)

pub sheet_predecessors : (b table : List ℕ) → table_predecessors (graph_of b) table ≡ predecessors_in (node_count b) table
sheet_predecessors b table = ap (λ (n : ℕ). predecessors_in n table) (graph_nodes b)

-- whether an arc of the sheet has a key, by its word
pub has_key_lem : (b table : List ℕ) (a : ℕ) → has_key (graph_of b) table a ≡ eqb (payload_in table (key_place (node_count b) a)) 1
unfolding has_key
has_key_lem b table a = ap (λ (n : ℕ). eqb (payload_in table (key_place n a)) 1) (graph_nodes b)

-- the longer table of a run is that of its state
pub long_run : (b : List ℕ) (k : ℕ) → long_run_table b k ≡ long_table (graph_of b) (division_of b) (state_after b k)
unfolding long_run_table run_table
long_run b k = sym (long_words b (state_after b k))
