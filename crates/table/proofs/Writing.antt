-- Words written one after the other: the pairs of words passed so far, those of the counts and of the nodes, and header and nodes together.
use Prim.Native.Nat.{ℕ, ◌+◌, ◌*◌, ◌<◌, ◌≤◌}
use mathlib.Core.Bool.{Bool}
use mathlib.Core.Path.{◌≡◌, refl, sym, ap, ◌∙◌}
use mathlib.Core.List.{List, [], ◌∷◌, ◌++◌, append-nil}
use native.Mathlib.Numerals.{add-one}
use native.Mathlib.Omega.{arith}
use lib.ListN.{length, take, drop_of_length-le, length-append}
use lib.Seq.{sets, length-sets, sets-eq, take-suc, take_all, length-take-le}
use Rattle.indices.specs.Columns.{at}
use Rattle.indices.proofs.Stores.{sets_append}
use Rattle.procedure.specs.Table.{status_word, count_words, node_words, table_of, header_length}
use Rattle.calls.proofs.Reading.{count_pair, count_words_length, node_pair, next_node_words, node_words_length}
use Rattle.table.specs.Countable.{Countable}
use Rattle.table.specs.Writable.{Listed}

-- words that fill a list are what it then holds
pub sets_whole : (l vs : List ℕ) → length vs ≡ length l → sets l 0 vs ≡ vs
sets_whole l vs e =
    let fits : 0 + length vs ≤ length l = omega arith in
    let past : length l ≤ 0 + length vs = omega arith in
    sets-eq vs l 0 fits ∙ ap (λ (rest : List ℕ). vs ++ rest) (drop_of_length-le l past) ∙ append-nil vs

-- PAIRS OF WORDS

-- of n pairs the first i, `words i`, are written from a place on
pub record Writing (from n : ℕ) (words : ℕ → List ℕ) (table₀ table : List ℕ) (i : ℕ) : Type 0 where
  pub within : i ≤ n
  pub sofar : table ≡ sets table₀ from (words i)

module _ {from n : ℕ} {words : ℕ → List ℕ} {table₀ : List ℕ} where
  pub writing_start : words 0 ≡ [] → Writing from n words table₀ table₀ 0
  writing_start none = record { within = omega arith; sofar = rw none }

  module _ {table : List ℕ} {i : ℕ} (W : Writing from n words table₀ table i) where
    writing_step : {table' : List ℕ} (pair : List ℕ) → i < n → length (words i) ≡ 2 * i → words (i + 1) ≡ words i ++ pair
        → table' ≡ sets table (from + 2 * i) pair → Writing from n words table₀ table' (i + 1)
    writing_step pair inside long more e = record {
      within = omega arith;
      sofar =
          e
          ∙ ap (λ (t : List ℕ). sets t (from + 2 * i) pair) W.sofar
          ∙ ap (λ (k : ℕ). sets (sets table₀ from (words i)) (from + k) pair) (sym long)
          ∙ sym (sets_append table₀ from (words i) pair)
          ∙ ap (sets table₀ from) (sym more);
    }

    pub writing_length : length table ≡ length table₀
    writing_length = ap length W.sofar ∙ length-sets table₀ from (words i)

    pub writing_end : n ≤ i → table ≡ sets table₀ from (words n)
    writing_end past = W.sofar ∙ ap (λ (k : ℕ). sets table₀ from (words k)) (let e : i ≡ n = omega (arith, W.within) in e)

-- THE COUNTS, after the status

-- the words of the first i counts
abbrev pub first_counts : List ℕ → ℕ → List ℕ
first_counts counts i = count_words (take i counts)

count_words_append : (xs ys : List ℕ) → count_words (xs ++ ys) ≡ count_words xs ++ count_words ys
count_words_append [] ys = refl
count_words_append (x ∷ xs) ys = ap (λ (ws : List ℕ). count_pair x ++ ws) (count_words_append xs ys)

module _ (counts : List ℕ) {table₀ table : List ℕ} {i : ℕ} (W : Writing 1 (length counts) (first_counts counts) table₀ table i) where
  pub one_count_more : {table' : List ℕ} → i < length counts → table' ≡ sets table (1 + 2 * i) (count_words (at counts i ∷ []))
      → Writing 1 (length counts) (first_counts counts) table₀ table' (i + 1)
  one_count_more inside =
      let front : length (first_counts counts i) ≡ 2 * i = omega (arith, count_words_length (take i counts), length-take-le i counts W.within) in
      writing_step W (count_words (at counts i ∷ [])) inside front (rw (add-one, take-suc counts i 0) (count_words_append (take i counts) (at counts i ∷ [])))

  pub all_counts : length counts ≤ i → table ≡ sets table₀ 1 (count_words counts)
  all_counts past = writing_end W past ∙ ap (λ (cs : List ℕ). sets table₀ 1 (count_words cs)) (take_all (length counts) counts (omega arith))

-- THE NODES, after the header
module _ (labels predecessors : List ℕ) {table₀ table : List ℕ} {v : ℕ}
    (W : Writing header_length (length labels) (node_words labels predecessors) table₀ table v) where
  -- the words of node v have their places in the table
  pub node_places : Listed labels predecessors (length table₀) → v < length labels → header_length + 2 * v + 1 < length table
  node_places L inside = omega (arith, L.room, writing_length W)

  pub one_node_more : {table' : List ℕ} → v < length labels → table' ≡ sets table (header_length + 2 * v) (node_pair labels predecessors v)
      → Writing header_length (length labels) (node_words labels predecessors) table₀ table' (v + 1)
  one_node_more inside =
      writing_step W (node_pair labels predecessors v) inside (node_words_length labels predecessors v) (rw add-one (next_node_words labels predecessors v))

-- THE WHOLE TABLE: header and nodes
module _ (ended : Bool) {counts : List ℕ} (C : Countable counts) where
  abbrev header : List ℕ
  header = status_word ended ∷ count_words counts

  pub whole_table : {labels predecessors table table' : List ℕ} (table₀ : List ℕ) → Listed labels predecessors (length table₀)
      → table ≡ sets table₀ 0 header → table' ≡ sets table header_length (node_words labels predecessors (length labels))
      → table' ≡ table_of ended counts labels predecessors (length labels)
  unfolding table_of
  whole_table {labels} {predecessors} table₀ L e e' =
      let N = node_words labels predecessors (length labels) in
      let long : header_length ≡ 0 + length header = omega (arith, count_words_length counts, C.all) in
      let same : length (header ++ N) ≡ length table₀ =
      omega (arith, L.room, length-append header N, node_words_length labels predecessors (length labels)) in
      e'
      ∙ ap (λ (t : List ℕ). sets t header_length N) e
      ∙ ap (λ (k : ℕ). sets (sets table₀ 0 header) k N) long
      ∙ sym (sets_append table₀ 0 header N)
      ∙ sets_whole table₀ (header ++ N) same
