-- What is read out of a table is what was written into it: status, counts, labels and predecessors.
use Rattle.std.specs.Prelude.{if◌then◌else◌}
use Prim.Native.Nat.{ℕ, zero, suc, ◌+◌, ◌*◌, ◌/◌, ◌%◌, ◌^◌, ◌≤◌, ◌<◌}
use mathlib.Core.Bool.{Bool, true, false}
use mathlib.Core.Path.{◌≡◌, refl, sym, ap, ◌∙◌}
use mathlib.Core.List.{List, [], ◌∷◌, ◌++◌}
use mathlib.Core.Logic.{⊎_elim}
use native.Mathlib.Nat.{eq-or-lt_of_le, le_of_suc-le-suc, not-suc-le-zero}
use native.Mathlib.Omega.{arith}
use lib.ListN.{length, drop, length-append, get_or-append}
use lib.Seq.{drop_at, get_or-append-add}
use Rattle.indices.specs.Columns.{at}
use Rattle.indices.proofs.Columns.{column_is}
use Rattle.indices.proofs.Steps.{lt_or_le}
use Rattle.sheet.specs.Words.{kind_of, payload_of, payloads, word_of}
use Rattle.sheet.proofs.Bytes.{payload_word, kind_word}
use Rattle.procedure.specs.Table.{status_word, count_words, header_length, node_words, table_of, counts_length}
use Rattle.calls.specs.Tables.{table_length, kind_in, payload_in, status_in, count_in, label_in, predecessor_in, labels_in, predecessors_in}

-- THE WORDS OF THE NODES
module _ (labels predecessors : List ℕ) where
  -- the two words of node v
  abbrev pub node_pair : ℕ → List ℕ
  node_pair v = word_of 9 (at labels v) ∷ word_of 10 (at predecessors v) ∷ []

  pub no_node_words : node_words labels predecessors 0 ≡ []
  unfolding node_words
  no_node_words = refl

  pub next_node_words : (v : ℕ) → node_words labels predecessors (suc v) ≡ node_words labels predecessors v ++ node_pair v
  unfolding node_words
  next_node_words v = refl

  pub node_words_length : (n : ℕ) → length (node_words labels predecessors n) ≡ 2 * n
  node_words_length zero = rw no_node_words
  node_words_length (suc n) = rw (next_node_words, length-append) (omega (arith, node_words_length n))

  -- the words of node v stand two a node
  node_word_at : (n v j : ℕ) → v < n → j < 2 → at (node_words labels predecessors n) (2 * v + j) ≡ at (node_pair v) j
  node_word_at zero v j l lj = absurd (not-suc-le-zero l)
  node_word_at (suc n) v j l lj =
      let W = node_words labels predecessors n in
      let size = node_words_length n in
      rw next_node_words
      (⊎_elim
      (λ (e : v ≡ n).
      ap (λ (i : ℕ). at (W ++ node_pair n) i) (let same : 2 * v + j ≡ length W + j = omega arith in same)
      ∙ get_or-append-add W (node_pair n) j 0
      ∙ ap (λ (k : ℕ). at (node_pair k) j) (sym e))
      (λ (lt : v < n).
      get_or-append W (node_pair n) 0 (2 * v + j) (let in_front : 2 * v + j < length W = omega arith in in_front) ∙ node_word_at n v j lt lj)
      (eq-or-lt_of_le (le_of_suc-le-suc l)))

-- THE WORDS OF THE COUNTS
-- the two words of a count
abbrev pub count_pair : ℕ → List ℕ
count_pair c = word_of 11 (c / payloads) ∷ word_of 11 (c % payloads) ∷ []

pub count_words_length : (counts : List ℕ) → length (count_words counts) ≡ 2 * length counts
count_words_length [] = refl
count_words_length (c ∷ cs) = omega (arith, count_words_length cs)

-- the words of count i stand two a count
count_word_at : (counts : List ℕ) (i j : ℕ) → i < length counts → j < 2 → at (count_words counts) (2 * i + j) ≡ at (count_pair (at counts i)) j
count_word_at [] i j l lj = absurd (not-suc-le-zero l)
count_word_at (c ∷ cs) zero zero l lj = refl
count_word_at (c ∷ cs) zero (suc zero) l lj = refl
count_word_at (c ∷ cs) zero (suc (suc j)) l lj = absurd (omega arith)
count_word_at (c ∷ cs) (suc i) j l lj =
    ap (at (count_words (c ∷ cs))) (let e : 2 * suc i + j ≡ suc (suc (2 * i + j)) = omega arith in e) ∙ count_word_at cs i j (le_of_suc-le-suc l) lj

-- THE TABLE of a status, counts, and the labels and predecessors of n nodes
module _ (ended : Bool) (counts labels predecessors : List ℕ) (n : ℕ) where
  abbrev table : List ℕ
  table = table_of ended counts labels predecessors n

  abbrev header : List ℕ
  header = status_word ended ∷ count_words counts

  header_long : length header ≡ 1 + 2 * length counts
  header_long = omega (arith, count_words_length counts)

  pub words_all : length table ≡ 1 + 2 * length counts + 2 * n
  unfolding table_of
  words_all = omega (arith, header_long, length-append header (node_words labels predecessors n), node_words_length labels predecessors n)

  -- the words of the nodes stand behind the header
  pub behind_header : drop (1 + 2 * length counts) table ≡ node_words labels predecessors n
  unfolding table_of
  behind_header = drop_at header (node_words labels predecessors n) (1 + 2 * length counts) header_long

  pub status_in_lem : status_in table ≡ (if ended then 1 else 0)
  unfolding table_of
  status_in_lem = at_status ended
    where
      at_status : (b : Bool) → payload_of (status_word b) ≡ (if b then 1 else 0)
      at_status true = refl
      at_status false = refl

  pub status_kind : kind_in table 0 ≡ 8
  unfolding table_of
  status_kind = at_kind ended
    where
      at_kind : (b : Bool) → kind_of (status_word b) ≡ 8
      at_kind true = refl
      at_kind false = refl

  -- kind and payload of the word at a place
  read_as : {i j : ℕ} (kind payload : ℕ) → i ≡ j → at table j ≡ word_of kind payload → payload < 268435456
      → (kind_in table i ≡ kind) × (payload_in table i ≡ payload)
  read_as kind payload same e small =
      let word = ap (at table) same ∙ e in (ap kind_of word ∙ kind_word kind payload small, ap payload_of word ∙ payload_word kind payload small)

  -- word j of count i, behind the status
  count_word_in : (i j : ℕ) → i < length counts → j < 2 → at table (suc (2 * i + j)) ≡ at (count_pair (at counts i)) j
  unfolding table_of
  count_word_in i j l lj =
      get_or-append header (node_words labels predecessors n) 0 (suc (2 * i + j))
      (let in_front : suc (2 * i + j) < length header = omega (arith, header_long) in in_front)
      ∙ count_word_at counts i j l lj

  high_half : (i : ℕ) → i < length counts → at counts i < 2 ^ 56
      → (kind_in table (1 + 2 * i) ≡ 11) × (payload_in table (1 + 2 * i) ≡ at counts i / payloads)
  high_half i l small = read_as 11 (at counts i / payloads) (omega arith) (count_word_in i 0 l (omega arith)) (omega arith)

  low_half : (i : ℕ) → i < length counts → (kind_in table (2 + 2 * i) ≡ 11) × (payload_in table (2 + 2 * i) ≡ at counts i % payloads)
  low_half i l = read_as 11 (at counts i % payloads) (omega arith) (count_word_in i 1 l (omega arith)) (omega arith)

  pub count_kind : ((i : ℕ) → i < length counts → at counts i < 2 ^ 56) → (i : ℕ) → i < 2 * length counts → kind_in table (1 + i) ≡ 11
  count_kind small i l =
      let c = i / 2 in
      let in_range : c < length counts = omega arith in
      ⊎_elim
      (λ (even : i % 2 < 1). ap (kind_in table) (let e : 1 + i ≡ 1 + 2 * c = omega arith in e) ∙ (high_half c in_range (small c in_range)).0)
      (λ (odd : 1 ≤ i % 2). ap (kind_in table) (let e : 1 + i ≡ 2 + 2 * c = omega arith in e) ∙ (low_half c in_range).0)
      (lt_or_le (i % 2) 1)

  -- the two halves say the count
  pub count_in_lem : (i : ℕ) → i < length counts → at counts i < 2 ^ 56 → count_in table i ≡ at counts i
  count_in_lem i l small = omega (arith, (high_half i l small).1, (low_half i l).1)

  -- with the eighteen counts
  module _ (all : length counts ≡ counts_length) where
    pub table_long : length table ≡ table_length n
    table_long = omega (arith, words_all, all)

    -- word j of node v, behind the header
    node_word_in : (v j : ℕ) → v < n → j < 2 → at table (header_length + (2 * v + j)) ≡ at (node_pair labels predecessors v) j
    unfolding table_of
    node_word_in v j l lj =
        rw (header_long, all) at (get_or-append-add header (node_words labels predecessors n) (2 * v + j) 0)
        ∙ node_word_at labels predecessors n v j l lj

    pub label_in_lem : (v : ℕ) → v < n → at labels v < 268435456
        → (kind_in table (header_length + 2 * v) ≡ 9) × (label_in table v ≡ at labels v)
    label_in_lem v l = read_as 9 (at labels v) (omega arith) (node_word_in v 0 l (omega arith))

    pub predecessor_in_lem : (v : ℕ) → v < n → at predecessors v < 268435456
        → (kind_in table (header_length + 2 * v + 1) ≡ 10) × (predecessor_in table v ≡ at predecessors v)
    predecessor_in_lem v l = read_as 10 (at predecessors v) (omega arith) (node_word_in v 1 l (omega arith))

    -- as whole columns
    pub labels_in_lem : length labels ≡ n → ((v : ℕ) → v < n → at labels v < 268435456) → labels_in n table ≡ labels
    unfolding labels_in
    labels_in_lem long small = column_is n (label_in table) labels long (λ v l. (label_in_lem v l (small v l)).1)

    pub predecessors_in_lem : length predecessors ≡ n → ((v : ℕ) → v < n → at predecessors v < 268435456) → predecessors_in n table ≡ predecessors
    unfolding predecessors_in
    predecessors_in_lem long small = column_is n (predecessor_in table) predecessors long (λ v l. (predecessor_in_lem v l (small v l)).1)
