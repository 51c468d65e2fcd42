-- A word that is made of kind and payload has them, and the words of the bytes of words are those words. A list of whole words of bytes is the bytes of its
-- words, and so is every list that is the bytes of words.
use Prim.Native.Nat.{ℕ, zero, suc, ◌+◌, ◌*◌, ◌/◌, ◌%◌, ◌<◌}
use mathlib.Core.Path.{◌≡◌, refl, sym, ap, ◌∙◌, fun_ext}
use mathlib.Core.List.{List, [], ◌∷◌, ◌++◌, map}
use native.Mathlib.Nat.{add-zero}
use native.Mathlib.Omega.{arith}
use lib.ListN.{length, get_or, drop, get_or-append}
use lib.Seq.{drop-nil}
use Rattle.indices.specs.Columns.{at, column}
use Rattle.indices.proofs.Columns.{at_map, column_ext, column_is}
use Rattle.sheet.specs.Words.{words, word, payloads, kind_of, payload_of, word_of, bytes_of, kind, payload}

pub payload_word : (kind payload : ℕ) → payload < payloads → payload_of (word_of kind payload) ≡ payload
payload_word kind payload l = omega arith

pub kind_word : (kind payload : ℕ) → payload < payloads → kind_of (word_of kind payload) ≡ kind
kind_word kind payload l = omega arith

pub length_bytes : (ws : List ℕ) → length (bytes_of ws) ≡ 4 * length ws
length_bytes [] = refl
length_bytes (w ∷ ws) = omega (arith, length_bytes ws)

pub bytes_append : (ws vs : List ℕ) → bytes_of (ws ++ vs) ≡ bytes_of ws ++ bytes_of vs
bytes_append [] vs = refl
bytes_append (w ∷ ws) vs = ap (λ (bytes : List ℕ). bytes_of (w ∷ []) ++ bytes) (bytes_append ws vs)

-- byte j of word i
pub byte_of_word : (ws : List ℕ) (i j : ℕ) → i < length ws → j < 4 → at (bytes_of ws) (4 * i + j) ≡ at (bytes_of (at ws i ∷ [])) j
byte_of_word [] i j inside low = absurd (omega arith)
byte_of_word (w ∷ ws) zero j inside low =
    ap (at (bytes_of (w ∷ ws))) (let e : 4 * 0 + j ≡ j = omega arith in e) ∙ get_or-append (bytes_of (w ∷ [])) (bytes_of ws) 0 j low
byte_of_word (w ∷ ws) (suc i) j inside low =
    ap (at (bytes_of (w ∷ ws))) (let e : 4 * suc i + j ≡ suc (suc (suc (suc (4 * i + j)))) = omega arith in e)
    ∙ byte_of_word ws i j (omega arith) low

-- four bytes make up their word
joined : (w : ℕ) → w / 16777216 * 16777216 + w / 65536 % 256 * 65536 + w / 256 % 256 * 256 + w % 256 ≡ w
joined w =
    let high : w / 65536 / 256 ≡ w / 16777216 = omega arith in
    let low : w / 256 / 256 ≡ w / 65536 = omega arith in
    omega arith

-- the words behind the first four bytes
word_behind : (x y z w : ℕ) (rest : List ℕ) (i : ℕ) → word (x ∷ y ∷ z ∷ w ∷ rest) (suc i) ≡ word rest i
unfolding word
word_behind x y z w rest i =
    rw (byte 0 (4 * suc i) (omega arith), byte 1 (4 * suc i + 1) refl, byte 2 (4 * suc i + 2) refl, byte 3 (4 * suc i + 3) refl, add-zero (4 * i))
  where
    byte : (j k : ℕ) → k ≡ 4 * suc i + j → get_or (x ∷ y ∷ z ∷ w ∷ rest) k 0 ≡ get_or rest (4 * i + j) 0
    byte j k h = ap (λ (n : ℕ). get_or (x ∷ y ∷ z ∷ w ∷ rest) n 0) (let e : k ≡ suc (suc (suc (suc (4 * i + j)))) = omega arith in e)

pub word_bytes : (ws : List ℕ) (i : ℕ) → word (bytes_of ws) i ≡ at ws i
unfolding word
word_bytes [] i = refl
word_bytes (w ∷ ws) zero = joined w
word_bytes (w ∷ ws) (suc i) = word_behind _ _ _ _ (bytes_of ws) i ∙ word_bytes ws i

-- all kinds and all payloads at once
pub kinds_bytes : (ws : List ℕ) → kind (bytes_of ws) ≡ at (map kind_of ws)
unfolding kind
kinds_bytes ws = fun_ext (λ i. ap kind_of (word_bytes ws i) ∙ at_map kind_of refl ws i)

pub payloads_bytes : (ws : List ℕ) → payload (bytes_of ws) ≡ at (map payload_of ws)
unfolding payload
payloads_bytes ws = fun_ext (λ i. ap payload_of (word_bytes ws i) ∙ at_map payload_of refl ws i)

pub words_bytes : (ws : List ℕ) → words (bytes_of ws) ≡ length ws
words_bytes ws = omega (arith, length_bytes ws)

-- the part from word i on
pub drop_bytes : (i : ℕ) (ws : List ℕ) → drop (4 * i) (bytes_of ws) ≡ bytes_of (drop i ws)
drop_bytes zero ws = refl
drop_bytes (suc i) [] = drop-nil (4 * suc i)
drop_bytes (suc i) (w ∷ ws) = rw (let e : 4 * suc i ≡ suc (suc (suc (suc (4 * i)))) = omega arith in e) (drop_bytes i ws)

-- BYTES OF THEIR OWN WORDS
pub own_words : (ws : List ℕ) → bytes_of (column (words (bytes_of ws)) (word (bytes_of ws))) ≡ bytes_of ws
own_words ws = ap bytes_of (column_is (words (bytes_of ws)) (word (bytes_of ws)) ws (sym (words_bytes ws)) (λ i _. word_bytes ws i))

-- the part from word i on of a list that is the bytes of its words
pub own_part : (b : List ℕ) (i : ℕ) → bytes_of (column (words b) (word b)) ≡ b
    → bytes_of (column (words (drop (4 * i) b)) (word (drop (4 * i) b))) ≡ drop (4 * i) b
own_part b i own =
    let ws = drop i (column (words b) (word b)) in
    let part : bytes_of ws ≡ drop (4 * i) b = sym (drop_bytes i (column (words b) (word b))) ∙ ap (drop (4 * i)) own in
    rw (← part) (own_words ws)

-- four bytes are those of their word
spelled : (x y z w : ℕ) (ws rest : List ℕ) → x < 256 → y < 256 → z < 256 → w < 256 → bytes_of ws ≡ rest
    → bytes_of (word (x ∷ y ∷ z ∷ w ∷ rest) 0 ∷ ws) ≡ x ∷ y ∷ z ∷ w ∷ rest
unfolding word
spelled x y z w ws rest lx ly lz lw e =
    let n = x * 16777216 + y * 65536 + z * 256 + w in
    let first : n / 16777216 ≡ x = omega arith in
    let second : n / 65536 % 256 ≡ y = omega arith in
    let third : n / 256 % 256 ≡ z = omega arith in
    let fourth : n % 256 ≡ w = omega arith in
    cc

-- whole words of bytes
pub own_bytes : (b : List ℕ) → length b % 4 ≡ 0 → ((i : ℕ) → i < length b → get_or b i 0 < 256) → bytes_of (column (words b) (word b)) ≡ b
unfolding column
own_bytes [] e small = refl
own_bytes (x ∷ []) e small = absurd (omega arith)
own_bytes (x ∷ y ∷ []) e small = absurd (omega arith)
own_bytes (x ∷ y ∷ z ∷ []) e small = absurd (omega arith)
own_bytes (x ∷ y ∷ z ∷ w ∷ rest) e small =
    let b = x ∷ y ∷ z ∷ w ∷ rest in
    let one_more : words b ≡ suc (words rest) = omega arith in
    let behind = column_ext (words rest) (λ i. word b (suc i)) (word rest) (λ i l. word_behind x y z w rest i) in
    let again = own_bytes rest (omega arith) (λ i l. small (suc (suc (suc (suc i)))) (omega arith)) in
    ap (λ (n : ℕ). bytes_of (column n (word b))) one_more
    ∙ spelled x y z w (column (words rest) (λ i. word b (suc i))) rest (small 0 (omega arith)) (small 1 (omega arith)) (small 2 (omega arith))
    (small 3 (omega arith)) (ap bytes_of behind ∙ again)
