-- Words that are written into a buffer of bytes: behind each other, each at its own place, and at its front.
use Prim.Native.Nat.{ℕ, ◌+◌, ◌-◌, ◌*◌, ◌/◌, ◌%◌, ◌≤◌, ◌<◌}
use mathlib.Core.Path.{◌≡◌, refl, sym, ap, ◌∙◌}
use mathlib.Core.Logic.{◌≢◌}
use mathlib.Core.List.{List, [], ◌∷◌, ◌++◌}
use native.Mathlib.Nat.{add-zero}
use Rattle.std.proofs.Common.{append_assoc}
use native.Mathlib.Omega.{arith}
use lib.ListN.{length, drop, length-append, length-drop, get_or-append}
use lib.Seq.{sets, length-sets, sets-eq, get_or-append-add, drop-drop, get_or-drop, ext_get_or}
use Rattle.indices.specs.Columns.{at, column}
use Rattle.indices.proofs.Steps.{by_order}
use Rattle.indices.proofs.Columns.{length_column, column_more}
use Rattle.indices.proofs.Stores.{sets_append, sets_before, sets_behind, sets_inside}
use Rattle.sheet.specs.Words.{bytes_of}
use Rattle.sheet.proofs.Bytes.{length_bytes, bytes_append, byte_of_word}
use borrow.Rule.Slice.PartMut.{put_mid}
use Rattle.sheet_writer.specs.Words.{words_put, WordAt}

-- COPIES: bytes that are copied to the place of words are those words
pub copied : (out : List ℕ) (i : ℕ) (ws bytes : List ℕ) {k : ℕ} → bytes ≡ bytes_of ws → k ≡ 4 * length ws → 4 * i + k ≤ length out
    → put_mid (4 * i) k out bytes ≡ words_put out i ws
unfolding words_put
copied out i ws bytes {k} e many room =
    let long : k ≡ length (bytes_of ws) = omega (arith, length_bytes ws) in
    let stored = sets-eq (bytes_of ws) out (4 * i) (omega arith) in
    rw (stored, append_assoc, e, drop-drop k (4 * i) out, long)

module _ (out : List ℕ) (i : ℕ) (ws : List ℕ) where
  pub put_length : length (words_put out i ws) ≡ length out
  unfolding words_put
  put_length = length-sets out (4 * i) (bytes_of ws)

  -- words, and the words after them
  pub put_then : (vs : List ℕ) → words_put (words_put out i ws) (i + length ws) vs ≡ words_put out i (ws ++ vs)
  unfolding words_put
  put_then vs =
      let next : 4 * (i + length ws) ≡ 4 * i + length (bytes_of ws) = omega (arith, length_bytes ws) in
      ap (λ (k : ℕ). sets (sets out (4 * i) (bytes_of ws)) k (bytes_of vs)) next
      ∙ sym (sets_append out (4 * i) (bytes_of ws) (bytes_of vs))
      ∙ ap (sets out (4 * i)) (sym (bytes_append ws vs))

  -- the bytes before the words and behind them stay
  pub put_before : (k : ℕ) → k < 4 * i → at (words_put out i ws) k ≡ at out k
  unfolding words_put
  put_before k l = sets_before out (4 * i) (bytes_of ws) k l

  pub put_behind : (k : ℕ) → 4 * (i + length ws) ≤ k → at (words_put out i ws) k ≡ at out k
  unfolding words_put
  put_behind k l = sets_behind out (4 * i) (bytes_of ws) k (omega (arith, length_bytes ws))

  pub put_rest : (n : ℕ) → 4 * (i + length ws) ≤ n → drop n (words_put out i ws) ≡ drop n out
  put_rest n l =
      ext_get_or 0 (drop n (words_put out i ws)) (drop n out) (omega (arith, length-drop n (words_put out i ws), length-drop n out, put_length))
      (λ k _. get_or-drop n (words_put out i ws) k 0 ∙ put_behind (n + k) (omega arith) ∙ sym (get_or-drop n out k 0))

  -- each word stands at its place
  pub put_inside : 4 * (i + length ws) ≤ length out → (k : ℕ) → k < length ws → WordAt (words_put out i ws) (i + k) (at ws k)
  unfolding words_put
  put_inside room k l = record {
    byte =
        λ j low.
        ap (at (sets out (4 * i) (bytes_of ws))) (let e : 4 * (i + k) + j ≡ 4 * i + (4 * k + j) = omega arith in e)
        ∙ sets_inside out (4 * i) (bytes_of ws) (4 * k + j) (omega (arith, length_bytes ws)) (omega (arith, length_bytes ws))
        ∙ byte_of_word ws k j l low;
  }

pub put_none : (out : List ℕ) (i : ℕ) → words_put out i [] ≡ out
unfolding words_put
put_none out i = refl

-- ONE WORD stands at its place, and the others stay
pub put_here : (out : List ℕ) (i w : ℕ) → 4 * i + 4 ≤ length out → WordAt (words_put out i (w ∷ [])) i w
put_here out i w room = rw add-zero at (put_inside out i (w ∷ []) (omega arith) 0 (omega arith))

pub put_other : (out : List ℕ) (i w j v : ℕ) → j ≢ i → WordAt out j v → WordAt (words_put out i (w ∷ [])) j v
put_other out i w j v ne there = record { byte = λ k low. same k low ∙ there.byte k low }
  where
    same : (k : ℕ) → k < 4 → at (words_put out i (w ∷ [])) (4 * j + k) ≡ at out (4 * j + k)
    same k low =
        by_order j i (λ before. put_before out i (w ∷ []) (4 * j + k) (omega arith))
        (λ behind. put_behind out i (w ∷ []) (4 * j + k) (omega arith))

-- A COLUMN, word by word
pub put_column_none : (out : List ℕ) (i : ℕ) (f : ℕ → ℕ) → words_put out i (column 0 f) ≡ out
unfolding column
put_column_none out i f = put_none out i

pub put_column_more : (out : List ℕ) (i : ℕ) (f : ℕ → ℕ) (k : ℕ)
    → words_put (words_put out i (column k f)) (i + k) (f k ∷ []) ≡ words_put out i (column (k + 1) f)
put_column_more out i f k =
    ap (λ (n : ℕ). words_put (words_put out i (column k f)) (i + n) (f k ∷ [])) (sym (length_column k f))
    ∙ put_then out i (column k f) (f k ∷ [])
    ∙ ap (words_put out i) (sym (column_more k f))

-- AT THE FRONT
pub put_next : (before : List ℕ) {out out' : List ℕ} (ws vs : List ℕ) {i : ℕ} → i ≡ length ws → out ≡ words_put before 0 ws → out' ≡ words_put out i vs
    → out' ≡ words_put before 0 (ws ++ vs)
put_next before ws vs {i} place first second =
    let e : i ≡ 0 + length ws = omega arith in
    second ∙ ap (λ (l : List ℕ). words_put l i vs) first ∙ ap (λ (k : ℕ). words_put (words_put before 0 ws) k vs) e ∙ put_then before 0 ws vs

pub put_front : (out ws : List ℕ) → 4 * length ws ≤ length out → words_put out 0 ws ≡ bytes_of ws ++ drop (length (bytes_of ws)) out
unfolding words_put
put_front out ws room =
    let none : 4 * 0 ≡ 0 = omega arith in
    let long : 0 + length (bytes_of ws) ≡ length (bytes_of ws) = omega arith in
    ap (λ (k : ℕ). sets out k (bytes_of ws)) none
    ∙ sets-eq (bytes_of ws) out 0 (omega (arith, length_bytes ws))
    ∙ ap (λ (n : ℕ). bytes_of ws ++ drop n out) long

-- a buffer with all the words at its front, in whatever order they were written, whose other bytes are as they were
pub words_written : (ws before out : List ℕ) → length out ≡ length before → 4 * length ws ≤ length before
    → ((i : ℕ) → i < length ws → WordAt out i (at ws i)) → ((k : ℕ) → 4 * length ws ≤ k → at out k ≡ at before k)
    → out ≡ bytes_of ws ++ drop (4 * length ws) before
words_written ws before out long room words-in kept =
    let n = 4 * length ws in
    let bytes = bytes_of ws in
    let size : length bytes ≡ n = length_bytes ws in
    ext_get_or 0 out (bytes ++ drop n before)
    (long ∙ sym (length-append bytes (drop n before) ∙ omega (arith, length-drop n before)))
    (λ k lk.
    by_order k n
    (λ inside.
    let place : k ≡ 4 * (k / 4) + k % 4 = omega arith in
    ap (at out) place
    ∙ (words-in (k / 4) (omega arith)).byte (k % 4) (omega arith)
    ∙ sym (ap (at bytes) place ∙ byte_of_word ws (k / 4) (k % 4) (omega arith) (omega arith))
    ∙ sym (get_or-append bytes (drop n before) 0 k (omega arith)))
    (λ behind.
    let j = k - n in
    let place : k ≡ length bytes + j = omega arith in
    let from : n + j ≡ k = omega arith in
    kept k behind
    ∙ sym (ap (at (bytes ++ drop n before)) place ∙ get_or-append-add bytes (drop n before) j 0 ∙ get_or-drop n before j 0 ∙ ap (at before) from)))
