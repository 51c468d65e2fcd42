-- Words in a buffer of bytes. Definitions.
use Rattle.std.specs.Prelude.{ℕ, ◌+◌, ◌*◌, ◌<◌, ◌≡◌, List, [], ◌∷◌}
use Rattle.std.proofs.lemmas.List.Edits.{sets}
use Rattle.indices.specs.Columns.{at, column}
use Rattle.sheet.specs.Words.{word, bytes_of}

-- so many words of a sheet from one on
abbrev pub words_from : List ℕ → ℕ → ℕ → List ℕ
words_from b from count = column count (λ k. word b (from + k))

-- the buffer once words are written from word i on
unfoldable pub words_put : List ℕ → ℕ → List ℕ → List ℕ
words_put out i ws = sets out (4 * i) (bytes_of ws)

-- the bytes of word i are those of w
pub record WordAt (out : List ℕ) (i w : ℕ) : Type 0 where
  pub byte : (j : ℕ) → j < 4 → at out (4 * i + j) ≡ at (bytes_of (w ∷ [])) j
