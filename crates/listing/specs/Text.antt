-- Text as bytes, and numbers as text. Definitions.
use Rattle.std.specs.Prelude.{ℕ, zero, suc, ◌+◌, ◌/◌, ◌%◌, List, [], ◌∷◌, ◌++◌, ltb, if◌then◌else◌}
use Prim.Native.Char.{code}
use Prim.Native.String.{String, [] as empty, ◌∷◌ as ◌then◌}

-- the bytes of a text that has characters of ASCII alone: the number of each
abbrev pub ascii : String → List ℕ
ascii empty = []
ascii (c then s) = code c ∷ ascii s

-- the digit d, below ten
abbrev pub digit : ℕ → ℕ
digit d = code "0" + d

-- the last digits of n, at most so many, and without leading zeros
unfoldable pub last_digits : ℕ → ℕ → List ℕ
last_digits zero n = []
last_digits (suc most) n =
    let earlier = last_digits most (n / 10) in
    (if ltb n 10 then [] else earlier) ++ (digit (n % 10) ∷ [])

-- n in base ten: it has at most n + 1 digits
unfoldable pub decimal : ℕ → List ℕ
decimal n = last_digits (suc n) n
