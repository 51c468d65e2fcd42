-- What the test program lends to a call, words or bytes, and how much of it the call has used. Definitions.
use Rattle.std.specs.Prelude.{ℕ, zero, suc, Bool, List, length, slice_index_or, if◌then◌else◌}

-- a word of kind 12 that says neither 0 nor 1
abbrev pub filling : ℕ
filling = 3318072773

-- one of its bytes, which are all the same
abbrev pub filling_byte : ℕ
filling_byte = 197

module _ {A : Type 0} (same : A → A → Bool) (f : A) (lent : List A) where
  -- how many of the first n there are up to the last that is not f
  unfoldable pub used_below : ℕ → ℕ
  used_below zero = 0
  used_below (suc n) = if same (slice_index_or lent n f) f then used_below n else suc n

  -- how many there are up to it
  unfoldable pub used : ℕ
  used = used_below (length lent)
