-- Laws of `decimal`: a number below ten is its digit; any other has the digits of its tenth, then its last. So k digits hold what is below 10 ^ k.
use Prim.Native.Nat.{ℕ, zero, suc, ◌/◌, ◌%◌, ◌^◌, ◌≤◌, ◌<◌}
use mathlib.Core.Path.{◌≡◌, sym, ap, ◌∙◌}
use mathlib.Core.List.{List, [], ◌∷◌, ◌++◌}
use native.Mathlib.Nat.{not-suc-le-zero, pow-suc}
use native.Mathlib.Omega.{arith}
use borrow.Author.Tests.{lt-ltb, le-ltb}
use lib.ListN.{length, length-append}
use Rattle.indices.proofs.Steps.{by_order}
use Rattle.listing.specs.declared.text.Text.{Text}
use Rattle.listing.specs.Text.{digit, last_digits, decimal}
use Rattle.listing.specs.Inner.{Room, Wrote}
use Rattle.listing.proofs.text.Writing.{wrote_then, room_before, room_after}

one_digit : (most n : ℕ) → n < 10 → last_digits (suc most) n ≡ digit n ∷ []
unfolding last_digits
one_digit most n small = let e : n % 10 ≡ n = omega arith in rw (lt-ltb n 10 small, e)

more_digits : (most n : ℕ) → 10 ≤ n → last_digits (suc most) n ≡ last_digits most (n / 10) ++ (digit (n % 10) ∷ [])
unfolding last_digits
more_digits most n large = rw (le-ltb n 10 large)

-- more places than n has digits change nothing
same_digits : (most more n : ℕ) → n < most → n < more → last_digits most n ≡ last_digits more n
same_digits zero more n a b = absurd (not-suc-le-zero a)
same_digits (suc most) zero n a b = absurd (not-suc-le-zero b)
same_digits (suc most) (suc more) n a b =
    by_order n 10 (λ small. one_digit most n small ∙ sym (one_digit more n small)) (λ large.
    more_digits most n large
    ∙ ap (λ (l : List ℕ). l ++ (digit (n % 10) ∷ [])) (same_digits most more (n / 10) (omega arith) (omega arith))
    ∙ sym (more_digits more n large))

pub decimal_one : (n : ℕ) → n < 10 → decimal n ≡ digit n ∷ []
unfolding decimal
decimal_one n small = one_digit n n small

pub decimal_more : (n : ℕ) → 10 ≤ n → decimal n ≡ decimal (n / 10) ++ (digit (n % 10) ∷ [])
unfolding decimal
decimal_more n large =
    more_digits n n large
    ∙ ap (λ (l : List ℕ). l ++ (digit (n % 10) ∷ [])) (same_digits n (suc (n / 10)) (n / 10) (omega arith) (omega arith))

pub decimal_within : (k n : ℕ) → n < 10 ^ suc k → length (decimal n) ≤ suc k
decimal_within zero n below = omega (arith, ap length (decimal_one n (omega arith)))
decimal_within (suc k) n below =
    by_order n 10 (λ small. omega (arith, ap length (decimal_one n small))) (λ large.
    let tenth : n / 10 < 10 ^ suc k = omega (arith, pow-suc 10 (suc k)) in
    omega
    (arith, ap length (decimal_more n large), length-append (decimal (n / 10)) (digit (n % 10) ∷ []), decimal_within k (n / 10) tenth))

-- writing a number of one digit
module _ {n : ℕ} (small : n < 10) {before : Text} where
  pub digit_room : Room before (decimal n) → Room before (digit n ∷ [])
  digit_room room = rw (decimal_one n small) at room

  pub wrote_digit : {after : Text} → Wrote before (digit n ∷ []) after → Wrote before (decimal n) after
  wrote_digit w = rw (decimal_one n small) w

-- writing one of more digits
module _ {n : ℕ} (large : 10 ≤ n) {before : Text} where
  pub tenth_room : Room before (decimal n) → Room before (decimal (n / 10))
  tenth_room room = room_before _ (rw (decimal_more n large) at room)

  pub last_room : {between : Text} → Room before (decimal n) → Wrote before (decimal (n / 10)) between → Room between (digit (n % 10) ∷ [])
  last_room room w = room_after w (rw (decimal_more n large) at room)

  pub wrote_last : {between after : Text} → Wrote before (decimal (n / 10)) between → Wrote between (digit (n % 10) ∷ []) after
      → Wrote before (decimal n) after
  wrote_last w v = rw (decimal_more n large) (wrote_then w v)
