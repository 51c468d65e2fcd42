-- The fields of the word of a region are those that it is made of, and a region word is made of its fields.
use Prim.Native.Nat.{ℕ, ◌+◌, ◌*◌, ◌/◌, ◌%◌, ◌<◌}
use mathlib.Core.Bool.{Bool, true, false, cond, ◌||◌}
use mathlib.Core.List.{List}
use mathlib.Core.Path.{◌≡◌, refl}
use borrow.Author.Tests.{eqb-true}
use native.Mathlib.Omega.{arith}
use lib.Dec.{eqb}
use Rattle.indices.proofs.Steps.{by_truth}
use Rattle.sheet.specs.Limits.{arc_numbers, region_numbers}
use Rattle.sheet.specs.Words.{word, kind_of, payload_of, kind, payload}
use Rattle.sheet.specs.Regions.{leaf_word, parent_word, arc_word, region_word}
use Rattle.sheet.proofs.Bytes.{payload_word, kind_word}

module _ (p a : ℕ) (few : p < region_numbers) where
  pub word_kind : (leaf : Bool) → (leaf ≡ true → a < arc_numbers) → kind_of (region_word leaf p a) ≡ cond leaf 7 6
  word_kind true arc = let la = arc refl in kind_word 7 (p * arc_numbers + a) (omega arith)
  word_kind false arc = kind_word 6 p (omega arith)

  pub word_payload : (leaf : Bool) → (leaf ≡ true → a < arc_numbers) → payload_of (region_word leaf p a) ≡ cond leaf (p * arc_numbers + a) p
  word_payload true arc = let la = arc refl in payload_word 7 (p * arc_numbers + a) (omega arith)
  word_payload false arc = payload_word 6 p (omega arith)

  pub payload_parent : (leaf : Bool) → (leaf ≡ true → a < arc_numbers)
      → cond leaf (cond leaf (p * arc_numbers + a) p / arc_numbers % region_numbers) (cond leaf (p * arc_numbers + a) p) ≡ p
  payload_parent true arc = let la = arc refl in omega arith
  payload_parent false arc = refl

  pub payload_arc : a < arc_numbers → (p * arc_numbers + a) % arc_numbers ≡ a
  payload_arc la = omega arith

-- a leaf's word and an inner region's, from their fields
leaf_again : (w : ℕ) → kind_of w ≡ 7 → payload_of w < region_numbers * arc_numbers
    → region_word true (payload_of w / arc_numbers % region_numbers) (payload_of w % arc_numbers) ≡ w
leaf_again w e l = omega arith

inner_again : (w a : ℕ) → kind_of w ≡ 6 → region_word false (payload_of w) a ≡ w
inner_again w a e = omega arith

pub own_fields : (d : List ℕ) (k : ℕ) → eqb (kind d k) 6 || eqb (kind d k) 7 ≡ true → (leaf_word d k ≡ true → payload d k < region_numbers * arc_numbers)
    → region_word (leaf_word d k) (parent_word d k) (arc_word d k) ≡ word d k
unfolding leaf_word parent_word arc_word kind payload
own_fields d k kinds clear =
    let w = word d k in
    by_truth (eqb (kind_of w) 7) (λ e. rw e (leaf_again w (eqb-true (kind_of w) 7 e) (clear e)))
    (λ e. rw e (inner_again w (payload_of w % arc_numbers) (eqb-true (kind_of w) 6 (six (eqb (kind_of w) 6) (rw e at kinds)))))
  where
    six : (b : Bool) → b || false ≡ true → b ≡ true
    six true h = refl
    six false h = h
