-- New numbers that are entered one after the other, and what an entry tells of its index.
use Rattle.std.specs.Prelude.{if◌then◌else◌}
use Prim.Native.Nat.{ℕ, ◌+◌, ◌<◌}
use mathlib.Core.Bool.{Bool, true, false, not}
use mathlib.Core.Path.{◌≡◌, sym, ap, ◌∙◌}
use mathlib.Core.List.{List}
use borrow.Author.Tests.{eq-eqb, ne_eqb}
use native.Mathlib.Omega.{arith}
use mir.Val.{bool_byte}
use lib.ListN.{length, set, length-set}
use lib.Dec.{eqb}
use Rattle.indices.specs.Tests.{count}
use Rattle.indices.proofs.Steps.{by_truth}
use Rattle.indices.proofs.Tests.{count_none, count_le}
use Rattle.indices.proofs.Entries.{entered_none, entered_more}
use Rattle.indices.proofs.Selected.{number_next}
use Rattle.conversion.specs.Inner.{Numbers}
use Rattle.conversion_numbers.specs.Numbers.{dropped, number_of}

-- AN ENTRY
pub number_kept : (kept : ℕ → Bool) (i : ℕ) → kept i ≡ true → number_of kept i ≡ count kept i
unfolding number_of
number_kept kept i e = rw e

number_dropped : (kept : ℕ → Bool) (i : ℕ) → kept i ≡ false → number_of kept i ≡ dropped
unfolding number_of
number_dropped kept i e = rw e

-- a number is below `dropped`, so that the entry tells whether its index is kept
pub number_tells : (kept : ℕ → Bool) (i x : ℕ) → i < dropped → x ≡ number_of kept i → not (eqb x dropped) ≡ kept i
number_tells kept i x low e =
    by_truth (kept i)
    (λ k. ap not (ne_eqb x dropped (λ same. omega (arith, number_kept kept i k, count_le kept i))) ∙ sym k)
    (λ k. ap not (eq-eqb x dropped (e ∙ number_dropped kept i k)) ∙ sym k)

-- THE LOOP: the indices before i have their entries in a list of so many, and `next` is the number of i
pub record Numbering (kept : ℕ → Bool) (size : ℕ) (numbers : List ℕ) (i next : ℕ) : Type 0 where
  pub long : length numbers ≡ size
  pub number : next ≡ count kept i
  pub entries : Numbers (number_of kept) numbers i

pub numbering_none : (kept : ℕ → Bool) {size : ℕ} {numbers : List ℕ} → length numbers ≡ size → Numbering kept size numbers 0 0
numbering_none kept {numbers = numbers} long =
    record { long = long; number = sym (count_none kept); entries = entered_none (λ i. i) (number_of kept) numbers }

module _ {kept : ℕ → Bool} {size : ℕ} {numbers : List ℕ} {i next : ℕ} (N : Numbering kept size numbers i next) where
  pub numbering_more : (k : Bool) (x : ℕ) → i < size → k ≡ kept i → x ≡ (if k then next else dropped)
      → Numbering kept size (set numbers i x) (i + 1) (next + bool_byte k)
  unfolding number_of
  numbering_more k x inside is entry = record {
    long = length-set numbers i x ∙ N.long;
    number = omega (arith, N.number, number_next kept i k is);
    entries = entered_more x (λ j l. omega arith) (omega (arith, N.long)) (entry ∙ rw (is, N.number)) N.entries;
  }
