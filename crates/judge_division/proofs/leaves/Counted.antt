-- How a word changes the counters of leaves: by one at its arc's number if it is a leaf, and else not at all.
use Prim.Native.Nat.{ℕ, ◌+◌, ◌<◌}
use mathlib.Core.Bool.{Bool, true, false, and-false}
use mathlib.Core.List.{List}
use mathlib.Core.Path.{◌≡◌, sym, ◌∙◌}
use borrow.Author.Tests.{eq-eqb, ne_eqb}
use native.Mathlib.Nat.{add-zero}
use native.Mathlib.Omega.{arith}
use mir.Val.{bool_byte}
use lib.ListN.{length, get_or, set}
use Rattle.std.proofs.lemmas.List.{set-get_or}
use Rattle.indices.proofs.Tally.{Tally, tally_in, tally_out}
use Rattle.indices.proofs.Tests.{count_le}
use Rattle.sheet.specs.Regions.{leaf_word, arc_word}
use Rattle.judgement.specs.Division.{leaf_of_arc}

module _ (d : List ℕ) where
  -- a leaf counts for its arc and for no other, and any other word for none
  pub leaf_counts : (k i : ℕ) → leaf_word d k ≡ true → i ≡ arc_word d k → leaf_of_arc d i k ≡ true
  leaf_counts k i leaf e = rw leaf (eq-eqb (arc_word d k) i (sym e))

  counts_for_one : (k i v : ℕ) → i ≡ arc_word d k → (v ≡ i → ⊥) → leaf_of_arc d v k ≡ false
  counts_for_one k i v e ne = rw (ne_eqb (arc_word d k) v (λ h. ne (sym h ∙ sym e)), and-false)

  counts_for_none : (k v : ℕ) → leaf_word d k ≡ false → leaf_of_arc d v k ≡ false
  counts_for_none k v inner = rw inner

  -- the counters tell of the words before word k, which are fewer than top
  module _ {top : ℕ} {seen : List ℕ} {k : ℕ} (t : Tally (leaf_of_arc d) top seen k) (few : k < top) (i : ℕ) (inside : i < length seen) where
    -- so that a counter has room
    pub room : get_or seen i 0 < top
    room = omega (arith, t.counts i inside, count_le (leaf_of_arc d i) k)

    -- word k adds 1 to the counter of its arc's number if it is a leaf, and else 0
    pub word_counted : (leaf : Bool) → leaf ≡ leaf_word d k → i ≡ arc_word d k
        → Tally (leaf_of_arc d) top (set seen i (get_or seen i 0 + bool_byte leaf)) (k + 1)
    word_counted true el e = tally_in (leaf_of_arc d) top seen k t i inside (leaf_counts k i (sym el) e) (λ v. counts_for_one k i v e) room
    word_counted false el e =
        rw (add-zero (get_or seen i 0), set-get_or seen i 0) (tally_out (leaf_of_arc d) top seen k t (λ v. counts_for_none k v (sym el)))
