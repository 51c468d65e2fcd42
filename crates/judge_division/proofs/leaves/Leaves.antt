-- The leaves of each arc number: refusal 12 does not apply where each of the arcs has one and no number beyond them has any.
use Prim.Native.Nat.{ℕ, ◌<◌, ◌≤◌}
use mathlib.Core.Bool.{Bool, true, false, not, or-true}
use mathlib.Core.List.{List}
use mathlib.Core.Path.{◌≡◌, refl, sym, ◌∙◌}
use borrow.Author.Tests.{eqb-true, eqb-false, eq-eqb, ne_eqb, lt-ltb, le-ltb, le-leb, lt-leb, not-true, not-false}
use native.Mathlib.Omega.{arith}
use mir.Val.{bool_byte}
use lib.Dec.{ltb, eqb}
use Rattle.indices.specs.Tests.{any, count}
use Rattle.indices.proofs.Steps.{by_order, by_truth}
use Rattle.indices.proofs.Tests.{and_left, and_right, any_at, any_hit, any_found, any_false, count_hit, count_some}
use Rattle.sheet.specs.Words.{words}
use Rattle.sheet.specs.Regions.{leaf_word, arc_word}
use Rattle.judgement.specs.Division.{no_such_arc, leaf_of_arc, not_one_leaf, wrong_leaves}
use Rattle.judge_division.proofs.leaves.Counted.{leaf_counts}

module _ (d : List ℕ) where
  -- an arc's number has 11 bits
  arc_below : (k : ℕ) → arc_word d k < 2048
  unfolding arc_word
  arc_below k = omega arith

  module _ (arcs : ℕ) where
    -- how many leaves number a should have, and that it has another count of them
    abbrev pub wanted : ℕ → ℕ
    wanted a = bool_byte (ltb a arcs)

    abbrev pub wrong_count : ℕ → Bool
    wrong_count a = not (eqb (count (leaf_of_arc d a) (words d)) (wanted a))

    one_wanted : (a : ℕ) → a < arcs → wanted a ≡ 1
    one_wanted a l = rw (lt-ltb a arcs l)

    none_wanted : (a : ℕ) → arcs ≤ a → wanted a ≡ 0
    none_wanted a l = rw (le-ltb a arcs l)

    -- a leaf for a number beyond the arcs
    beyond : (k a : ℕ) → arcs ≤ a → leaf_of_arc d a k ≡ true → no_such_arc d arcs k ≡ true
    beyond k a l h =
        let leaf : leaf_word d k ≡ true = and_left (leaf_word d k) (eqb (arc_word d k) a) h in
        let arc : arc_word d k ≡ a = eqb-true (arc_word d k) a (and_right (leaf_word d k) (eqb (arc_word d k) a) h) in
        rw leaf (le-leb arcs (arc_word d k) (omega arith))

    -- one wrong count is enough for refusal 12
    one_wrong : (a : ℕ) → (count (leaf_of_arc d a) (words d) ≡ wanted a → ⊥) → wrong_leaves d arcs ≡ true
    unfolding wrong_leaves
    one_wrong a ne =
        by_order a arcs
        (λ l.
        let wrong : not_one_leaf d a ≡ true = rw (ne_eqb (count (leaf_of_arc d a) (words d)) 1 (λ e. ne (e ∙ sym (one_wanted a l)))) in
        rw (any_hit (not_one_leaf d) a arcs l wrong, or-true))
        (λ l.
        let some : (k : ℕ) × (k < words d) × (leaf_of_arc d a k ≡ true) =
        count_some (leaf_of_arc d a) (words d) (not_zero (λ e. ne (e ∙ sym (none_wanted a l)))) in
        rw (any_hit (no_such_arc d arcs) some.0 (words d) some.1 (beyond some.0 a l some.2)))
      where
        not_zero : (count (leaf_of_arc d a) (words d) ≡ 0 → ⊥) → 0 < count (leaf_of_arc d a) (words d)
        not_zero ne = omega arith

    -- none is wrong: refusal 12 does not apply
    none_wrong : any wrong_count 2048 ≡ false → arcs ≤ 2048 → wrong_leaves d arcs ≡ false
    unfolding wrong_leaves
    none_wrong ok few = rw (any_false (no_such_arc d arcs) (words d) there) (any_false (not_one_leaf d) arcs once)
      where
        right : (a : ℕ) → a < 2048 → count (leaf_of_arc d a) (words d) ≡ wanted a
        right a l = eqb-true _ _ (not-false _ (any_at wrong_count 2048 a ok l))

        once : (a : ℕ) → a < arcs → not_one_leaf d a ≡ false
        once a l = rw (eq-eqb (count (leaf_of_arc d a) (words d)) 1 (right a (omega arith) ∙ one_wanted a l))

        there : (k : ℕ) → k < words d → no_such_arc d arcs k ≡ false
        there k l =
            by_truth (leaf_word d k)
            (λ leaf. rw leaf (by_order (arc_word d k) arcs (λ lt. lt-leb arcs (arc_word d k) lt)
            (λ le. absurd (omega (
              arith,
              count_hit (leaf_of_arc d (arc_word d k)) k (words d) l (leaf_counts d k (arc_word d k) leaf refl),
              right (arc_word d k) (arc_below k),
              none_wanted (arc_word d k) le,
            )))))
            (λ inner. rw inner)

    -- the counts decide
    pub counts_decide : arcs ≤ 2048 → any wrong_count 2048 ≡ wrong_leaves d arcs
    counts_decide few =
        by_truth (any wrong_count 2048)
        (λ e.
        let some : (a : ℕ) × (a < 2048) × (wrong_count a ≡ true) = any_found wrong_count 2048 e in
        e ∙ sym (one_wrong some.0 (eqb-false _ _ (not-true _ some.2))))
        (λ e. e ∙ sym (none_wrong e few))
