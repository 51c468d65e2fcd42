-- Region words to which refusal 11 does not apply are a nesting, so that heights fall from parent to child.
use Prim.Native.Nat.{ℕ, zero, suc, ◌<◌, ◌≤◌}
use mathlib.Core.Bool.{false}
use mathlib.Core.List.{List}
use mathlib.Core.Path.{◌≡◌}
use borrow.Author.Tests.{ltb-false}
use native.Mathlib.Omega.{arith}
use lib.Dec.{ltb}
use Rattle.indices.proofs.Tests.{any_at, or_left, or_right}
use Rattle.sheet.specs.Limits.{most_region_words}
use Rattle.sheet.specs.Words.{words, top}
use Rattle.sheet.specs.Inner.{Nesting}
use Rattle.sheet.specs.Regions.{region_count, parent_word, is_leaf, parent}
use Rattle.judgement.specs.Division.{wrong_parent, wrong_parents}

module _ (d : List ℕ) (ok : wrong_parents d ≡ false) where
  pub parent_le : (k : ℕ) → k < words d → parent_word d k ≤ k
  unfolding wrong_parents
  parent_le k l = ltb-false k (parent_word d k) (or_left (ltb k (parent_word d k)) (is_leaf d (parent_word d k)) (any_at (wrong_parent d) (words d) k ok l))

  pub parent_inner : (k : ℕ) → k < words d → is_leaf d (parent_word d k) ≡ false
  unfolding wrong_parents
  parent_inner k l = or_right (ltb k (parent_word d k)) (is_leaf d (parent_word d k)) (any_at (wrong_parent d) (words d) k ok l)

  -- regions so few that none has the number that stands for no parent
  pub nesting : words d ≤ most_region_words → Nesting (is_leaf d) (parent d) (region_count d)
  unfolding top
  nesting few = record { root = omega arith; alone = omega arith; lower = lower; inner = inner }
    where
      lower : (r : ℕ) → 0 < r → r < region_count d → parent d r < r
      lower zero pos l = absurd (omega arith)
      lower (suc k) pos l = omega (arith, parent_le k (omega arith))

      inner : (r : ℕ) → 0 < r → r < region_count d → is_leaf d (parent d r) ≡ false
      inner zero pos l = absurd (omega arith)
      inner (suc k) pos l = parent_inner k (omega arith)
