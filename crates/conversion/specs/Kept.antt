-- Which of n regions are left when leaves are dropped, and then inner regions left childless: `leaf` says the leaves, `parent` each region's parent, and
-- `keeps` which leaves are not dropped. Definitions.
use Rattle.std.specs.Prelude.{ℕ, zero, suc, Bool, true, false, ◌||◌, eqb, if◌then◌else◌}
use Rattle.indices.specs.Tests.{any}

module _ (leaf : ℕ → Bool) (parent : ℕ → ℕ) (keeps : ℕ → Bool) (n : ℕ) where
  -- some region of those left has r as its parent
  abbrev pub has_child : (ℕ → Bool) → ℕ → Bool
  has_child left r = any (λ c. if eqb (parent c) r then left c else false) n

  -- "drops those arcs and their leaves, drops inner regions other than 0 left childless until none is": what is left once the leaves are dropped, and after k
  -- times that every inner region other than 0 is dropped that was left childless
  unfoldable pub left_after : ℕ → ℕ → Bool
  left_after zero r = if leaf r then keeps r else true
  left_after (suc k) r = if left_after k r then leaf r || eqb r 0 || has_child (left_after k) r else false

  -- "until none is": each time but the last some region is dropped, so n times are enough; that none is left childless then, and that more times change
  -- nothing, is proved (`none_childless` and `no_more_dropped`, crates/conversion/proofs/Kept.antt)
  unfoldable pub left : ℕ → Bool
  left r = left_after n r
