-- What the test of a child says: a number above 0, and its parent.
use Prim.Native.Nat.{ℕ, ◌<◌}
use mathlib.Core.Bool.{true}
use mathlib.Core.Path.{◌≡◌}
use borrow.Author.Tests.{lt-ltb, eq-eqb, ltb-true, eqb-true}
use lib.Dec.{ltb, eqb}
use Rattle.indices.proofs.Tests.{and_left, and_right, and_both}
use Rattle.procedure.specs.Division.{Division, parent, is_child}

module _ (d : Division) (p c : ℕ) where
  pub child_later : is_child d p c ≡ true → 0 < c
  child_later h = ltb-true 0 c (and_left (ltb 0 c) (eqb (parent d c) p) h)

  pub child_parent : is_child d p c ≡ true → parent d c ≡ p
  child_parent h = eqb-true (parent d c) p (and_right (ltb 0 c) (eqb (parent d c) p) h)

  pub is_child_lem : 0 < c → parent d c ≡ p → is_child d p c ≡ true
  is_child_lem pos under = and_both (ltb 0 c) (eqb (parent d c) p) (lt-ltb 0 c pos) (eq-eqb (parent d c) p under)
