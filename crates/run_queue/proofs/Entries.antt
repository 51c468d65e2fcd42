-- An entry, a key above a rank, and a rank, a height above a region's number: a height and a number have 16 bits each, so that all are found in it again, and
-- the lower of two entries is that of the item chosen first.
use Prim.Native.Nat.{ℕ, ◌≤◌, ◌<◌}
use mathlib.Core.Bool.{false}
use mathlib.Core.Path.{◌≡◌, sym}
use mathlib.Core.Logic.{inl, inr}
use mathlib.Core.List.{List}
use native.Mathlib.Omega.{arith}
use Rattle.indices.specs.Columns.{at}
use Rattle.indices.proofs.Steps.{by_equal}
use Rattle.sheet.proofs.Heights.{height_most}
use Rattle.procedure.specs.Division.{Division, regions, parent, is_leaf, height}
use Rattle.procedure.specs.Queues.{before}
use Rattle.procedure.proofs.Order.{not_before}
use Rattle.run_arrays.specs.Trees.{height_step, entry_key, entry_rank, entry_region, rank, entry, Numbered}

module _ {d : Division} (N : Numbered d) where
  -- no height is above the number of regions
  pub height_fits : (c : ℕ) → height d c < height_step
  height_fits c = omega (arith, N.few, height_most (is_leaf d) (parent d) (regions d) c)

  -- an entry taken apart
  module _ (keys : List ℕ) (c : ℕ) (inside : c < regions d) {e : ℕ} (is : e ≡ entry d keys c) where
    pub key_in : entry_key e ≡ at keys c
    key_in = omega (arith, N.few, height_fits c)

    pub rank_in : entry_rank e ≡ rank d c
    rank_in = omega (arith, N.few, height_fits c)

    pub region_in : entry_region e ≡ c
    region_in = omega (arith, N.few, rank_in)

  -- an item whose entry is no lower is not chosen before
  pub entry_behind : (keys : List ℕ) (a b : ℕ) → a < regions d → b < regions d → entry d keys b ≤ entry d keys a → before d keys a b ≡ false
  entry_behind keys a b la lb l =
      let few = N.few in
      let ha = height_fits a in
      let hb = height_fits b in
      not_before d keys a b
      (by_equal (at keys a) (at keys b)
      (λ e. inr (sym e, by_equal (height d a) (height d b) (λ f. inr (sym f, omega arith)) (λ n. inl (omega arith))))
      (λ n. inl (omega arith)))
