-- Where trees lie and children stand, by counting: trees do not overlap, and each place from the number of children on is one child's.
use Prim.Native.Nat.{ℕ, zero, suc, ◌+◌, ◌*◌, ◌-◌, ◌≤◌, ◌<◌}
use mathlib.Core.Bool.{Bool, true, false, cond, ◌&&◌, and-false}
use mathlib.Core.Path.{◌≡◌, refl}
use mathlib.Core.Logic.{◌≢◌}
use native.Mathlib.Omega.{arith}
use borrow.Author.Tests.{lt-ltb, le-ltb, eq-eqb, ne_eqb}
use lib.Dec.{ltb, eqb}
use Rattle.indices.specs.Tests.{count}
use Rattle.indices.proofs.Tests.{count_in_lem, count_out_all, count_mono, count_le, count_some, count_nth}
use Rattle.indices.proofs.Totals.{count_sum}
use Rattle.indices.proofs.Steps.{by_order, by_equal}
use Rattle.procedure.specs.Division.{Division, regions, parent, is_child}
use Rattle.procedure.proofs.Children.{child_later, child_parent, is_child_lem}
use Rattle.theory.proofs.Chosen.{Child}
use Rattle.run_arrays.specs.Trees.{child_count, lower_siblings, under_below, tree_start, seat}

module _ (d : Division) where
  pub child_passes : {r c : ℕ} → Child d r c → is_child d r c ≡ true
  child_passes {r} {c} h = is_child_lem d r c h.positive h.under

  passes_child : (r c : ℕ) → c < regions d → is_child d r c ≡ true → Child d r c
  passes_child r c l e = record { in_range = l; positive = child_later d r c e; under = child_parent d r c e }

  pub other_fails : (r c : ℕ) → parent d c ≢ r → is_child d r c ≡ false
  other_fails r c n = rw (ne_eqb (parent d c) r n) (and-false (ltb 0 c))

  -- the tree of the next region begins where this one's ends
  pub start_next : (r : ℕ) → tree_start d (suc r) ≡ tree_start d r + 2 * child_count d r
  unfolding tree_start child_count
  start_next r = omega (arith, count_sum (under_below d r) (is_child d r) (under_below d (suc r)) (regions d) (λ c _. split (ltb 0 c) (parent d c)))
    where
      split : (b : Bool) (p : ℕ) → cond (b && ltb p (suc r)) 1 0 ≡ cond (b && ltb p r) 1 0 + cond (b && eqb p r) 1 0
      split false p = refl
      split true p =
          by_order p r (λ l. rw (lt-ltb p (suc r) (omega arith), lt-ltb p r l, ne_eqb p r (omega arith)))
          (λ l.
          by_equal p r (λ e. rw (lt-ltb p (suc r) (omega arith), le-ltb p r l, eq-eqb p r e))
          (λ n. rw (le-ltb p (suc r) (omega arith), le-ltb p r l, ne_eqb p r n)))

  -- the first tree begins at 0
  pub start_first : tree_start d 0 ≡ 0
  unfolding tree_start
  start_first = omega (arith, count_out_all (under_below d 0) (regions d) (λ c l. rw (le-ltb (parent d c) 0 (omega arith)) (and-false (ltb 0 c))))

  -- two places a region are enough for all trees
  pub tree_room : (r : ℕ) → tree_start d r + 2 * child_count d r ≤ 2 * regions d
  unfolding tree_start
  tree_room r = omega (arith, start_next r, count_le (under_below d (suc r)) (regions d))

  -- no tree reaches into a later one
  pub trees_apart : (r q : ℕ) → r < q → tree_start d r + 2 * child_count d r ≤ tree_start d q
  trees_apart r zero l = absurd (omega arith)
  trees_apart r (suc q) l =
      by_equal r q (λ e. rw e (omega (arith, start_next q))) (λ n. omega (arith, start_next q, trees_apart r q (omega arith)))

  seat_is : {r c : ℕ} → Child d r c → seat d c ≡ child_count d r + count (is_child d r) c
  unfolding seat lower_siblings
  seat_is h = rw h.under

  lower_counted : {r b : ℕ} (c : ℕ) → Child d r b → b < c → count (is_child d r) b < count (is_child d r) c
  lower_counted {r} {b} c h l = omega (arith, count_in_lem (is_child d r) b (child_passes h), count_mono (is_child d r) (b + 1) c (omega arith))

  -- the children stand at the places from their number on
  pub seat_low : {r c : ℕ} → Child d r c → child_count d r ≤ seat d c
  seat_low h = omega (arith, seat_is h)

  pub seat_high : {r c : ℕ} → Child d r c → seat d c < 2 * child_count d r
  unfolding child_count
  seat_high h = omega (arith, seat_is h, lower_counted (regions d) h h.in_range)

  -- two children do not share a place
  pub seat_one : {r b c : ℕ} → Child d r b → Child d r c → seat d b ≡ seat d c → b ≡ c
  seat_one {r} {b} {c} h k e =
      by_order b c (λ l. absurd (omega (arith, seat_is h, seat_is k, lower_counted c h l)))
      (λ l. by_equal b c (λ e. e) (λ n. absurd (omega (arith, seat_is h, seat_is k, lower_counted b k (omega arith)))))

  -- each place from the number of children on is that of a child
  pub place_child : (r p : ℕ) → child_count d r ≤ p → p < 2 * child_count d r → (c : ℕ) × Child d r c × (seat d c ≡ p)
  unfolding child_count
  place_child r p l h =
      let f = count_nth (is_child d r) (regions d) (p - child_count d r) (omega arith) in
      let c = passes_child r f.0 f.1 f.2 in
      (f.0, c, omega (arith, seat_is c, f.3))

  -- a region that has children is one of the regions
  pub parent_in : ((c : ℕ) → 0 < c → c < regions d → parent d c < c) → (r : ℕ) → 0 < child_count d r → r < regions d
  unfolding child_count
  parent_in lower r l =
      let f = count_some (is_child d r) (regions d) l in
      let c = passes_child r f.0 f.1 f.2 in
      omega (arith, lower f.0 c.positive f.1, c.under, f.1)
