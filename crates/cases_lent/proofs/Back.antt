-- What a look from the last one back passes: the laws of the loop.
use Rattle.std.proofs.Common.{ℕ, ◌≡◌, ◌+◌, ◌-◌, ◌≤◌, ◌<◌, Bool, true, false, not, List, length, get_or, if◌then◌else◌, add-one, arith, sym, ◌∙◌}
use Rattle.std.proofs.lemmas.List.{get_or_default}
use Rattle.cases_lent.specs.Used.{used_below}

module _ {A : Type 0} (same : A → A → Bool) (f : A) (lent : List A) (n : ℕ) where
  pub none_used : n ≤ 0 → 0 ≡ used_below same f lent n
  unfolding used_below
  none_used none = let e : n ≡ 0 = omega arith in rw (e, used_below)

  -- the last of the first n is looked at
  last_tested : (k : ℕ) {x y : A} → n ≡ k + 1 → x ≡ get_or lent k x → y ≡ f → k < length lent
      → used_below same f lent n ≡ (if same x y then used_below same f lent k else n)
  unfolding used_below
  last_tested k {x} more read filled within =
      let e : get_or lent k f ≡ x = get_or_default lent k f x within ∙ sym read in
      rw (more, add-one, used_below, filled, e)

  module _ {x y : A} (read : x ≡ get_or lent (n - 1) x) (filled : y ≡ f) (some : 0 < n) (within : n ≤ length lent) where
    tested : used_below same f lent n ≡ (if same x y then used_below same f lent (n - 1) else n)
    tested = last_tested (n - 1) (omega arith) read filled (omega arith)

    -- one that is another: it is the last one used
    pub last_used : true ≡ not (same x y) → n - 1 + 1 ≡ used_below same f lent n
    last_used e = grind (arith, tested)

    -- one that holds the filling: as many are used of those before it
    pub last_unused : false ≡ not (same x y) → used_below same f lent (n - 1) ≡ used_below same f lent n
    last_unused e = grind (arith, tested)
