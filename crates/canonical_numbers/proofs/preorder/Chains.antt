-- The regions that hold a leaf lie one above the other, and a region's lowest arc is no higher than that of a region it holds.
use Prim.Native.Nat.{ℕ, suc, ◌+◌, ◌-◌, ◌≤◌, ◌<◌}
use mathlib.Core.Bool.{true}
use mathlib.Core.Path.{◌≡◌, sym, ap, ◌∙◌}
use native.Mathlib.Omega.{arith}
use Rattle.indices.proofs.Steps.{by_order}
use Rattle.procedure.specs.Division.{Division, regions, parent}
use Rattle.canonical_form.specs.Numbering.{above, ancestor, holds, lowest_arc}
use Rattle.canonical_form.specs.Inner.{Proper}
use Rattle.canonical_form.proofs.Numbering.{above_parent, ancestor_add, ancestor_le, holds_ancestor, held_below, lowest_leaf, lowest_le}

module _ (d : Division) (P : Proper d) where
  holds_through : (r q s : ℕ) → s < regions d → holds d r q ≡ true → holds d q s ≡ true → holds d r s ≡ true
  holds_through r q s l h g =
      let k = held_below d P r q h in
      let j = held_below d P q s g in
      holds_ancestor d P (j.0 + k.0) r s l (ancestor_add d j.0 k.0 s ∙ ap (ancestor d k.0) j.1 ∙ k.1)

  pub lowest_falls : (r q : ℕ) → 0 < q → q < regions d → holds d r q ≡ true → lowest_arc d r ≤ lowest_arc d q
  lowest_falls r q pos l h =
      let w = lowest_leaf d P q pos l in
      omega (arith, lowest_le d P r w.0 w.1 (holds_through r q w.0 w.1 h w.4), w.2)

  -- of two regions that hold s, the one with the lower number holds the other's parent
  pub lower_holds_parent : (c r s : ℕ) → s < regions d → 0 < r → r < regions d → holds d c s ≡ true → holds d r s ≡ true → c < r
      → holds d c (parent d r) ≡ true
  unfolding ancestor
  lower_holds_parent c r s l pos lr hc hr lower =
      let k = held_below d P r s hr in
      let j = held_below d P c s hc in
      by_level k.0 j.0 k.1 j.1
    where
      by_level : (k j : ℕ) → ancestor d k s ≡ r → ancestor d j s ≡ c → holds d c (parent d r) ≡ true
      by_level k j er ec =
          by_order k j
          (λ m.
          let i = j - suc k in
          let e : k + suc i ≡ j = omega arith in
          holds_ancestor d P i c (parent d r) (omega (arith, P.lower r pos lr))
          (ap (ancestor d i) (sym (above_parent d r pos))
          ∙ ap (λ (q : ℕ). ancestor d i (above d q)) (sym er)
          ∙ sym (ancestor_add d k (suc i) s)
          ∙ ap (λ (n : ℕ). ancestor d n s) e
          ∙ ec))
          (λ m.
          let i = k - j in
          let e : j + i ≡ k = omega arith in
          let up : ancestor d i c ≡ r = ap (ancestor d i) (sym ec) ∙ sym (ancestor_add d j i s) ∙ ap (λ (n : ℕ). ancestor d n s) e ∙ er in
          absurd (omega (arith, ancestor_le d P i c (omega arith))))
