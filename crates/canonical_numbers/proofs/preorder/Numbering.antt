-- New numbers from rises: a parent has a lower number than its child, so that it has its new number first.
use Prim.Native.Nat.{ℕ, ◌+◌, ◌≤◌, ◌<◌}
use mathlib.Core.Path.{◌≡◌, sym, ap, ◌∙◌}
use mathlib.Core.List.{List}
use native.Mathlib.Omega.{arith}
use lib.ListN.{length, set, length-set}
use Rattle.indices.specs.Columns.{at}
use Rattle.indices.proofs.Steps.{set_elim}
use Rattle.run_arrays.specs.Sections.{most_regions}
use Rattle.procedure.specs.Division.{Division, regions, parent}
use Rattle.canonical_form.specs.Numbering.{new_number, rise}
use Rattle.canonical_form.proofs.Numbering.{new_in, new_root}
use Rattle.canonical_form.proofs.Preorder.{preorder}
use Rattle.canonical_numbers.specs.Numbers.{ParentsLaid, Risen, Numbers}

-- the regions below r have their new numbers, the others their rises
pub record Numbering (d : Division) (numbers : List ℕ) (r : ℕ) : Type 0 where
  pub begun : 0 < r
  pub all : length numbers ≡ regions d
  pub numbered : (c : ℕ) → c < r → c < regions d → at numbers c ≡ new_number d c
  pub rest : (c : ℕ) → r ≤ c → c < regions d → at numbers c ≡ rise d c

-- what the code asks at region r
pub record NumberingBounds (parents numbers : List ℕ) (r : ℕ) : Type 0 where
  pub in_numbers : r < length numbers
  pub in_parents : at parents r < length numbers
  pub few : length numbers ≤ most_regions
  pub own : at numbers r ≤ most_regions
  pub above : at numbers (at parents r) ≤ most_regions

module _ {d : Division} {parents : List ℕ} (L : ParentsLaid d parents) where
  pub numbering_begins : {rises : List ℕ} → Risen d rises → Numbering d (set rises 0 0) 1
  numbering_begins {rises} R =
      let some = L.proper.some in
      let long = R.all in
      record {
        begun = omega arith;
        all = simp length-set long;
        numbered =
            λ c l lc.
            let e : c ≡ 0 = omega arith in
            set_elim (λ x. x ≡ new_number d c) rises 0 c 0 0 (omega arith) (λ w. sym (ap (new_number d) w ∙ new_root d L.proper)) (λ ne. absurd (ne e));
        rest = λ c l lc. set_elim (λ x. x ≡ rise d c) rises 0 c 0 0 (omega arith) (λ w. absurd (omega arith)) (λ _. R.same c (omega arith) lc);
      }

  pub numbering_ends : {numbers : List ℕ} {r : ℕ} → Numbering d numbers r → length parents ≤ r → Numbers d numbers
  numbering_ends N l = record { all = N.all; same = λ c lc. N.numbered c (omega (arith, L.column.all)) lc }

  -- AT REGION r
  module _ {numbers : List ℕ} {r : ℕ} (N : Numbering d numbers r) (l : r < length parents) where
    inside : r < regions d
    inside = omega (arith, L.column.all)

    parent_number : at numbers (at parents r) ≡ new_number d (parent d r)
    parent_number =
        let down = L.proper.lower r N.begun inside in
        ap (at numbers) (L.column.same r N.begun inside) ∙ N.numbered (parent d r) down (omega (arith, inside))

    own_number : at numbers r + at numbers (at parents r) ≡ new_number d r
    unfolding rise
    own_number = omega (arith, N.rest r (omega arith) inside, parent_number, (preorder d L.proper).step r N.begun inside)

    pub numbering_bounds : NumberingBounds parents numbers r
    numbering_bounds =
        let up = L.column.same r N.begun inside in
        let down = L.proper.lower r N.begun inside in
        let here = inside in
        let few = L.few in
        let all = N.all in
        let number = own_number in
        let low = new_in d L.proper r inside in
        record { in_numbers = omega arith; in_parents = omega arith; few = omega arith; own = omega arith; above = omega arith }

    pub numbering_on : Numbering d (set numbers r (at numbers r + at numbers (at parents r))) (r + 1)
    numbering_on = record {
      begun = omega arith;
      all = simp length-set N.all;
      numbered =
          λ c k lc.
          set_elim (λ x. x ≡ new_number d c) numbers r c _ 0 (omega (arith, N.all, inside)) (λ e. own_number ∙ ap (new_number d) (sym e))
          (λ ne. N.numbered c (omega arith) lc);
      rest =
          λ c k lc.
          set_elim (λ x. x ≡ rise d c) numbers r c _ 0 (omega (arith, N.all, inside)) (λ e. absurd (omega arith)) (λ ne. N.rest c (omega arith) lc);
    }
