-- Sizes from the last region back: each region hands its size to its parent once all its children, whose numbers are higher, have handed theirs.
use Prim.Native.Nat.{ℕ, ◌+◌, ◌-◌, ◌≤◌, ◌<◌}
use mathlib.Core.Path.{◌≡◌, sym, ◌∙◌}
use mathlib.Core.Logic.{◌≢◌}
use mathlib.Core.List.{List}
use native.Mathlib.Omega.{arith}
use borrow.Author.Tests.{lt-ltb, le-ltb}
use lib.ListN.{length, set, replicate}
use lib.Dec.{ltb}
use Rattle.indices.specs.Columns.{at}
use Rattle.indices.proofs.Steps.{by_order}
use Rattle.run_arrays.specs.Sections.{most_regions}
use Rattle.procedure.specs.Division.{Division, regions, parent}
use Rattle.procedure.proofs.Children.{child_later, child_parent}
use Rattle.canonical_form.specs.Numbering.{size}
use Rattle.canonical_numbers.specs.Numbers.{ParentsLaid, SizesFound, Counted}
use Rattle.canonical_numbers.proofs.preorder.Counted.{counted_none, counted_all, counted_more, counted_fits}

-- the regions above r have handed their sizes up
pub record Sizing (d : Division) (sizes : List ℕ) (r : ℕ) : Type 0 where
  pub within : r < regions d
  pub counted : Counted d (ltb r) sizes

-- what the code asks at region r
pub record SizingBounds (parents sizes : List ℕ) (r : ℕ) : Type 0 where
  pub few : length sizes ≤ most_regions
  pub inside : r < length parents
  pub sized : r < length sizes
  pub parent_sized : at parents r < length sizes
  pub fits : at sizes (at parents r) + at sizes r ≤ most_regions

module _ {d : Division} {parents : List ℕ} (L : ParentsLaid d parents) where
  pub sizing_begins : {sizes : List ℕ} {n : ℕ} → n ≡ regions d → sizes ≡ replicate n 1 → Sizing d sizes (length parents - 1)
  sizing_begins e ones =
      let some = L.proper.some in
      let all = L.column.all in
      record { within = omega arith; counted = counted_none d (ltb (length parents - 1)) (λ c l. le-ltb (length parents - 1) c (omega arith)) e ones }

  module _ {sizes : List ℕ} {r : ℕ} (S : Sizing d sizes r) where
    pub sizing_ends : r ≤ 0 → SizesFound d sizes
    sizing_ends z = record {
      all = S.counted.all;
      same = λ q l. counted_all S.counted L.proper q l (λ c _ child. let later = child_later d q c child in lt-ltb r c (omega arith));
    }

    module _ (pos : 0 < r) where
      -- a region's children have higher numbers, so all of them have handed their sizes up
      own_size : at sizes r ≡ size d r
      own_size =
          counted_all S.counted L.proper r S.within
          (λ c l child. lt-ltb r c (omega (arith, L.proper.lower c (child_later d r c child) l, child_parent d r c child)))

      others : (c : ℕ) → 0 < c → c < regions d → c ≢ r → ltb (r - 1) c ≡ ltb r c
      others c _ _ ne =
          by_order r c (λ l. lt-ltb (r - 1) c (omega arith) ∙ sym (lt-ltb r c l)) (λ l. le-ltb (r - 1) c (omega arith) ∙ sym (le-ltb r c l))

      pub sizing_bounds : SizingBounds parents sizes r
      sizing_bounds =
          let up = L.column.same r pos S.within in
          let low = L.proper.lower r pos S.within in
          let within = S.within in
          let all = L.column.all in
          let sized = S.counted.all in
          let few = L.few in
          record {
            few = omega arith;
            inside = omega arith;
            sized = omega arith;
            parent_sized = omega arith;
            fits =
                rw (up, own_size)
                (omega (
                  arith,
                  counted_fits L.proper S.counted pos within (le-ltb r r (omega arith)) (lt-ltb (r - 1) r (omega arith)) others,
                ));
          }

      pub sizing_on : (p : ℕ) → p ≡ parent d r → Sizing d (set sizes p (at sizes p + at sizes r)) (r - 1)
      sizing_on p e = rw (e, own_size) (record {
        within = omega (arith, S.within);
        counted = counted_more L.proper S.counted pos S.within (le-ltb r r (omega arith)) (lt-ltb (r - 1) r (omega arith)) others;
      })
