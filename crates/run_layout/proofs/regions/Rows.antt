-- A region's parent fits its entry; and what is entered as a region's arc.
use Prim.Native.Nat.{ℕ, zero, suc, ◌-◌, ◌<◌}
use mathlib.Core.Bool.{true, false, true≢false}
use mathlib.Core.Path.{◌≡◌, refl, sym}
use mathlib.Core.List.{List}
use native.Mathlib.Omega.{arith}
use Rattle.sheet.specs.Words.{words}
use Rattle.sheet.specs.Regions.{arc_word, parent_word, is_leaf, leaf_arc}
use Rattle.run_arrays.specs.Fixed.{no_arc}
use Rattle.run_layout.specs.Regions.{Nested, arc_entered}

-- a parent is a region, so that 16 bits hold it
pub parent_fits : {d : List ℕ} → Nested d → (k : ℕ) → k < words d → parent_word d k < 65536
parent_fits ok k l = omega (arith, ok.nesting.lower (suc k) (omega arith) (omega arith), ok.few)

-- ARCS

-- a leaf is not region 0
pub leaf_positive : (d : List ℕ) (r : ℕ) → is_leaf d r ≡ true → 0 < r
leaf_positive d zero leaf = absurd (true≢false (sym leaf))
leaf_positive d (suc k) leaf = omega arith

-- the arc of its word is entered, which is its arc
pub leaf_arc_entered : (d : List ℕ) (r : ℕ) → is_leaf d r ≡ true → (arc_entered d r ≡ arc_word d (r - 1)) × (arc_entered d r ≡ leaf_arc d r)
leaf_arc_entered d zero leaf = absurd (true≢false (sym leaf))
leaf_arc_entered d (suc k) leaf = let back : suc k - 1 ≡ k = omega arith in rw (back, leaf) (refl, refl)

-- for an inner region none is
pub inner_arc_entered : (d : List ℕ) (r : ℕ) → is_leaf d r ≡ false → arc_entered d r ≡ no_arc
inner_arc_entered d zero inner = refl
inner_arc_entered d (suc k) inner = rw inner
