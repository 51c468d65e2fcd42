-- The canonical numbering of a division's regions: parent first, depth first, children in the order of the lowest arc they hold. Definitions.
use Rattle.std.specs.Prelude.{ℕ, zero, suc, ◌+◌, ◌<◌, Bool, true, false, not, cond, ◌&&◌, ◌||◌, ◌≡◌, List, [], ◌∷◌, ◌++◌, ltb, eqb, if◌then◌else◌}
use Rattle.indices.specs.Tests.{any, count, lead, least, total}
use Rattle.sheet.specs.Words.{top}
use Rattle.procedure.specs.Division.{Division, regions, parent, arc_of, is_child}

-- the order of a dictionary: the first entries that differ decide, and a list comes before those that go on from it
unfoldable pub sooner : List ℕ → List ℕ → Bool
sooner [] [] = false
sooner [] (y ∷ ys) = true
sooner (x ∷ xs) [] = false
sooner (x ∷ xs) (y ∷ ys) = ltb x y || (eqb x y && sooner xs ys)

module _ (d : Division) where
  -- the region that holds r directly; region 0 stays
  abbrev pub above : ℕ → ℕ
  above r = cond (ltb 0 r) (parent d r) 0

  -- the region k levels above r
  unfoldable pub ancestor : ℕ → ℕ → ℕ
  ancestor zero r = r
  ancestor (suc k) r = ancestor k (above r)

  -- region r holds region s: it is s, or lies above it
  unfoldable pub holds : ℕ → ℕ → Bool
  holds r s = any (λ k. eqb (ancestor k s) r) (regions d)

  -- how many regions r holds, itself included
  unfoldable pub size : ℕ → ℕ
  size r = count (holds r) (regions d)

  -- "the lowest arc number they hold": of the leaves that r holds; `arc_of` is `top` for an inner region
  unfoldable pub lowest_arc : ℕ → ℕ
  lowest_arc r = least top (λ s. cond (holds r s) (arc_of d s) top) (regions d)

  -- the way down from region 0 to r: the lowest arc of each region on it. The first argument bounds its length: r is enough.
  unfoldable pub path_for : ℕ → ℕ → List ℕ
  path_for zero r = []
  path_for (suc n) r = let way = path_for n (parent d r) ++ (lowest_arc r ∷ []) in if ltb 0 r then way else []

  unfoldable pub path : ℕ → List ℕ
  path r = path_for r r

  -- "regions numbered parent first and depth first from region 0, children in order of the lowest arc number they hold": the new number of r is how
  -- many regions come before it in the dictionary of their ways down from region 0
  unfoldable pub new_number : ℕ → ℕ
  new_number r = count (λ s. sooner (path s) (path r)) (regions d)

  -- the region whose new number is k
  unfoldable pub old_number : ℕ → ℕ
  old_number k = lead (λ r. not (eqb (new_number r) k)) (regions d)

  -- the children of c's parent that hold a lower arc than c
  abbrev pub earlier_sibling : ℕ → ℕ → Bool
  earlier_sibling c s = is_child d (parent d c) s && ltb (lowest_arc s) (lowest_arc c)

  -- the sizes of the regions that pass a test, added up
  abbrev pub sizes_of : (ℕ → Bool) → ℕ
  sizes_of test = total (λ s. cond (test s) (size s) 0) (regions d)

  -- how far a region's number is above its parent's: its earlier siblings stand between, each with all that it holds
  unfoldable pub rise : ℕ → ℕ
  rise c = 1 + sizes_of (earlier_sibling c)

  -- The same numbering step by step, as one counts it off: region 0 is 0, and any other region follows its parent and its earlier siblings with all that they
  -- hold. Of an accepted sheet the new numbers are so, and no others are: `preorder`, `only_preorder`, crates/canonical_form/proofs/Preorder.antt.
  pub record Preorder (number : ℕ → ℕ) : Type 0 where
    pub root : number 0 ≡ 0
    pub step : (c : ℕ) → 0 < c → c < regions d → number c ≡ number (parent d c) + rise c
