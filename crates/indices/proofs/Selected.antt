-- Laws of `selected`, what is left of the indices below a bound: how much it is, where an index's entries stand, and how counts and largest values over new
-- numbers are those over the old ones that are left.
use Rattle.std.specs.Prelude.{if◌then◌else◌}
use Prim.Native.Nat.{ℕ, zero, suc, max, ◌+◌, ◌*◌, ◌/◌, ◌%◌, ◌<◌, ◌≤◌}
use mathlib.Core.Bool.{Bool, true, false, cond, ◌&&◌}
use mathlib.Core.List.{List, [], ◌∷◌, ◌++◌, append-nil}
use mathlib.Core.Path.{◌≡◌, refl, sym, ap, ◌∙◌}
use borrow.Author.Tests.{eq-eqb, ne_eqb}
use native.Mathlib.Nat.{not-suc-le-zero, mul-zero, mul-add, mul-one, mul-le-mul_left, add-zero}
use native.Mathlib.Numerals.{add-one}
use native.Mathlib.Omega.{arith}
use mir.Val.{bool_byte}
use lib.ListN.{length, length-append, get_or-append}
use lib.Dec.{eqb}
use lib.Seq.{get_or-append-add, ext_get_or}
use Rattle.indices.specs.Columns.{at, column, selected}
use Rattle.indices.specs.Tests.{count, most}
use Rattle.indices.proofs.Steps.{by_order, by_equal}
use Rattle.indices.proofs.Columns.{length_column, at_column}
use Rattle.indices.proofs.Tests.{count_in_lem, count_out, count_mono, count_nth, count_all}
use Rattle.indices.proofs.Renumbering.{count_apart}

-- NEW NUMBERS: an index that is left has as its number how many of those before it are left
-- an index that is left has a lower number than there are such indices, and than a later one
pub number_below : (p : ℕ → Bool) (i n : ℕ) → i < n → p i ≡ true → count p i < count p n
number_below p i n l h = omega (arith, count_in_lem p i h, count_mono p (i + 1) n (omega arith))

-- two of them have the same number just where they are the same
pub number_same : (p : ℕ → Bool) (i j : ℕ) → p i ≡ true → p j ≡ true → eqb (count p i) (count p j) ≡ eqb i j
number_same p i j hi hj =
    by_equal i j
    (λ e. eq-eqb (count p i) (count p j) (ap (count p) e) ∙ sym (eq-eqb i j e))
    (λ ne. ne_eqb (count p i) (count p j) (λ e. ne (count_apart p i j hi hj e)) ∙ sym (ne_eqb i j ne))

-- the number of the next index, for a loop that adds a test's byte
pub number_next : (p : ℕ → Bool) (i : ℕ) (b : Bool) → b ≡ p i → count p (i + 1) ≡ count p i + bool_byte b
number_next p i true e = count_in_lem p i (sym e)
number_next p i false e = count_out p i (sym e) ∙ omega arith

-- A count over new numbers is a count over the old ones that are left.
pub count_left : (p q q' : ℕ → Bool) (n : ℕ) → ((i : ℕ) → i < n → p i ≡ true → q' (count p i) ≡ q i)
    → count q' (count p n) ≡ count (λ i. p i && q i) n
unfolding count
count_left p q q' zero h = refl
count_left p q q' (suc n) h = at (p n) (h n (omega arith)) (count_left p q q' n (λ i l t. h i (omega arith) t))
  where
    at : (b : Bool) → (b ≡ true → q' (count p n) ≡ q n) → count q' (count p n) ≡ count (λ i. p i && q i) n
        → count q' (count p n + cond b 1 0) ≡ count (λ i. p i && q i) n + cond (b && q n) 1 0
    at true e ih = rw (add-one, e refl, ih)
    at false e ih = rw (add-zero (count p n)) (rw (add-zero (count (λ i. p i && q i) n)) ih)

-- The largest over new numbers is the largest over the old ones that are left.
pub most_left : (p : ℕ → Bool) (f f' : ℕ → ℕ) (n : ℕ) → ((i : ℕ) → i < n → p i ≡ true → f' (count p i) ≡ f i)
    → most f' (count p n) ≡ most (λ i. cond (p i) (f i) 0) n
unfolding count most
most_left p f f' zero h = refl
most_left p f f' (suc n) h = at (p n) (h n (omega arith)) (most_left p f f' n (λ i l t. h i (omega arith) t))
  where
    at : (b : Bool) → (b ≡ true → f' (count p n) ≡ f n) → most f' (count p n) ≡ most (λ i. cond (p i) (f i) 0) n
        → most f' (count p n + cond b 1 0) ≡ max (most (λ i. cond (p i) (f i) 0) n) (cond b (f n) 0)
    at true e ih = rw (add-one, e refl, ih)
    at false e ih = rw (add-zero (count p n)) (omega arith)

-- ENTRIES, w for each index that is left
module _ (p : ℕ → Bool) (entries : ℕ → List ℕ) (w : ℕ) where
  pub selected_length : (n : ℕ) → ((i : ℕ) → i < n → length (entries i) ≡ w) → length (selected p entries n) ≡ w * count p n
  unfolding selected count
  selected_length zero h = sym (mul-zero w)
  selected_length (suc n) h = at (p n) (selected_length n (λ i l. h i (omega arith))) (h n (omega arith))
    where
      at : (b : Bool) → length (selected p entries n) ≡ w * count p n → length (entries n) ≡ w
          → length (selected p entries n ++ (if b then entries n else [])) ≡ w * (count p n + cond b 1 0)
      at true ih e = rw (length-append, mul-add, mul-one, ih, e)
      at false ih e = rw (append-nil, add-zero) ih

  -- the entries of index i stand behind those of the indices before it
  pub selected_at : (n : ℕ) → ((i : ℕ) → i < n → length (entries i) ≡ w) → (i j : ℕ) → i < n → p i ≡ true → j < w
      → at (selected p entries n) (w * count p i + j) ≡ at (entries i) j
  unfolding selected
  selected_at zero h i j l pass lj = absurd (not-suc-le-zero l)
  selected_at (suc n) h i j l pass lj =
      let before = selected p entries n in
      let long : length before ≡ w * count p n = selected_length n (λ k m. h k (omega arith)) in
      by_equal i n (λ e. rw (e, rw e at pass, ← long) (get_or-append-add before (entries n) j 0))
      (λ ne.
      let lt : i < n = omega arith in
      let room : w * (count p i + 1) ≤ w * count p n = mul-le-mul_left w (let m : count p i + 1 ≤ count p n = omega (arith, number_below p i n lt pass) in m) in
      let inside : w * count p i + j < length before = omega (arith, mul-add w (count p i) 1, mul-one w) in
      get_or-append before _ 0 (w * count p i + j) inside ∙ selected_at n (λ k m. h k (omega arith)) i j lt pass lj)

module _ (p : ℕ → Bool) (entries : ℕ → List ℕ) where
  pub selected_none : selected p entries 0 ≡ []
  unfolding selected
  selected_none = refl

  -- one index more
  pub selected_more : (i : ℕ) → selected p entries (i + 1) ≡ selected p entries i ++ (if p i then entries i else [])
  unfolding selected
  selected_more i = rw (add-one i, selected)

  -- the entries of fewer indices are no more
  pub selected_grows : (i n : ℕ) → i ≤ n → length (selected p entries i) ≤ length (selected p entries n)
  unfolding selected
  selected_grows i zero l = rw (let e : i ≡ 0 = omega arith in e) (omega arith)
  selected_grows i (suc n) l =
      by_equal i (suc n) (λ e. rw e (omega arith))
      (λ ne. omega (arith, selected_grows i n (omega arith), length-append (selected p entries n) (if p n then entries n else [])))

-- tests and entries that agree
pub selected_ext : (p q : ℕ → Bool) (entries entries' : ℕ → List ℕ) (n : ℕ) → ((i : ℕ) → i < n → p i ≡ q i) → ((i : ℕ) → i < n → entries i ≡ entries' i)
    → selected p entries n ≡ selected q entries' n
unfolding selected
selected_ext p q entries entries' zero h k = refl
selected_ext p q entries entries' (suc n) h k =
    rw (selected_ext p q entries entries' n (λ i l. h i (omega arith)) (λ i l. k i (omega arith)), h n (omega arith), k n (omega arith))

-- ONE ENTRY for each index that is left
module _ (p : ℕ → Bool) (f : ℕ → ℕ) (n : ℕ) where
  abbrev each : ℕ → List ℕ
  each i = f i ∷ []

  pub selected_size : length (selected p each n) ≡ count p n
  selected_size = omega (arith, selected_length p each 1 n (λ i l. refl))

  pub selected_entry : (i : ℕ) → i < n → p i ≡ true → at (selected p each n) (count p i) ≡ f i
  selected_entry i l pass =
      ap (at (selected p each n)) (let e : count p i ≡ 1 * count p i + 0 = omega arith in e)
      ∙ selected_at p each 1 n (λ i l. refl) i 0 l pass (omega arith)

  -- they are the column of what stands under the new numbers
  pub selected_column : (f' : ℕ → ℕ) → ((i : ℕ) → i < n → p i ≡ true → f' (count p i) ≡ f i) → column (count p n) f' ≡ selected p each n
  selected_column f' h =
      ext_get_or 0 (column (count p n) f') (selected p each n) (length_column (count p n) f' ∙ sym selected_size)
      (λ j l.
      let inside : j < count p n = omega (arith, length_column (count p n) f') in
      let q = count_nth p n j inside in
      at_column (count p n) f' j inside ∙ ap f' (sym q.3) ∙ h q.0 q.1 q.2
      ∙ sym (selected_entry q.0 q.1 q.2) ∙ ap (at (selected p each n)) q.3)

-- WHERE ALL ARE LEFT, the whole column
pub selected_all : (p : ℕ → Bool) (f : ℕ → ℕ) (n : ℕ) → ((i : ℕ) → i < n → p i ≡ true) → selected p (λ i. f i ∷ []) n ≡ column n f
selected_all p f n h =
    sym (selected_column p f n f (λ i l s. ap f (count_all p i (λ j k. h j (omega arith))))) ∙ ap (λ (m : ℕ). column m f) (count_all p n h)

-- the same of two entries for each index
pub selected_pairs : (p : ℕ → Bool) (f : ℕ → ℕ) (n : ℕ) → ((i : ℕ) → i < n → p i ≡ true)
    → selected p (λ i. f (2 * i) ∷ f (2 * i + 1) ∷ []) n ≡ column (2 * n) f
selected_pairs p f n h =
    let pair : ℕ → List ℕ = λ i. f (2 * i) ∷ f (2 * i + 1) ∷ [] in
    let long : length (selected p pair n) ≡ 2 * n = selected_length p pair 2 n (λ i l. refl) ∙ ap (λ (m : ℕ). 2 * m) (count_all p n h) in
    ext_get_or 0 (selected p pair n) (column (2 * n) f) (long ∙ sym (length_column (2 * n) f))
    (λ j l.
    let i = j / 2 in
    let li : i < n = omega (arith, long) in
    let here = selected_at p pair 2 n (λ i l. refl) i (j % 2) li (h i li) (omega arith) in
    let place : 2 * count p i + j % 2 ≡ j = omega (arith, count_all p i (λ k lk. h k (omega arith))) in
    ap (at (selected p pair n)) (sym place) ∙ here ∙ half i j refl ∙ sym (at_column (2 * n) f j (omega (arith, long))))
  where
    half : (i j : ℕ) → i ≡ j / 2 → at (f (2 * i) ∷ f (2 * i + 1) ∷ []) (j % 2) ≡ f j
    half i j e =
        by_order (j % 2) 1
        (λ l. let even : j % 2 ≡ 0 = omega arith in rw even (ap f (let w : 2 * i ≡ j = omega arith in w)))
        (λ l. let odd : j % 2 ≡ 1 = omega arith in rw odd (ap f (let w : 2 * i + 1 ≡ j = omega arith in w)))
