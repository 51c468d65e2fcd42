-- Laws of `column`: as many entries as asked for, each the value at its index; and of the entries that pass a test.
use Rattle.std.specs.Prelude.{if◌then◌else◌}
use Prim.Native.Nat.{ℕ, zero, suc, ◌+◌, ◌<◌}
use mathlib.Core.Bool.{Bool, true, false}
use mathlib.Core.Path.{◌≡◌, refl, sym, ap, ◌∙◌}
use mathlib.Core.List.{List, [], ◌∷◌, ◌++◌, append-nil, map}
use native.Mathlib.Nat.{add-zero, zero-add, suc-add, le_of_suc-le-suc, not-suc-le-zero}
use native.Mathlib.Omega.{arith}
use lib.ListN.{length}
use lib.Seq.{ext_get_or}
use Rattle.indices.specs.Columns.{at, column, passing}

pub length_column : (n : ℕ) (f : ℕ → ℕ) → length (column n f) ≡ n
unfolding column
length_column zero f = refl
length_column (suc n) f = ap suc (length_column n (λ i. f (suc i)))

pub at_column : (n : ℕ) (f : ℕ → ℕ) (i : ℕ) → i < n → at (column n f) i ≡ f i
unfolding column
at_column zero f i l = absurd (not-suc-le-zero l)
at_column (suc n) f zero l = refl
at_column (suc n) f (suc i) l = at_column n (λ i. f (suc i)) i (le_of_suc-le-suc l)

-- an entry under a map that keeps 0, which stands behind the end
pub at_map : (f : ℕ → ℕ) → f 0 ≡ 0 → (xs : List ℕ) (i : ℕ) → f (at xs i) ≡ at (map f xs) i
at_map f e [] i = e
at_map f e (x ∷ xs) zero = refl
at_map f e (x ∷ xs) (suc i) = at_map f e xs i

-- a column of a list's own entries is the list
pub column_is : (n : ℕ) (f : ℕ → ℕ) (xs : List ℕ) → length xs ≡ n → ((i : ℕ) → i < n → f i ≡ at xs i) → column n f ≡ xs
column_is n f xs long same =
    ext_get_or 0 (column n f) xs (length_column n f ∙ sym long)
    (λ i l. let li : i < n = omega (arith, length_column n f) in at_column n f i li ∙ same i li)

pub column_ext : (n : ℕ) (f g : ℕ → ℕ) → ((i : ℕ) → i < n → f i ≡ g i) → column n f ≡ column n g
column_ext n f g h = column_is n f (column n g) (length_column n g) (λ i l. h i l ∙ sym (at_column n g i l))

-- as many entries, and the same ones
pub same_column : (m n : ℕ) (f g : ℕ → ℕ) → m ≡ n → ((i : ℕ) → i < m → f i ≡ g i) → column m f ≡ column n g
same_column m n f g many h = column_ext m f g h ∙ ap (λ (k : ℕ). column k g) many

pub column_append : (m n : ℕ) (f : ℕ → ℕ) → column (m + n) f ≡ column m f ++ column n (λ i. f (m + i))
unfolding column
column_append zero n f = rw zero-add (column_ext n f (λ i. f (0 + i)) (λ i _. ap f (sym (zero-add i))))
column_append (suc m) n f =
    rw suc-add
    (ap (λ (l : List ℕ). f 0 ∷ l)
    (column_append m n (λ i. f (suc i))
    ∙ ap (λ (l : List ℕ). column m (λ i. f (suc i)) ++ l)
    (column_ext n (λ i. f (suc (m + i))) (λ i. f (suc m + i)) (λ i _. ap f (sym (suc-add m i))))))

-- one entry more
pub column_more : (n : ℕ) (f : ℕ → ℕ) → column (n + 1) f ≡ column n f ++ (f n ∷ [])
unfolding column
column_more n f = column_append n 1 f ∙ ap (λ (k : ℕ). column n f ++ (f k ∷ [])) (add-zero n)

-- two columns that are the same have as many entries, and the same ones
module _ (m n : ℕ) (f g : ℕ → ℕ) (e : column m f ≡ column n g) where
  pub same_size : m ≡ n
  same_size = sym (length_column m f) ∙ ap length e ∙ length_column n g

  pub same_entry : (i : ℕ) → i < m → f i ≡ g i
  same_entry i l = sym (at_column m f i l) ∙ ap (λ (c : List ℕ). at c i) e ∙ at_column n g i (omega (arith, same_size))

-- ENTRIES THAT PASS a test
module _ (test : ℕ → Bool) where
  pub passing_append : (xs ys : List ℕ) → passing test (xs ++ ys) ≡ passing test xs ++ passing test ys
  unfolding passing
  passing_append [] ys = refl
  passing_append (x ∷ xs) ys = by_test (test x) (passing_append xs ys)
    where
      by_test : (b : Bool) → passing test (xs ++ ys) ≡ passing test xs ++ passing test ys
          → (if b then x ∷ passing test (xs ++ ys) else passing test (xs ++ ys)) ≡ (if b then x ∷ passing test xs else passing test xs) ++ passing test ys
      by_test true e = ap (λ (l : List ℕ). x ∷ l) e
      by_test false e = e

  pub all_pass : (n : ℕ) (f : ℕ → ℕ) → ((i : ℕ) → i < n → test (f i) ≡ true) → passing test (column n f) ≡ column n f
  unfolding passing column
  all_pass zero f h = refl
  all_pass (suc n) f h = rw (h 0 (omega arith)) (ap (λ (l : List ℕ). f 0 ∷ l) (all_pass n (λ i. f (suc i)) (λ i l. h (suc i) (omega arith))))

  pub none_pass : (n : ℕ) (f : ℕ → ℕ) → ((i : ℕ) → i < n → test (f i) ≡ false) → passing test (column n f) ≡ []
  unfolding passing column
  none_pass zero f h = refl
  none_pass (suc n) f h = rw (h 0 (omega arith)) (none_pass n (λ i. f (suc i)) (λ i l. h (suc i) (omega arith)))

  -- the first m entries pass, and none of the others
  pub front_passes : (m n : ℕ) (f : ℕ → ℕ) → ((i : ℕ) → i < m → test (f i) ≡ true) → ((i : ℕ) → i < n → test (f (m + i)) ≡ false)
      → passing test (column (m + n) f) ≡ column m f
  front_passes m n f pass miss =
      ap (passing test) (column_append m n f)
      ∙ passing_append (column m f) (column n (λ i. f (m + i)))
      ∙ rw (all_pass m f pass, none_pass n (λ i. f (m + i)) miss) (append-nil (column m f))
