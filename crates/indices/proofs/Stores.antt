-- Entries of a list that are stored behind each other: two runs of stores are one, each entry stands at its place, and the others stay.
use Prim.Native.Nat.{ℕ, zero, suc, ◌+◌, ◌≤◌, ◌<◌}
use mathlib.Core.Path.{◌≡◌, refl, sym, ap, ◌∙◌}
use mathlib.Core.List.{List, [], ◌∷◌, ◌++◌}
use native.Mathlib.Nat.{add-zero}
use native.Mathlib.Omega.{arith}
use lib.ListN.{length, set, length-set}
use lib.Seq.{sets, get_or-set_same, get_or-set_other}
use Rattle.indices.specs.Columns.{at}

pub sets_append : (l : List ℕ) (i : ℕ) (xs ys : List ℕ) → sets l i (xs ++ ys) ≡ sets (sets l i xs) (i + length xs) ys
sets_append l i [] ys = ap (λ (k : ℕ). sets l k ys) (sym (add-zero i))
sets_append l i (x ∷ xs) ys =
    let next : suc i + length xs ≡ i + suc (length xs) = omega arith in
    sets_append (set l i x) (suc i) xs ys ∙ ap (λ (k : ℕ). sets (sets (set l i x) (suc i) xs) k ys) next

pub sets_before : (l : List ℕ) (i : ℕ) (xs : List ℕ) (k : ℕ) → k < i → at (sets l i xs) k ≡ at l k
sets_before l i [] k before = refl
sets_before l i (x ∷ xs) k before = sets_before (set l i x) (suc i) xs k (omega arith) ∙ get_or-set_other l i k x 0 (λ e. omega arith)

pub sets_behind : (l : List ℕ) (i : ℕ) (xs : List ℕ) (k : ℕ) → i + length xs ≤ k → at (sets l i xs) k ≡ at l k
sets_behind l i [] k behind = refl
sets_behind l i (x ∷ xs) k behind = sets_behind (set l i x) (suc i) xs k (omega arith) ∙ get_or-set_other l i k x 0 (λ e. omega arith)

pub sets_inside : (l : List ℕ) (i : ℕ) (xs : List ℕ) (j : ℕ) → i + length xs ≤ length l → j < length xs → at (sets l i xs) (i + j) ≡ at xs j
sets_inside l i [] j room inside = absurd (omega arith)
sets_inside l i (x ∷ xs) zero room inside =
    ap (at (sets l i (x ∷ xs))) (add-zero i)
    ∙ sets_before (set l i x) (suc i) xs i (omega arith)
    ∙ get_or-set_same l i x 0 (omega arith)
sets_inside l i (x ∷ xs) (suc j) room inside =
    let next : i + suc j ≡ suc i + j = omega arith in
    ap (at (sets l i (x ∷ xs))) next ∙ sets_inside (set l i x) (suc i) xs j (omega (arith, length-set l i x)) (omega arith)
