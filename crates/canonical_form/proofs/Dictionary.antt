-- The order of a dictionary is strict and total, and a list comes before those that go on from it.
use Prim.Native.Nat.{ℕ, ◌≤◌, ◌<◌}
use mathlib.Core.Bool.{Bool, true, false, true≢false, ◌&&◌, ◌||◌}
use mathlib.Core.Path.{◌≡◌, refl, sym, ap, ◌∙◌}
use mathlib.Core.Logic.{◌⊎◌, inl, inr, ⊎_elim}
use mathlib.Core.List.{List, [], ◌∷◌, ◌++◌}
use native.Mathlib.Omega.{arith}
use borrow.Author.Tests.{ltb-true, eqb-true, eq-eqb, lt-ltb, le-ltb}
use lib.Dec.{ltb, eqb}
use Rattle.indices.specs.Tests.{count}
use Rattle.indices.proofs.Tests.{never, and_left, and_right}
use Rattle.indices.proofs.Totals.{count_less}
use Rattle.indices.proofs.Steps.{eq_or_ne, lt_or_le}
use Rattle.canonical_form.specs.Numbering.{sooner}

-- the two ways in which a list comes before another that begins too
pub by_head : (x y : ℕ) (xs ys : List ℕ) → x < y → sooner (x ∷ xs) (y ∷ ys) ≡ true
unfolding sooner
by_head x y xs ys l = rw (lt-ltb x y l)

pub by_rest : (x y : ℕ) (xs ys : List ℕ) → x ≡ y → sooner xs ys ≡ true → sooner (x ∷ xs) (y ∷ ys) ≡ true
unfolding sooner
by_rest x y xs ys e h = rw (le-ltb x y (omega arith), eq-eqb x y e) h

split : (x y : ℕ) (xs ys : List ℕ) → sooner (x ∷ xs) (y ∷ ys) ≡ true → (x < y) ⊎ ((x ≡ y) × (sooner xs ys ≡ true))
unfolding sooner
split x y xs ys h = at (ltb x y) refl h
  where
    at : (b : Bool) → ltb x y ≡ b → b || (eqb x y && sooner xs ys) ≡ true → (x < y) ⊎ ((x ≡ y) × (sooner xs ys ≡ true))
    at true e h = inl (ltb-true x y e)
    at false e h = inr (eqb-true x y (and_left (eqb x y) (sooner xs ys) h), and_right (eqb x y) (sooner xs ys) h)

-- nothing comes before the empty list
pub nothing_sooner : (xs : List ℕ) → sooner xs [] ≡ false
unfolding sooner
nothing_sooner [] = refl
nothing_sooner (x ∷ xs) = refl

pub sooner_irreflexive : (xs : List ℕ) → sooner xs xs ≡ true → ⊥
unfolding sooner
sooner_irreflexive [] h = let z : ◌≡◌ {A = ℕ} 0 1 = cc in omega arith
sooner_irreflexive (x ∷ xs) h = ⊎_elim (λ l. omega arith) (λ e. sooner_irreflexive xs e.1) (split x x xs xs h)

pub sooner_transitive : (xs ys zs : List ℕ) → sooner xs ys ≡ true → sooner ys zs ≡ true → sooner xs zs ≡ true
unfolding sooner
sooner_transitive [] ys [] h k = absurd (true≢false (sym k ∙ nothing_sooner ys))
sooner_transitive [] ys (z ∷ zs) h k = refl
sooner_transitive (x ∷ xs) [] zs h k = let z : ◌≡◌ {A = ℕ} 0 1 = cc in absurd (omega arith)
sooner_transitive (x ∷ xs) (y ∷ ys) [] h k = k
sooner_transitive (x ∷ xs) (y ∷ ys) (z ∷ zs) h k =
    ⊎_elim
    (λ (l : x < y). by_head x z xs zs (⊎_elim (λ (m : y < z). omega arith) (λ (e : (y ≡ z) × (sooner ys zs ≡ true)). omega (arith, e.0)) (split y z ys zs k)))
    (λ (e : (x ≡ y) × (sooner xs ys ≡ true)).
    ⊎_elim (λ (m : y < z). by_head x z xs zs (omega (arith, e.0)))
    (λ (f : (y ≡ z) × (sooner ys zs ≡ true)). by_rest x z xs zs (e.0 ∙ f.0) (sooner_transitive xs ys zs e.1 f.1)) (split y z ys zs k))
    (split x y xs ys h)

pub sooner_total : (xs ys : List ℕ) → (xs ≡ ys) ⊎ ((sooner xs ys ≡ true) ⊎ (sooner ys xs ≡ true))
unfolding sooner
sooner_total [] [] = inl refl
sooner_total [] (y ∷ ys) = inr (inl refl)
sooner_total (x ∷ xs) [] = inr (inr refl)
sooner_total (x ∷ xs) (y ∷ ys) = go (sooner_total xs ys)
  where
    go : (xs ≡ ys) ⊎ ((sooner xs ys ≡ true) ⊎ (sooner ys xs ≡ true))
        → (x ∷ xs ≡ y ∷ ys) ⊎ ((sooner (x ∷ xs) (y ∷ ys) ≡ true) ⊎ (sooner (y ∷ ys) (x ∷ xs) ≡ true))
    go rest =
        ⊎_elim (λ (l : x < y). inr (inl (by_head x y xs ys l)))
        (λ (l : y ≤ x).
        ⊎_elim
        (λ (e : x ≡ y).
        ⊎_elim (λ (w : xs ≡ ys). inl (cc))
        (λ w. ⊎_elim (λ h. inr (inl (by_rest x y xs ys e h))) (λ h. inr (inr (by_rest y x ys xs (sym e) h))) w) rest)
        (λ ne. inr (inr (by_head y x ys xs (omega arith)))) (eq_or_ne x y))
        (lt_or_le x y)

-- parent first
pub sooner_onward : (xs : List ℕ) (x : ℕ) → sooner xs (xs ++ (x ∷ [])) ≡ true
unfolding sooner
sooner_onward [] x = refl
sooner_onward (y ∷ ys) x = by_rest y y ys (ys ++ (x ∷ [])) refl (sooner_onward ys x)

-- a list that was taken on by one entry tells that entry and the list
pub onward_apart : (xs ys : List ℕ) (x y : ℕ) → xs ++ (x ∷ []) ≡ ys ++ (y ∷ []) → (xs ≡ ys) × (x ≡ y)
onward_apart [] [] x y e = (refl, cc)
onward_apart [] (b ∷ []) x y e = let z : ◌≡◌ {A = List ℕ} [] (y ∷ []) = cc in absurd (nil≢cons z)
  where
    nil≢cons : {y : ℕ} {ys : List ℕ} → ◌≡◌ {A = List ℕ} [] (y ∷ ys) → ⊥
    nil≢cons e = let z : ◌≡◌ {A = ℕ} 0 1 = cc in omega arith
onward_apart [] (b ∷ c ∷ ys) x y e = let z : ◌≡◌ {A = ℕ} 0 1 = cc in absurd (omega arith)
onward_apart (a ∷ []) [] x y e = let z : ◌≡◌ {A = ℕ} 0 1 = cc in absurd (omega arith)
onward_apart (a ∷ c ∷ xs) [] x y e = let z : ◌≡◌ {A = ℕ} 0 1 = cc in absurd (omega arith)
onward_apart (a ∷ xs) (b ∷ ys) x y e =
    let heads : a ≡ b = cc in
    let rests : xs ++ (x ∷ []) ≡ ys ++ (y ∷ []) = cc in
    let w = onward_apart xs ys x y rests in
    (ap (λ (l : List ℕ). a ∷ l) w.0 ∙ ap (λ (h : ℕ). h ∷ ys) heads, w.1)

-- RANK: how many of the keys below n come before that of r
module _ (key : ℕ → List ℕ) (n : ℕ) where
  abbrev pub rank : ℕ → ℕ
  rank r = count (λ s. sooner (key s) (key r)) n

  pub rank_rises : (r s : ℕ) → r < n → sooner (key r) (key s) ≡ true → rank r < rank s
  rank_rises r s l h =
      count_less (λ t. sooner (key t) (key s)) (λ t. sooner (key t) (key r)) r n l (λ t _ k. sooner_transitive (key t) (key r) (key s) k h)
      (never (sooner (key r) (key r)) (sooner_irreflexive (key r))) h

  pub rank_apart : ((r s : ℕ) → r < n → s < n → key r ≡ key s → r ≡ s) → (r s : ℕ) → r < n → s < n → rank r ≡ rank s → r ≡ s
  rank_apart apart r s lr ls e =
      ⊎_elim (λ (k : key r ≡ key s). apart r s lr ls k)
      (λ w. ⊎_elim (λ h. absurd (omega (arith, rank_rises r s lr h))) (λ h. absurd (omega (arith, rank_rises s r ls h))) w)
      (sooner_total (key r) (key s))
