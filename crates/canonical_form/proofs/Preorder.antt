-- Depth first: the new number of a region is its parent's, one more, and the sizes of the siblings that hold a lower arc; and a region's size is one more
-- than the sizes of its children.
use Prim.Native.Nat.{ℕ, zero, suc, ◌+◌, ◌≤◌, ◌<◌}
use mathlib.Core.Bool.{Bool, true, false, cond, ◌&&◌, ◌||◌}
use mathlib.Core.Path.{◌≡◌, refl, sym, ap, ◌∙◌}
use mathlib.Core.Logic.{◌≢◌, ◌⊎◌, inl, inr, ⊎_elim}
use mathlib.Core.List.{List, [], ◌∷◌, ◌++◌, append-nil, append_assoc}
use native.Mathlib.Omega.{arith}
use borrow.Author.Tests.{ltb-true, lt-ltb, le-ltb, eqb-true, eq-eqb, ne_eqb}
use lib.ListN.{length, length-append}
use lib.Dec.{ltb, eqb}
use Rattle.indices.specs.Tests.{any, count, total}
use Rattle.indices.proofs.Tests.{same_truth, never, and_left, and_right, and_both, any_hit, any_found, count_out_all}
use Rattle.indices.proofs.Totals.{count_sum, count_single}
use Rattle.indices.proofs.Steps.{eq_or_ne}
use Rattle.procedure.specs.Division.{Division, regions, parent, is_child}
use Rattle.procedure.proofs.Children.{child_later, child_parent, is_child_lem}
use Rattle.canonical_form.specs.Numbering.{sooner, above, ancestor, holds, size, lowest_arc, path, new_number, rise, Preorder}
use Rattle.canonical_form.proofs.Dictionary.{nothing_sooner, sooner_irreflexive, sooner_onward, onward_apart}
use Rattle.canonical_form.specs.Inner.{Proper}
use Rattle.canonical_form.proofs.Numbering.{above_parent, holds_ancestor, held_below, holder_le}
use Rattle.canonical_form.proofs.Numbering.{one_holds, path_root, path_step, paths_apart, new_root}

-- LISTS
-- how a list stands to another: the same, going on from it, or neither
facing : (xs ys : List ℕ) → (xs ≡ ys) ⊎ (((z : ℕ) × (zs : List ℕ) × (xs ≡ ys ++ (z ∷ zs)))
    ⊎ (((y : ℕ) → sooner xs (ys ++ (y ∷ [])) ≡ sooner xs ys) × ((zs : List ℕ) → xs ≡ ys ++ zs → ⊥)))
unfolding sooner
facing [] [] = inl refl
facing [] (y ∷ ys) = inr (inr (λ _. refl, λ zs e. let z : ◌≡◌ {A = ℕ} 0 1 = cc in omega arith))
facing (x ∷ xs) [] = inr (inl (x, xs, refl))
facing (x ∷ xs) (y ∷ ys) =
    ⊎_elim
    (λ (e : x ≡ y).
    ⊎_elim (λ (w : xs ≡ ys). inl (cc))
    (λ w.
    ⊎_elim (λ (g : (z : ℕ) × (zs : List ℕ) × (xs ≡ ys ++ (z ∷ zs))). inr (inl (g.0, g.1, let rest = g.2 in cc)))
    (λ (g : ((y : ℕ) → sooner xs (ys ++ (y ∷ [])) ≡ sooner xs ys) × ((zs : List ℕ) → xs ≡ ys ++ zs → ⊥)).
    inr (inr (λ t. ap (λ (b : Bool). ltb x y || (eqb x y && b)) (g.0 t), λ zs h. g.1 zs (cc))))
    w)
    (facing xs ys))
    (λ (ne : x ≢ y). inr (inr (λ t. rw (ne_eqb x y ne), λ zs h. ne (cc)))) (eq_or_ne x y)

-- a list that goes on from ys with z comes before ys and then y just where z is below y, and not before ys
onward_sooner : (ys zs : List ℕ) (z y : ℕ) → sooner (ys ++ (z ∷ zs)) (ys ++ (y ∷ [])) ≡ ltb z y
unfolding sooner
onward_sooner [] zs z y = by_tests (ltb z y) (eqb z y) (nothing_sooner zs)
  where
    by_tests : (a b : Bool) {c : Bool} → c ≡ false → a || (b && c) ≡ a
    by_tests true b e = refl
    by_tests false true e = e
    by_tests false false e = refl
onward_sooner (x ∷ xs) zs z y = rw (le-ltb x x (omega arith), eq-eqb x x refl) (onward_sooner xs zs z y)

onward_later : (ys zs : List ℕ) (z : ℕ) → sooner (ys ++ (z ∷ zs)) ys ≡ false
unfolding sooner
onward_later [] zs z = refl
onward_later (x ∷ xs) zs z = rw (le-ltb x x (omega arith), eq-eqb x x refl) (onward_later xs zs z)

longer : (ys zs : List ℕ) (z : ℕ) → ys ≡ ys ++ (z ∷ zs) → ⊥
longer ys zs z e = omega (arith, ap length e, length-append ys (z ∷ zs))

next_entry : (ys zs ws : List ℕ) (z w : ℕ) → ys ++ (z ∷ zs) ≡ ys ++ (w ∷ ws) → z ≡ w
next_entry [] zs ws z w e = cc
next_entry (y ∷ ys) zs ws z w e = next_entry ys zs ws z w (cc)

-- a list is empty, or goes on from another by one entry
last_entry : (zs : List ℕ) → (zs ≡ []) ⊎ ((us : List ℕ) × (u : ℕ) × (zs ≡ us ++ (u ∷ [])))
last_entry [] = inl refl
last_entry (z ∷ zs) =
    inr (⊎_elim (λ (e : zs ≡ []). ([], z, ap (λ (l : List ℕ). z ∷ l) e))
    (λ (g : (us : List ℕ) × (u : ℕ) × (zs ≡ us ++ (u ∷ []))). (z ∷ g.0, g.1, ap (λ (l : List ℕ). z ∷ l) g.2)) (last_entry zs))

-- COUNTS
one_or_other : (a b : Bool) → (a ≡ true → b ≡ true → ⊥) → cond (a || b) 1 0 ≡ cond a 1 0 + cond b 1 0
one_or_other true true h = absurd (h refl refl)
one_or_other true false h = refl
one_or_other false true h = refl
one_or_other false false h = refl

module _ (d : Division) (P : Proper d) where
  pub no_level : (s : ℕ) → ancestor d 0 s ≡ s
  unfolding ancestor
  no_level s = refl

  -- what a child holds, its parent holds
  pub holds_up : (c s : ℕ) → 0 < c → s < regions d → holds d c s ≡ true → holds d (parent d c) s ≡ true
  unfolding ancestor
  holds_up c s pos l h =
      let k = held_below d P c s h in
      holds_ancestor d P (k.0 + 1) (parent d c) s l (up k.0 s k.1)
    where
      up : (k s : ℕ) → ancestor d k s ≡ c → ancestor d (k + 1) s ≡ parent d c
      up zero s e = ap (above d) e ∙ above_parent d c pos
      up (suc k) s e = let one : suc k + 1 ≡ suc (k + 1) = omega arith in rw one (up k (above d s) e)

  -- what holds a region's parent holds it
  pub holds_down : (c s : ℕ) → 0 < s → s < regions d → holds d c (parent d s) ≡ true → holds d c s ≡ true
  unfolding ancestor
  holds_down c s pos l h =
      let k = held_below d P c (parent d s) h in
      holds_ancestor d P (suc k.0) c s l (ap (ancestor d k.0) (above_parent d s pos) ∙ k.1)

  -- the region held, or a child that holds it
  child_towards : (k r s : ℕ) → s < regions d → ancestor d k s ≡ r → s ≢ r → (c : ℕ) × (c < regions d) × (is_child d r c ≡ true) × (holds d c s ≡ true)
  unfolding ancestor
  child_towards zero r s l e ne = absurd (ne e)
  child_towards (suc k) r zero l e ne = child_towards k r 0 l e ne
  child_towards (suc k) r (suc s) l e ne =
      let pos : 0 < suc s = omega arith in
      let down = P.lower (suc s) pos l in
      let up : above d (suc s) ≡ parent d (suc s) = above_parent d (suc s) pos in
      ⊎_elim
      (λ (w : above d (suc s) ≡ r). (suc s, l, rw (← sym up ∙ w) (is_child_lem d _ (suc s) pos refl), holds_ancestor d P 0 (suc s) (suc s) l refl))
      (λ (w : above d (suc s) ≢ r).
      let g = child_towards k r (above d (suc s)) (omega arith) e w in
      (g.0, g.1, g.2, holds_down g.0 (suc s) pos l (ap (holds d g.0) (sym up) ∙ g.3)))
      (eq_or_ne (above d (suc s)) r)

  -- SIZES ADD UP over some children of p
  module _ (p : ℕ) (E : ℕ → Bool) (children : (c : ℕ) → E c ≡ true → is_child d p c ≡ true) where
    -- s is held by one of them with a number below m
    abbrev held : ℕ → ℕ → Bool
    held m s = any (λ c. E c && holds d c s) m

    not_twice : (m s : ℕ) → m < regions d → s < regions d → held m s ≡ true → E m && holds d m s ≡ true → ⊥
    not_twice m s lm ls h g =
        let w = any_found (λ c. E c && holds d c s) m h in
        let c = w.0 in
        let this = children c (and_left (E c) (holds d c s) w.2) in
        let that = children m (and_left (E m) (holds d m s) g) in
        omega (
          arith,
          w.1,
          one_holds d P c m s (child_later d p c this) (child_later d p m that) ls (child_parent d p c this ∙ sym (child_parent d p m that))
              (and_right (E c) (holds d c s) w.2) (and_right (E m) (holds d m s) g),
        )

    one_child : (m : ℕ) → count (λ s. E m && holds d m s) (regions d) ≡ cond (E m) (size d m) 0
    unfolding size
    one_child m = by_test (E m)
      where
        by_test : (b : Bool) → count (λ s. b && holds d m s) (regions d) ≡ cond b (count (holds d m) (regions d)) 0
        by_test true = refl
        by_test false = count_out_all (λ s. false) (regions d) (λ _ _. refl)

    sizes_add : (m : ℕ) → m ≤ regions d → count (held m) (regions d) ≡ total (λ c. cond (E c) (size d c) 0) m
    unfolding any total
    sizes_add zero l = count_out_all (held 0) (regions d) (λ _ _. refl)
    sizes_add (suc m) l =
        count_sum (held m) (λ s. E m && holds d m s) (held (suc m)) (regions d)
        (λ s ls. one_or_other (held m s) (E m && holds d m s) (not_twice m s (omega arith) ls))
        ∙ omega (arith, sizes_add m (omega arith), one_child m)

    -- a region, and what some of its children hold
    pub count_with : (test : ℕ → Bool) (r : ℕ) → r < regions d
        → ((s : ℕ) → s < regions d → cond (test s) 1 0 ≡ cond (eqb s r) 1 0 + cond (held (regions d) s) 1 0)
        → count test (regions d) ≡ 1 + total (λ c. cond (E c) (size d c) 0) (regions d)
    count_with test r l split =
        let itself : count (λ s. eqb s r) (regions d) ≡ 1 =
        count_single (λ s. eqb s r) (regions d) r l (eq-eqb r r refl) (λ i _ e. eqb-true i r e) in
        omega (arith, count_sum (λ s. eqb s r) (held (regions d)) test (regions d) split, sizes_add (regions d) (omega arith))

  -- a region's size is one more than those of its children
  pub size_step : (r : ℕ) → r < regions d → size d r ≡ 1 + total (λ c. cond (is_child d r c) (size d c) 0) (regions d)
  unfolding size
  size_step r l = count_with r (is_child d r) (λ _ h. h) (holds d r) r l at_region
    where
      at_region : (s : ℕ) → s < regions d → cond (holds d r s) 1 0 ≡ cond (eqb s r) 1 0 + cond (any (λ c. is_child d r c && holds d c s) (regions d)) 1 0
      at_region s ls =
          let below = any (λ c. is_child d r c && holds d c s) (regions d) in
          ⊎_elim
          (λ (e : s ≡ r).
          let none : below ≡ false =
          never below
          (λ h.
          let w = any_found (λ c. is_child d r c && holds d c s) (regions d) h in
          let child = and_left (is_child d r w.0) (holds d w.0 s) w.2 in
          omega (
            arith,
            P.lower w.0 (child_later d r w.0 child) w.1,
            child_parent d r w.0 child,
            holder_le d P w.0 s ls (and_right (is_child d r w.0) (holds d w.0 s) w.2),
          )) in
          rw (none, eq-eqb s r e, holds_ancestor d P 0 r s ls (no_level s ∙ e)))
          (λ (ne : s ≢ r).
          let same : holds d r s ≡ below =
          same_truth (holds d r s) below
          (λ h.
          let k = held_below d P r s h in
          let g = child_towards k.0 r s ls k.1 ne in
          any_hit (λ c. is_child d r c && holds d c s) g.0 (regions d) g.1 (and_both (is_child d r g.0) _ g.2 g.3))
          (λ h.
          let w = any_found (λ c. is_child d r c && holds d c s) (regions d) h in
          let child = and_left (is_child d r w.0) (holds d w.0 s) w.2 in
          ap (λ (q : ℕ). holds d q s) (sym (child_parent d r w.0 child))
          ∙ holds_up w.0 s (child_later d r w.0 child) ls (and_right (is_child d r w.0) (holds d w.0 s) w.2)) in
          rw (ne_eqb s r ne, same) (omega arith))
          (eq_or_ne s r)

  -- PATHS AND HOLDING
  -- a region's path begins with that of each region that holds it
  held_path : (k c s : ℕ) → s < regions d → ancestor d k s ≡ c → (zs : List ℕ) × (path d s ≡ path d c ++ zs)
  unfolding ancestor
  held_path zero c s l e = ([], ap (path d) e ∙ sym (append-nil (path d c)))
  held_path (suc k) c zero l e = held_path k c 0 l e
  held_path (suc k) c (suc s) l e =
      let pos : 0 < suc s = omega arith in
      let down = P.lower (suc s) pos l in
      let up : above d (suc s) ≡ parent d (suc s) = above_parent d (suc s) pos in
      let g = held_path k c (above d (suc s)) (omega arith) e in
      let way : path d (parent d (suc s)) ≡ path d c ++ g.0 = ap (path d) (sym up) ∙ g.1 in (
        g.0 ++ (lowest_arc d (suc s) ∷ []),
        path_step d P (suc s) pos l
            ∙ ap (λ (w : List ℕ). w ++ (lowest_arc d (suc s) ∷ [])) way
            ∙ append_assoc (path d c) g.0 (lowest_arc d (suc s) ∷ []),
      )

  held_by_child : (p c s : ℕ) → c < regions d → s < regions d → is_child d p c ≡ true → holds d c s ≡ true
      → (zs : List ℕ) × (path d s ≡ path d p ++ (lowest_arc d c ∷ zs))
  held_by_child p c s lc ls child h =
      let k = held_below d P c s h in
      let g = held_path k.0 c s ls k.1 in
      let way : path d c ≡ path d p ++ (lowest_arc d c ∷ []) =
      path_step d P c (child_later d p c child) lc ∙ ap (λ (q : ℕ). path d q ++ (lowest_arc d c ∷ [])) (child_parent d p c child) in
      (g.0, g.1 ∙ ap (λ (w : List ℕ). w ++ g.0) way ∙ append_assoc (path d p) (lowest_arc d c ∷ []) g.0)

  -- a region whose path goes on from that of p with z is held by the child of p whose lowest arc is z
  abbrev Towards : ℕ → ℕ → ℕ → Type 0
  Towards p z s = (c : ℕ) × (c < regions d) × (is_child d p c ≡ true) × (lowest_arc d c ≡ z) × (holds d c s ≡ true)

  path_child : (bound p z s : ℕ) (zs : List ℕ) → s < bound → p < regions d → s < regions d → path d s ≡ path d p ++ (z ∷ zs) → Towards p z s
  path_child zero p z s zs b lp ls e = absurd (omega arith)
  path_child (suc bound) p z zero zs b lp ls e = absurd (no_entry (path d p) (sym (path_root d) ∙ e))
    where
      no_entry : (ys : List ℕ) → [] ≡ ys ++ (z ∷ zs) → ⊥
      no_entry ys e = omega (arith, ap length e, length-append ys (z ∷ zs))
  path_child (suc bound) p z (suc s) zs b lp ls e =
      let pos : 0 < suc s = omega arith in
      let down = P.lower (suc s) pos ls in
      let step = path_step d P (suc s) pos ls in
      ⊎_elim
      (λ (none : zs ≡ []).
      let g = onward_apart (path d (parent d (suc s))) (path d p) (lowest_arc d (suc s)) z (sym step ∙ e ∙ ap (λ (w : List ℕ). path d p ++ (z ∷ w)) none) in
      let same : parent d (suc s) ≡ p = paths_apart d P (parent d (suc s)) p (omega arith) lp g.0 in
      (suc s, ls, rw (← same) (is_child_lem d _ (suc s) pos refl), g.1, holds_ancestor d P 0 (suc s) (suc s) ls (no_level (suc s))))
      (λ (more : (us : List ℕ) × (u : ℕ) × (zs ≡ us ++ (u ∷ []))).
      let way : (path d p ++ (z ∷ more.0)) ++ (more.1 ∷ []) ≡ path d (suc s) =
      append_assoc (path d p) (z ∷ more.0) (more.1 ∷ []) ∙ sym (e ∙ ap (λ (w : List ℕ). path d p ++ (z ∷ w)) more.2) in
      let g = onward_apart (path d (parent d (suc s))) (path d p ++ (z ∷ more.0)) (lowest_arc d (suc s)) more.1 (sym step ∙ sym way) in
      let c = path_child bound p z (parent d (suc s)) more.0 (omega arith) lp (omega arith) g.0 in
      (c.0, c.1, c.2, c.3, holds_down c.0 (suc s) pos ls c.4))
      (last_entry zs)

  -- DEPTH FIRST
  module _ (p y : ℕ) (lp : p < regions d) where
    -- the children of p that come before one whose lowest arc is y
    abbrev pub earlier : ℕ → Bool
    earlier c = is_child d p c && ltb (lowest_arc d c) y

    abbrev below : ℕ → Bool
    below s = any (λ c. earlier c && holds d c s) (regions d)

    -- what they hold goes on from p with an arc below y
    below_path : (s : ℕ) → s < regions d → below s ≡ true → (z : ℕ) × (zs : List ℕ) × (path d s ≡ path d p ++ (z ∷ zs)) × (z < y)
    below_path s l h =
        let w = any_found (λ c. earlier c && holds d c s) (regions d) h in
        let c = w.0 in
        let early = and_left (earlier c) (holds d c s) w.2 in
        let g = held_by_child p c s w.1 l (and_left (is_child d p c) _ early) (and_right (earlier c) (holds d c s) w.2) in
        (lowest_arc d c, g.0, g.1, ltb-true (lowest_arc d c) y (and_right (is_child d p c) _ early))

    path_below : (z s : ℕ) (zs : List ℕ) → s < regions d → path d s ≡ path d p ++ (z ∷ zs) → below s ≡ ltb z y
    path_below z s zs l e =
        same_truth (below s) (ltb z y)
        (λ h. let w = below_path s l h in lt-ltb z y (omega (arith, w.3, next_entry (path d p) zs w.1 z w.0 (sym e ∙ w.2))))
        (λ h.
        let c = path_child (suc s) p z s zs (omega arith) lp l e in
        any_hit (λ c. earlier c && holds d c s) c.0 (regions d) c.1
        (and_both (earlier c.0) _ (and_both (is_child d p c.0) _ c.2 (ap (λ (a : ℕ). ltb a y) c.3 ∙ h)) c.4))

    -- each region that comes before such a child comes before p, or is p, or is held by an earlier child of p
    at_region : (s : ℕ) → s < regions d
        → cond (sooner (path d s) (path d p ++ (y ∷ []))) 1 0 ≡ cond (sooner (path d s) (path d p)) 1 0 + cond (eqb s p || below s) 1 0
    at_region s l =
        ⊎_elim
        (λ (e : path d s ≡ path d p).
        let same : s ≡ p = paths_apart d P s p l lp e in
        rw (eq-eqb s p same, e, sooner_onward (path d p) y, never (sooner (path d p) (path d p)) (sooner_irreflexive (path d p))))
        (⊎_elim
        (λ (g : (z : ℕ) × (zs : List ℕ) × (path d s ≡ path d p ++ (z ∷ zs))).
        let other : eqb s p ≡ false = ne_eqb s p (λ same. longer (path d p) g.1 g.0 (ap (path d) (sym same) ∙ g.2)) in
        rw (other, path_below g.0 s g.1 l g.2, g.2, onward_sooner (path d p) g.1 g.0 y, onward_later (path d p) g.1 g.0) (omega arith))
        (λ (g : ((y : ℕ) → sooner (path d s) (path d p ++ (y ∷ [])) ≡ sooner (path d s) (path d p)) × ((zs : List ℕ) → path d s ≡ path d p ++ zs → ⊥)).
        let other : eqb s p ≡ false = ne_eqb s p (λ same. g.1 [] (ap (path d) same ∙ sym (append-nil (path d p)))) in
        let none : below s ≡ false = never (below s) (λ h. let w = below_path s l h in g.1 (w.0 ∷ w.1) w.2) in
        rw (other, none, g.0 y) (omega arith)))
        (facing (path d s) (path d p))

    itself_or_below : (s : ℕ) → s < regions d → cond (eqb s p || below s) 1 0 ≡ cond (eqb s p) 1 0 + cond (below s) 1 0
    itself_or_below s l =
        one_or_other (eqb s p) (below s)
        (λ e h. let w = below_path s l h in longer (path d p) w.1 w.0 (ap (path d) (sym (eqb-true s p e)) ∙ w.2))

    -- how many come before such a child
    count_before : count (λ s. sooner (path d s) (path d p ++ (y ∷ []))) (regions d)
        ≡ new_number d p + (1 + total (λ c. cond (earlier c) (size d c) 0) (regions d))
    unfolding new_number
    count_before =
        let rest : count (λ s. eqb s p || below s) (regions d) ≡ 1 + total (λ c. cond (earlier c) (size d c) 0) (regions d) =
        count_with p earlier (λ c h. and_left (is_child d p c) _ h) (λ s. eqb s p || below s) p lp itself_or_below in
        omega (
          arith,
          count_sum (λ s. sooner (path d s) (path d p)) (λ s. eqb s p || below s) (λ s. sooner (path d s) (path d p ++ (y ∷ []))) (regions d) at_region,
        )

  -- "parent first and depth first from region 0, children in order of the lowest arc number they hold"
  pub preorder : Preorder d (new_number d)
  unfolding new_number rise
  preorder = record {
    root = new_root d P;
    step = λ c pos l.
        let inside : parent d c < regions d = omega (arith, P.lower c pos l) in
        rw (path_step d P c pos l) (count_before (parent d c) (lowest_arc d c) inside);
  }

  -- a parent's number is settled before its child's
  pub only_preorder : (number : ℕ → ℕ) → Preorder d number → (r : ℕ) → r < regions d → number r ≡ new_number d r
  only_preorder number N r l = below (suc r) r (omega arith) l
    where
      below : (bound r : ℕ) → r < bound → r < regions d → number r ≡ new_number d r
      below zero r b l = absurd (omega arith)
      below (suc bound) zero b l = N.root ∙ sym preorder.root
      below (suc bound) (suc r) b l =
          let pos : 0 < suc r = omega arith in
          let down = P.lower (suc r) pos l in
          N.step (suc r) pos l
          ∙ ap (λ (n : ℕ). n + rise d (suc r)) (below bound (parent d (suc r)) (omega arith) (omega arith))
          ∙ sym (preorder.step (suc r) pos l)
