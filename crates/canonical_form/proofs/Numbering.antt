-- The canonical numbering of a division is a renumbering: paths tell regions apart, so new numbers do, and a parent's is below its child's.
use Prim.Native.Nat.{ℕ, zero, suc, ◌+◌, ◌-◌, ◌≤◌, ◌<◌}
use mathlib.Core.Bool.{Bool, true, false, cond}
use mathlib.Core.Path.{◌≡◌, refl, sym, ap, ◌∙◌}
use mathlib.Core.Logic.{◌≢◌, ⊎_elim}
use mathlib.Core.List.{List, [], ◌∷◌, ◌++◌}
use native.Mathlib.Nat.{zero-add, suc-add, not-suc-le-zero}
use native.Mathlib.Omega.{arith}
use borrow.Author.Tests.{eqb-true, eq-eqb, lt-ltb}
use lib.Dec.{ltb, eqb, ltb→lt}
use Rattle.indices.proofs.Tests.{never, any_hit, any_found, count_le, count_out_all}
use Rattle.indices.proofs.Totals.{count_less}
use Rattle.indices.proofs.Least.{least_le, least_at}
use Rattle.indices.proofs.Renumbering.{search_reaches}
use Rattle.indices.proofs.Steps.{if_cong, eq_or_ne, lt_or_le}
use Rattle.sheet.specs.Words.{top}
use Rattle.procedure.specs.Division.{Division, regions, parent, arc_of}
use Rattle.canonical_form.specs.Numbering.{sooner, above, ancestor, holds, lowest_arc, path_for, path, new_number, old_number}
use Rattle.canonical_form.specs.Inner.{Proper}
use Rattle.canonical_form.proofs.Dictionary.{nothing_sooner, sooner_irreflexive, sooner_onward, onward_apart, rank_rises, rank_apart}

-- a value under a test, below `top`, has the test held-value
held_value : (b : Bool) (x y : ℕ) → cond b x top ≡ y → y < top → (b ≡ true) × (x ≡ y)
held_value true x y e l = (refl, e)
held_value false x y e l = absurd (omega arith)

module _ (d : Division) where
  pub above_parent : (r : ℕ) → 0 < r → above d r ≡ parent d r
  above_parent r pos = rw (lt-ltb 0 r pos)

  -- first up k levels, then j more
  pub ancestor_add : (k j r : ℕ) → ancestor d (k + j) r ≡ ancestor d j (ancestor d k r)
  unfolding ancestor
  ancestor_add zero j r = rw zero-add
  ancestor_add (suc k) j r = rw suc-add (ancestor_add k j (above d r))

  path_from_root : (k : ℕ) → path_for d k 0 ≡ []
  unfolding path_for
  path_from_root zero = refl
  path_from_root (suc k) = refl

  pub path_root : path d 0 ≡ []
  unfolding path
  path_root = path_from_root 0

module _ (d : Division) (P : Proper d) where
  -- ANCESTORS
  above_le : (r : ℕ) → r < regions d → above d r ≤ r
  above_le zero l = omega arith
  above_le (suc r) l = rw (above_parent d (suc r) (omega arith)) (omega (arith, P.lower (suc r) (omega arith) l))

  pub ancestor_le : (k r : ℕ) → r < regions d → ancestor d k r ≤ r
  unfolding ancestor
  ancestor_le zero r l = omega arith
  ancestor_le (suc k) r l = omega (arith, above_le r l, ancestor_le k (above d r) (omega (arith, above_le r l)))

  -- each level falls by one or more
  ancestor_falls : (k r : ℕ) → r < regions d → 0 < ancestor d k r → k + ancestor d k r ≤ r
  unfolding ancestor
  ancestor_falls zero r l pos = omega arith
  ancestor_falls (suc k) zero l pos = absurd (omega (arith, ancestor_falls k 0 l pos))
  ancestor_falls (suc k) (suc r) l pos =
      let down : above d (suc r) < suc r = rw (above_parent d (suc r) (omega arith)) (P.lower (suc r) (omega arith) l) in
      omega (arith, ancestor_falls k (above d (suc r)) (omega arith) pos)

  -- as many levels up as its number, region 0 is reached
  root_reached : (s : ℕ) → s < regions d → ancestor d s s ≡ 0
  root_reached s l =
      ⊎_elim (λ (e : ancestor d s s ≡ 0). e) (λ (ne : ancestor d s s ≢ 0). absurd (omega (arith, ancestor_falls s s l (omega arith))))
      (eq_or_ne (ancestor d s s) 0)

  hit : (k r s : ℕ) → k < regions d → ancestor d k s ≡ r → holds d r s ≡ true
  unfolding holds
  hit k r s lk e = any_hit (λ k. eqb (ancestor d k s) r) k (regions d) lk (eq-eqb (ancestor d k s) r e)

  pub holds_ancestor : (k r s : ℕ) → s < regions d → ancestor d k s ≡ r → holds d r s ≡ true
  holds_ancestor k zero s l e = hit s 0 s l (root_reached s l)
  holds_ancestor k (suc r) s l e = hit k (suc r) s (omega (arith, ancestor_falls k s l (omega arith))) e

  pub held_below : (r s : ℕ) → holds d r s ≡ true → (k : ℕ) × (ancestor d k s ≡ r)
  unfolding holds
  held_below r s h = let w = any_found (λ k. eqb (ancestor d k s) r) (regions d) h in (w.0, eqb-true (ancestor d w.0 s) r w.2)

  -- what holds a region has no higher number
  pub holder_le : (r s : ℕ) → s < regions d → holds d r s ≡ true → r ≤ s
  holder_le r s l h = let k = held_below r s h in omega (arith, ancestor_le k.0 s l, k.1)

  -- LOWEST ARCS
  -- every region but 0 holds a leaf; the first argument bounds how deep it lies
  holds_leaf : (depth r : ℕ) → 0 < r → r < regions d → regions d ≤ r + depth → (s : ℕ) × (s < regions d) × (arc_of d s < top) × (holds d r s ≡ true)
  unfolding ancestor
  holds_leaf zero r pos l deep = absurd (omega arith)
  holds_leaf (suc depth) r pos l deep =
      ⊎_elim (λ (leaf : arc_of d r < top). (r, l, leaf, holds_ancestor 0 r r l refl))
      (λ (child : (c : ℕ) × (c < regions d) × (0 < c) × (parent d c ≡ r)).
      let c = child.0 in
      let w = holds_leaf depth c child.2 child.1 (omega (arith, P.lower c child.2 child.1, child.3)) in
      let k = held_below c w.0 w.3 in
      let up : ancestor d (k.0 + 1) w.0 ≡ r =
      ancestor_add d k.0 1 w.0 ∙ ap (ancestor d 1) k.1 ∙ above_parent d c child.2 ∙ child.3 in
      (w.0, w.1, w.2, holds_ancestor (k.0 + 1) r w.0 w.1 up))
      (P.not_empty r pos l)

  -- the leaf of a region's lowest arc
  pub lowest_leaf : (r : ℕ) → 0 < r → r < regions d → (s : ℕ) × (s < regions d) × (arc_of d s ≡ lowest_arc d r) × (lowest_arc d r < top) × (holds d r s ≡ true)
  unfolding lowest_arc
  lowest_leaf r pos l =
      let f : ℕ → ℕ = λ s. cond (holds d r s) (arc_of d s) top in
      let w = holds_leaf (regions d) r pos l (omega arith) in
      let held : f w.0 ≡ arc_of d w.0 = ap (λ (b : Bool). cond b (arc_of d w.0) top) w.3 in
      let low : lowest_arc d r < top = omega (arith, least_le top f (regions d) w.0 w.1, w.2) in
      let v = least_at top f (regions d) low in
      let p = held_value (holds d r v.0) (arc_of d v.0) (lowest_arc d r) v.2 low in
      (v.0, v.1, p.1, low, p.0)

  -- no arc that it holds is lower
  pub lowest_le : (r s : ℕ) → s < regions d → holds d r s ≡ true → lowest_arc d r ≤ arc_of d s
  unfolding lowest_arc
  lowest_le r s l h =
      let f : ℕ → ℕ = λ s. cond (holds d r s) (arc_of d s) top in
      let here : f s ≡ arc_of d s = ap (λ (b : Bool). cond b (arc_of d s) top) h in
      omega (arith, least_le top f (regions d) s l)

  -- one region above another has another parent
  not_above : (k j r t s : ℕ) → s < regions d → 0 < r → 0 < t → ancestor d k s ≡ r → ancestor d (k + suc j) s ≡ t → parent d r ≡ parent d t → ⊥
  unfolding ancestor
  not_above k j r t s l pr pt er et same =
      let lt : t < regions d = omega (arith, ancestor_le (k + suc j) s l) in
      let down : parent d t < t = P.lower t pt lt in
      let up : t ≡ ancestor d j (parent d t) =
      sym et ∙ ancestor_add d k (suc j) s ∙ ap (λ (q : ℕ). ancestor d j (above d q)) er ∙ ap (ancestor d j) (above_parent d r pr ∙ same) in
      omega (arith, ancestor_le j (parent d t) (omega arith))

  -- of the children of a region, one at most holds s
  pub one_holds : (r t s : ℕ) → 0 < r → 0 < t → s < regions d → parent d r ≡ parent d t → holds d r s ≡ true → holds d t s ≡ true → r ≡ t
  one_holds r t s pr pt l same hr ht =
      let k = held_below r s hr in
      let j = held_below t s ht in
      by_level k.0 j.0 k.1 j.1
    where
      at_level : (k j : ℕ) → k ≡ j → ancestor d k s ≡ ancestor d j s
      at_level k j e = ap (λ (i : ℕ). ancestor d i s) e

      by_level : (k j : ℕ) → ancestor d k s ≡ r → ancestor d j s ≡ t → r ≡ t
      by_level k j er et =
          ⊎_elim (λ (e : k ≡ j). sym er ∙ at_level k j e ∙ et)
          (λ (ne : k ≢ j).
          ⊎_elim
          (λ (m : k < j). absurd (not_above k (j - suc k) r t s l pr pt er (at_level (k + suc (j - suc k)) j (omega arith) ∙ et) same))
          (λ (m : j ≤ k). absurd (not_above j (k - suc j) t r s l pt pr et (at_level (j + suc (k - suc j)) k (omega arith) ∙ er) (sym same)))
          (lt_or_le k j))
          (eq_or_ne k j)

  pub siblings_apart : (r t : ℕ) → 0 < r → 0 < t → r < regions d → t < regions d → parent d r ≡ parent d t → lowest_arc d r ≡ lowest_arc d t → r ≡ t
  siblings_apart r t pr pt lr lt same low =
      let v = lowest_leaf r pr lr in
      let w = lowest_leaf t pt lt in
      let s = v.0 in
      let leaf : w.0 ≡ s = P.one_leaf w.0 s w.1 v.1 (omega (arith, w.2, w.3)) (w.2 ∙ sym low ∙ sym v.2) in
      one_holds r t s pr pt v.1 same v.4 (ap (holds d t) (sym leaf) ∙ w.4)

  -- PATHS
  -- enough is enough
  path_enough : (k j r : ℕ) → r < regions d → r ≤ k → r ≤ j → path_for d k r ≡ path_for d j r
  unfolding path_for
  path_enough zero j r l lk lj = let e : r ≡ 0 = omega arith in rw e (sym (path_from_root d j))
  path_enough (suc k) zero r l lk lj = let e : r ≡ 0 = omega arith in rw e
  path_enough (suc k) (suc j) r l lk lj =
      if_cong (ltb 0 r) (path_for d k (parent d r) ++ (lowest_arc d r ∷ [])) (path_for d j (parent d r) ++ (lowest_arc d r ∷ [])) []
      (λ t.
      let down = P.lower r (ltb→lt 0 r t) l in
      ap (λ (way : List ℕ). way ++ (lowest_arc d r ∷ [])) (path_enough k j (parent d r) (omega arith) (omega arith) (omega arith)))

  pub path_step : (r : ℕ) → 0 < r → r < regions d → path d r ≡ path d (parent d r) ++ (lowest_arc d r ∷ [])
  unfolding path path_for
  path_step zero pos l = absurd (omega arith)
  path_step (suc r) pos l =
      let down = P.lower (suc r) pos l in
      rw (lt-ltb 0 (suc r) pos)
      (ap (λ (way : List ℕ). way ++ (lowest_arc d (suc r) ∷ []))
      (path_enough r (parent d (suc r)) (parent d (suc r)) (omega arith) (omega arith) (omega arith)))

  not_root : (r : ℕ) → 0 < r → r < regions d → path d r ≡ [] → ⊥
  unfolding sooner
  not_root r pos l e = by_end (path d (parent d r)) (sym (path_step r pos l) ∙ e)
    where
      by_end : (xs : List ℕ) → xs ++ (lowest_arc d r ∷ []) ≡ [] → ⊥
      by_end [] e = let z : ◌≡◌ {A = ℕ} 0 1 = cc in omega arith
      by_end (x ∷ xs) e = let z : ◌≡◌ {A = ℕ} 0 1 = cc in omega arith

  paths_differ : (bound r s : ℕ) → r < bound → r < regions d → s < regions d → path d r ≡ path d s → r ≡ s
  paths_differ zero r s b lr ls e = absurd (not-suc-le-zero b)
  paths_differ (suc bound) zero zero b lr ls e = refl
  paths_differ (suc bound) zero (suc s) b lr ls e = absurd (not_root (suc s) (omega arith) ls (sym e ∙ path_root d))
  paths_differ (suc bound) (suc r) zero b lr ls e = absurd (not_root (suc r) (omega arith) lr (e ∙ path_root d))
  paths_differ (suc bound) (suc r) (suc s) b lr ls e =
      let pos : 0 < suc r = omega arith in
      let pos' : 0 < suc s = omega arith in
      let down = P.lower (suc r) pos lr in
      let down' = P.lower (suc s) pos' ls in
      let w = onward_apart (path d (parent d (suc r))) (path d (parent d (suc s))) (lowest_arc d (suc r)) (lowest_arc d (suc s))
      (sym (path_step (suc r) pos lr) ∙ e ∙ path_step (suc s) pos' ls) in
      siblings_apart (suc r) (suc s) pos pos' lr ls
      (paths_differ bound (parent d (suc r)) (parent d (suc s)) (omega arith) (omega arith) (omega arith) w.0) w.1

  pub paths_apart : (r s : ℕ) → r < regions d → s < regions d → path d r ≡ path d s → r ≡ s
  paths_apart r s lr ls e = paths_differ (suc r) r s (omega arith) lr ls e

  -- NEW NUMBERS
  pub new_apart : (r s : ℕ) → r < regions d → s < regions d → new_number d r ≡ new_number d s → r ≡ s
  unfolding new_number
  new_apart = rank_apart (path d) (regions d) paths_apart

  pub new_in : (r : ℕ) → r < regions d → new_number d r < regions d
  unfolding new_number
  new_in r l =
      let all : ℕ → Bool = λ _. true in
      let out : sooner (path d r) (path d r) ≡ false = never (sooner (path d r) (path d r)) (sooner_irreflexive (path d r)) in
      omega (arith, count_less all (λ s. sooner (path d s) (path d r)) r (regions d) l (λ i _ _. refl) out refl, count_le all (regions d))

  pub new_root : new_number d 0 ≡ 0
  unfolding new_number
  new_root = rw (path_root d) (count_out_all (λ s. sooner (path d s) []) (regions d) (λ s _. nothing_sooner (path d s)))

  -- "parent first"
  pub parent_first : (r : ℕ) → 0 < r → r < regions d → new_number d (parent d r) < new_number d r
  unfolding new_number
  parent_first r pos l =
      rank_rises (path d) (regions d) (parent d r) r (omega (arith, P.lower r pos l))
      (rw (path_step r pos l) (sooner_onward (path d (parent d r)) (lowest_arc d r)))

  pub old_in : (k : ℕ) → k < regions d → old_number d k < regions d
  unfolding old_number
  old_in k l = (search_reaches (regions d) (new_number d) new_in new_apart k l).0

  pub new_old : (k : ℕ) → k < regions d → new_number d (old_number d k) ≡ k
  unfolding old_number
  new_old k l = (search_reaches (regions d) (new_number d) new_in new_apart k l).1

  pub old_new : (r : ℕ) → r < regions d → old_number d (new_number d r) ≡ r
  old_new r l = new_apart (old_number d (new_number d r)) r (old_in (new_number d r) (new_in r l)) l (new_old (new_number d r) (new_in r l))

  pub old_later : (k : ℕ) → 0 < k → k < regions d → 0 < old_number d k
  old_later k pos l =
      ⊎_elim (λ (e : old_number d k ≡ 0). absurd (omega (arith, ap (new_number d) e, new_old k l, new_root))) (λ (ne : old_number d k ≢ 0). omega arith)
      (eq_or_ne (old_number d k) 0)
