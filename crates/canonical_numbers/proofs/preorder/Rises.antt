-- The climb from an arc's leaf: a region has its turn with its lowest arc, after the siblings that hold a lower one.
use Prim.Native.Nat.{ℕ, suc, ◌+◌, ◌≤◌, ◌<◌}
use mathlib.Core.Bool.{Bool, true, false, cond, ◌&&◌, and-false, or-true, or-false}
use mathlib.Core.Path.{◌≡◌, sym, ap, ◌∙◌}
use mathlib.Core.Logic.{◌≢◌}
use mathlib.Core.List.{List}
use native.Mathlib.Omega.{arith}
use borrow.Author.Tests.{lt-ltb, le-ltb, ltb-true, ltb-false, eq-eqb, ne_eqb}
use lib.ListN.{length, set, length-set}
use lib.Dec.{ltb, eqb}
use Rattle.indices.specs.Columns.{at}
use Rattle.indices.proofs.Tests.{or_left, never, and_same}
use Rattle.indices.proofs.Steps.{by_equal, by_order, by_truth, set_elim}
use Rattle.run_arrays.specs.Sections.{most_regions}
use Rattle.procedure.specs.Division.{Division, regions, parent, is_child}
use Rattle.procedure.proofs.Children.{child_later, child_parent}
use Rattle.canonical_form.specs.Numbering.{holds, lowest_arc, rise}
use Rattle.canonical_form.proofs.Numbering.{lowest_leaf, siblings_apart, holds_ancestor, holder_le, lowest_le}
use Rattle.canonical_form.proofs.Preorder.{no_level, holds_up, holds_down}
use Rattle.canonical_numbers.specs.Numbers.{passed, Rising, Ready}
use Rattle.canonical_numbers.proofs.preorder.Counted.{sizes_same, counted_as, counted_more, counted_fits}
use Rattle.canonical_numbers.proofs.preorder.Chains.{lowest_falls, lower_holds_parent}

-- WHO HAD ITS TURN
module _ (d : Division) (a r c : ℕ) where
  -- where the climb from arc a does not matter, the arcs before it decide
  pub passed_before : (lowest_arc d c ≡ a → r < c → ⊥) → passed d a r c ≡ ltb (lowest_arc d c) a
  passed_before h =
      by_equal (lowest_arc d c) a
      (λ e. by_order r c (λ l. absurd (h e l)) (λ l. rw (le-ltb r c l, and-false (eqb (lowest_arc d c) a)) (or-false (ltb (lowest_arc d c) a))))
      (λ ne. rw (ne_eqb (lowest_arc d c) a ne) (or-false (ltb (lowest_arc d c) a)))

  passed_now : lowest_arc d c ≡ a → r < c → passed d a r c ≡ true
  passed_now e l = rw (eq-eqb (lowest_arc d c) a e, lt-ltb r c l) (or-true (ltb (lowest_arc d c) a))

-- all are regions, so that no climb from arc a is made
pub passed_none : (d : Division) (a c : ℕ) → c < regions d → passed d a (regions d) c ≡ ltb (lowest_arc d c) a
passed_none d a c l = passed_before d a (regions d) c (λ _ m. omega arith)

-- the same regions had their turn
rising_as : {d : Division} {a r a' r' : ℕ} {nexts rises : List ℕ} → ((c : ℕ) → 0 < c → c < regions d → passed d a r c ≡ passed d a' r' c)
    → Rising d a r nexts rises → Rising d a' r' nexts rises
rising_as {d} agree R = record {
  counted = counted_as R.counted agree;
  all = R.all;
  root = R.root;
  risen = λ c pos l. R.risen c pos l ∙ ap (λ (b : Bool). cond b (rise d c) 0) (agree c pos l);
}

rise_positive : (d : Division) (c : ℕ) → 0 < rise d c
unfolding rise
rise_positive d c = omega arith

-- THE CLIMB IS AT REGION r
pub record Climbing (d : Division) (a leaf r : ℕ) (nexts rises : List ℕ) : Type 0 where
  pub inside : r < regions d
  pub held : holds d r leaf ≡ true
  pub rising : Rising d a r nexts rises

-- what the code asks at a region whose turn it is
pub record ClimbBounds (parents sizes nexts rises : List ℕ) (r : ℕ) : Type 0 where
  pub in_parents : r < length parents
  pub in_sizes : r < length sizes
  pub in_rises : r < length rises
  pub in_nexts : at parents r < length nexts
  pub falls : at parents r < r
  pub few : r < most_regions
  pub fits : at nexts (at parents r) + at sizes r ≤ most_regions

module _ {d : Division} {a leaf : ℕ} {parents sizes nexts₀ rises₀ : List ℕ} (A : Ready d a parents sizes leaf nexts₀ rises₀) where
  -- the regions whose lowest arc is a hold its leaf
  holds_leaf : (c : ℕ) → 0 < c → c < regions d → lowest_arc d c ≡ a → holds d c leaf ≡ true
  holds_leaf c pos l e =
      let F = A.leaf_of_lem in
      let w = lowest_leaf d A.laid.proper c pos l in
      let same : leaf ≡ w.0 =
      A.laid.proper.one_leaf leaf w.0 F.inside w.1 (omega (arith, F.arc, F.below)) (F.arc ∙ sym e ∙ sym w.2) in
      ap (holds d c) same ∙ w.4

  pub climb_begins : Climbing d a leaf leaf nexts₀ rises₀
  climb_begins =
      let P = A.laid.proper in
      let F = A.leaf_of_lem in
      record {
        inside = F.inside;
        held = holds_ancestor d P 0 leaf leaf F.inside (no_level d P leaf);
        rising =
            rising_as
            (λ c pos l.
            passed_none d a c l
            ∙ sym (passed_before d a leaf c (λ e m. omega (arith, holder_le d P c leaf F.inside (holds_leaf c pos l e)))))
            A.rising;
      }

  module _ {r : ℕ} {nexts rises : List ℕ} (C : Climbing d a leaf r nexts rises) where
    -- a region whose lowest arc is a, and that is not passed, holds the parent of r
    holds_parent : (c : ℕ) → 0 < c → c < r → lowest_arc d c ≡ a → holds d c (parent d r) ≡ true
    holds_parent c pos m e =
        let inside = C.inside in
        lower_holds_parent d A.laid.proper c r leaf A.leaf_of_lem.inside (omega arith) inside (holds_leaf c pos (omega arith) e) C.held m

    -- THE CLIMB ENDS at a region that had its turn, or at region 0: all that hold the leaf and have no lower arc are passed
    module _ (stopped : at rises r ≡ 0 → ⊥) where
      lower_here : 0 < r → lowest_arc d r < a
      lower_here later =
          by_truth (passed d a r r) (λ t. ltb-true (lowest_arc d r) a (sym (passed_before d a r r (λ _ m. omega arith)) ∙ t))
          (λ t. absurd (stopped (C.rising.risen r later C.inside ∙ ap (λ (b : Bool). cond b (rise d r) 0) t)))

      all_above : (c : ℕ) → 0 < c → c < regions d → lowest_arc d c ≡ a → r < c
      all_above c pos l e =
          by_order r c (λ m. m)
          (λ m.
          let P = A.laid.proper in
          let later : 0 < r = omega arith in
          let low = lower_here later in
          by_equal c r (λ s. absurd (omega (arith, ap (lowest_arc d) s)))
          (λ s.
          let up = holds_parent c pos (omega arith) e in
          absurd (omega (arith, lowest_falls d P c r later C.inside (holds_down d P c r later C.inside up)))))

      pub climb_ends : Rising d (suc a) (regions d) nexts rises
      climb_ends =
          rising_as
          (λ c pos l.
          by_equal (lowest_arc d c) a
          (λ e. passed_now d a r c e (all_above c pos l e) ∙ sym (lt-ltb (lowest_arc d c) (suc a) (omega arith)) ∙ sym (passed_none d (suc a) c l))
          (λ ne. passed_before d a r c (λ e _. ne e) ∙ not_at (lowest_arc d c) ne ∙ sym (passed_none d (suc a) c l)))
          C.rising
        where
          not_at : (x : ℕ) → x ≢ a → ltb x a ≡ ltb x (suc a)
          not_at x ne =
              by_order x a (λ l. lt-ltb x a l ∙ sym (lt-ltb x (suc a) (omega arith))) (λ l. le-ltb x a l ∙ sym (le-ltb x (suc a) (omega arith)))

    -- REGION r HAS ITS TURN
    module _ (no_rise : at rises r ≡ 0) where
      abbrev p : ℕ
      p = parent d r

      pub climb_later : 0 < r
      climb_later = by_equal r 0 (λ e. absurd (omega (arith, ap (at rises) e, C.rising.root))) (λ ne. omega arith)

      falls : p < r
      falls = A.laid.proper.lower r climb_later C.inside

      parent_inside : p < regions d
      parent_inside = omega (arith, falls, C.inside)

      not_yet : passed d a r r ≡ false
      not_yet =
          never (passed d a r r)
          (λ t. omega (arith, rise_positive d r, C.rising.risen r climb_later C.inside ∙ ap (λ (b : Bool). cond b (rise d r) 0) t))

      lowest_here : lowest_arc d r ≡ a
      lowest_here =
          let high = ltb-false (lowest_arc d r) a (or_left (ltb (lowest_arc d r) a) _ not_yet) in
          omega (arith, lowest_le d A.laid.proper r leaf A.leaf_of_lem.inside C.held, A.leaf_of_lem.arc)

      -- its siblings that had their turn are those that hold a lower arc, so that what its parent has counted is its rise
      next_rise : at nexts p ≡ rise d r
      unfolding rise
      next_rise =
          C.rising.counted.same p parent_inside
          ∙ ap (λ (x : ℕ). 1 + x)
          (sizes_same d (λ c. is_child d p c && passed d a r c) (λ c. is_child d p c && ltb (lowest_arc d c) (lowest_arc d r))
          (λ c l. and_same (is_child d p c) (passed d a r c) (ltb (lowest_arc d c) (lowest_arc d r)) (sibling c l)))
        where
          sibling : (c : ℕ) → c < regions d → is_child d p c ≡ true → passed d a r c ≡ ltb (lowest_arc d c) (lowest_arc d r)
          sibling c l child =
              let pos = child_later d p c child in
              passed_before d a r c
              (λ low m.
              omega (
                arith,
                siblings_apart d A.laid.proper c r pos climb_later l C.inside (child_parent d p c child) (low ∙ sym lowest_here),
              ))
              ∙ ap (ltb (lowest_arc d c)) (sym lowest_here)

      its_turn : passed d a p r ≡ true
      its_turn = passed_now d a p r lowest_here falls

      no_other : (c : ℕ) → 0 < c → c < regions d → c ≢ r → passed d a p c ≡ passed d a r c
      no_other c pos l ne =
          by_equal (lowest_arc d c) a
          (λ e.
          by_order r c (λ m. passed_now d a p c e (omega (arith, falls)) ∙ sym (passed_now d a r c e m))
          (λ m.
          let up = holds_parent c pos (omega arith) e in
          passed_before d a p c (λ _ n. omega (arith, holder_le d A.laid.proper c p parent_inside up)) ∙ sym (passed_before d a r c (λ _ n. omega arith))))
          (λ low. passed_before d a p c (λ e _. low e) ∙ sym (passed_before d a r c (λ e _. low e)))

      pub climb_on : (q : ℕ) → q ≡ p → Climbing d a leaf q (set nexts q (at nexts q + at sizes r)) (set rises r (at nexts q))
      climb_on q e = rw (e, A.sized.same r C.inside) (record {
        inside = parent_inside;
        held = holds_up d A.laid.proper r leaf climb_later A.leaf_of_lem.inside C.held;
        rising = record {
          counted = counted_more A.laid.proper C.rising.counted climb_later C.inside not_yet its_turn no_other;
          all = simp length-set C.rising.all;
          root = set_elim (λ x. x ≡ 1) rises r 0 (at nexts p) 0 within (λ w. absurd (omega (arith, climb_later))) (λ _. C.rising.root);
          risen =
              λ c pos l.
              set_elim (λ x. x ≡ cond (passed d a p c) (rise d c) 0) rises r c (at nexts p) 0 within
              (λ w. next_rise ∙ ap (rise d) (sym w) ∙ sym (ap (λ (b : Bool). cond b (rise d c) 0) (ap (passed d a p) w ∙ its_turn)))
              (λ ne. C.rising.risen c pos l ∙ ap (λ (b : Bool). cond b (rise d c) 0) (sym (no_other c pos l ne)));
        };
      })
        where
          within : r < length rises
          within = omega (arith, C.rising.all, C.inside)

      pub climb_bounds : ClimbBounds parents sizes nexts rises r
      climb_bounds =
          let up = A.laid.column.same r climb_later C.inside in
          let low = falls in
          let within = C.inside in
          let all = A.laid.column.all in
          let few = A.laid.few in
          let sized = A.sized.all in
          let nexts_all = C.rising.counted.all in
          let rises-all = C.rising.all in
          record {
            in_parents = omega arith;
            in_sizes = omega arith;
            in_rises = omega arith;
            in_nexts = omega arith;
            falls = omega arith;
            few = omega arith;
            fits =
                rw (up, A.sized.same r within)
                (omega (arith, counted_fits A.laid.proper C.rising.counted climb_later within not_yet its_turn no_other));
          }
