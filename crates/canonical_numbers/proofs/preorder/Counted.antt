-- What a region has counted while its children come past: itself and what they hold, so all that it holds once every child is past, and never more.
use Prim.Native.Nat.{ℕ, ◌+◌, ◌≤◌, ◌<◌}
use mathlib.Core.Bool.{Bool, true, false, cond, ◌&&◌, and-false}
use mathlib.Core.Path.{◌≡◌, sym, ap, ◌∙◌}
use mathlib.Core.Logic.{◌≢◌}
use mathlib.Core.List.{List}
use native.Mathlib.Omega.{arith}
use lib.ListN.{set, length-set, replicate, length-replicate, get_or-replicate}
use lib.Seq.{get_or-set_same}
use Rattle.indices.specs.Columns.{at}
use Rattle.indices.proofs.Tests.{and_left, and_both, and_same, same_truth, count_le}
use Rattle.indices.proofs.Totals.{total_same, total_one, total_le, total_mono}
use Rattle.indices.proofs.Steps.{by_equal, set_elim}
use Rattle.procedure.specs.Division.{Division, regions, parent, is_child}
use Rattle.procedure.proofs.Children.{child_later, child_parent, is_child_lem}
use Rattle.canonical_form.specs.Numbering.{holds, size, sizes_of}
use Rattle.canonical_form.specs.Inner.{Proper}
use Rattle.canonical_form.proofs.Preorder.{size_step}
use Rattle.canonical_numbers.specs.Numbers.{Counted}

-- SUMS OF SIZES
module _ (d : Division) where
  -- tests that agree
  pub sizes_same : (p q : ℕ → Bool) → ((c : ℕ) → c < regions d → p c ≡ q c) → sizes_of d p ≡ sizes_of d q
  sizes_same p q h =
      total_same (λ c. cond (q c) (size d c) 0) (λ c. cond (p c) (size d c) 0) (regions d) (λ c l. ap (λ (b : Bool). cond b (size d c) 0) (h c l))

  -- no region passes
  sizes_none : (p : ℕ → Bool) → ((c : ℕ) → c < regions d → p c ≡ false) → sizes_of d p ≡ 0
  sizes_none p h = omega (arith, total_le (λ c. cond (p c) (size d c) 0) (regions d) 0 (λ c l. rw (h c l) (omega arith)))

  -- one region more passes
  sizes_one : (p q : ℕ → Bool) (k : ℕ) → k < regions d → ((c : ℕ) → c < regions d → c ≢ k → q c ≡ p c) → p k ≡ false → q k ≡ true
      → sizes_of d q ≡ sizes_of d p + size d k
  sizes_one p q k l h out here =
      let f : ℕ → ℕ = λ c. cond (p c) (size d c) 0 in
      let g : ℕ → ℕ = λ c. cond (q c) (size d c) 0 in
      let fk : f k ≡ 0 = ap (λ (b : Bool). cond b (size d k) 0) out in
      let gk : g k ≡ size d k = ap (λ (b : Bool). cond b (size d k) 0) here in
      omega (arith, total_one f g k (regions d) l (λ c lc ne. ap (λ (b : Bool). cond b (size d c) 0) (h c lc ne)))

-- WHAT EACH REGION HAS COUNTED
-- where no child is past: itself
pub counted_none : (d : Division) (past : ℕ → Bool) {counts : List ℕ} {n : ℕ} → ((c : ℕ) → c < regions d → past c ≡ false) → n ≡ regions d
    → counts ≡ replicate n 1 → Counted d past counts
counted_none d past {counts} {n} none e ones = rw ones (record {
  all = length-replicate n 1 ∙ e;
  same =
      λ q l.
      get_or-replicate n q 1 0 (omega arith)
      ∙ ap (λ (x : ℕ). 1 + x) (sym (sizes_none d (λ c. is_child d q c && past c) (λ c lc. rw (none c lc) (and-false (is_child d q c)))));
})

module _ {d : Division} {past : ℕ → Bool} {counts : List ℕ} (C : Counted d past counts) where
  -- the same regions are past, region 0 left aside
  pub counted_as : {past' : ℕ → Bool} → ((c : ℕ) → 0 < c → c < regions d → past c ≡ past' c) → Counted d past' counts
  counted_as {past'} agree = record {
    all = C.all;
    same =
        λ q l.
        C.same q l
        ∙ ap (λ (x : ℕ). 1 + x)
        (sizes_same d (λ c. is_child d q c && past c) (λ c. is_child d q c && past' c)
        (λ c lc. and_same (is_child d q c) (past c) (past' c) (λ child. agree c (child_later d q c child) lc)));
  }

  module _ (P : Proper d) where
    -- where every child is past: all that the region holds
    pub counted_all : (q : ℕ) → q < regions d → ((c : ℕ) → c < regions d → is_child d q c ≡ true → past c ≡ true) → at counts q ≡ size d q
    counted_all q l past_all =
        C.same q l
        ∙ ap (λ (x : ℕ). 1 + x)
        (sizes_same d (λ c. is_child d q c && past c) (is_child d q)
        (λ c lc.
        same_truth (is_child d q c && past c) (is_child d q c) (and_left (is_child d q c) (past c))
        (λ child. and_both (is_child d q c) (past c) child (past_all c lc child))))
        ∙ sym (size_step d P q l)

    -- and never more than there are regions
    counted_most : (q : ℕ) → q < regions d → at counts q ≤ regions d
    unfolding size
    counted_most q l =
        omega (
          arith,
          C.same q l,
          size_step d P q l,
          count_le (holds d q) (regions d),
          total_mono (λ c. cond (is_child d q c && past c) (size d c) 0) (λ c. cond (is_child d q c) (size d c) 0) (regions d)
              (λ c _. by_parts (is_child d q c) (past c) (size d c)),
        )
      where
        by_parts : (a b : Bool) (x : ℕ) → cond (a && b) x 0 ≤ cond a x 0
        by_parts true true x = omega arith
        by_parts true false x = omega arith
        by_parts false b x = omega arith

-- REGION r COMES PAST, and no other: its parent counts what it holds
module _ {d : Division} {past past' : ℕ → Bool} {counts : List ℕ} {r : ℕ} (P : Proper d) (C : Counted d past counts) (later : 0 < r) (inside : r < regions d)
    (not_yet : past r ≡ false) (now-past : past' r ≡ true) (others : (c : ℕ) → 0 < c → c < regions d → c ≢ r → past' c ≡ past c) where
  other_child : (q c : ℕ) → c < regions d → c ≢ r → is_child d q c && past' c ≡ is_child d q c && past c
  other_child q c l ne = and_same (is_child d q c) (past' c) (past c) (λ child. others c (child_later d q c child) l ne)

  pub counted_more : Counted d past' (set counts (parent d r) (at counts (parent d r) + size d r))
  counted_more = record {
    all = simp length-set C.all;
    same =
        λ q l.
        set_elim (λ x. x ≡ 1 + sizes_of d (λ c. is_child d q c && past' c)) counts (parent d r) q _ 0 (omega (arith, C.all, P.lower r later inside))
        (λ e.
        omega (
          arith,
          C.same q l,
          ap (at counts) e,
          sizes_one d (λ c. is_child d q c && past c) (λ c. is_child d q c && past' c) r inside (other_child q)
              (ap (λ (b : Bool). is_child d q r && b) not_yet ∙ and-false (is_child d q r))
              (and_both (is_child d q r) (past' r) (is_child_lem d q r later (sym e)) now-past),
        ))
        (λ ne.
        C.same q l
        ∙ ap (λ (x : ℕ). 1 + x)
        (sizes_same d (λ c. is_child d q c && past c) (λ c. is_child d q c && past' c)
        (λ c lc.
        and_same (is_child d q c) (past c) (past' c)
        (λ child.
        by_equal c r (λ e. absurd (ne (sym (child_parent d q c child) ∙ ap (parent d) e))) (λ other. sym (others c (child_later d q c child) lc other))))));
  }

  pub counted_fits : at counts (parent d r) + size d r ≤ regions d
  counted_fits =
      let low = P.lower r later inside in
      omega (
        arith,
        counted_most counted_more P (parent d r) (omega arith),
        get_or-set_same counts (parent d r) (at counts (parent d r) + size d r) 0 (omega (arith, C.all)),
      )
