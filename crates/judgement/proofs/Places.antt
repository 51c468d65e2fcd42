-- The kinds of an accepted sheet, by place: the first two words, the spans, the holds, both words of each arc, the region words. So a length alone follows the
-- ends of an arc, and there are as many words of kind 13 as holds.
use Prim.Native.Nat.{ℕ, zero, suc, ◌+◌, ◌-◌, ◌*◌, ◌/◌, ◌%◌, ◌<◌}
use mathlib.Core.Bool.{Bool, true, false, not, ◌||◌}
use mathlib.Core.Path.{◌≡◌, refl, sym, ap, ◌∙◌}
use mathlib.Core.Logic.{◌⊎◌, inl, inr, ⊎_elim}
use mathlib.Core.List.{List}
use native.Mathlib.Omega.{arith}
use borrow.Author.Tests.{eq-eqb, eqb-true, not-false}
use lib.Dec.{ltb, eqb}
use Rattle.indices.specs.Tests.{any, count}
use Rattle.indices.proofs.Steps.{by_order, by_truth}
use Rattle.indices.proofs.Tests.{or_left, or_right, or_then, and_left, and_right, any_at, lead_true, count_out_all, count_all, count_append}
use Rattle.sheet.specs.Words.{words, kind}
use Rattle.sheet.specs.Sections.{of_kind, is_arc, kind_from, arcs_from, span_count, holds_at, hold_count, arc_count, arcs_at, regions_at}
use Rattle.sheet.specs.Sections.{region_words}
use Rattle.sheet.proofs.Bounds.{regions_inside, region_words_lem, region_kind_lem}
use Rattle.judgement.specs.Form.{wrong_front, wrong_sections}
use Rattle.judgement.specs.Kinds.{may_follow, wrong_first, wrong_neighbours, wrong_kinds}
use Rattle.judgement.specs.Judgement.{AcceptedBy}
use Rattle.judgement.proofs.Clear.{in_sections}
use Rattle.judgement.proofs.Accepted.{none_applies, front_there, region_kinds}
use Rattle.judgement.proofs.Order.{by_kinds}

module _ (b : List ℕ) where
  run_kind : (κ from : ℕ) (i : ℕ) → i < kind_from κ b from → kind b (from + i) ≡ κ
  unfolding kind_from
  run_kind κ from i l = eqb-true (kind b (from + i)) κ (lead_true (of_kind κ b from) _ i l)

  pub span_kind : (i : ℕ) → i < span_count b → kind b (2 + i) ≡ 3
  span_kind = run_kind 3 2

  pub hold_kind_lem : (i : ℕ) → i < hold_count b → kind b (holds_at b + i) ≡ 13
  hold_kind_lem = run_kind 13 (holds_at b)

  arc_there : (a : ℕ) → a < arc_count b → is_arc b (arcs_at b) a ≡ true
  unfolding arcs_from
  arc_there a l = lead_true (is_arc b (arcs_at b)) _ a l

  -- both words of arc a
  pub arc_kinds : (a : ℕ) → a < arc_count b → (kind b (arcs_at b + 2 * a) ≡ 4) × (kind b (arcs_at b + 2 * a + 1) ≡ 5)
  arc_kinds a l =
      let ends = eqb (kind b (arcs_at b + 2 * a)) 4 in
      let length = eqb (kind b (arcs_at b + 2 * a + 1)) 5 in
      let here = arc_there a l in
      (eqb-true (kind b (arcs_at b + 2 * a)) 4 (and_left ends length here), eqb-true (kind b (arcs_at b + 2 * a + 1)) 5 (and_right ends length here))

  -- word j of the arcs
  pub arc_kind_lem : (j : ℕ) → j < 2 * arc_count b → (kind b (arcs_at b + j) ≡ 4) ⊎ (kind b (arcs_at b + j) ≡ 5)
  arc_kind_lem j l =
      let a = j / 2 in
      let kinds = arc_kinds a (omega arith) in
      by_order (j % 2) 1
      (λ even. let place : arcs_at b + j ≡ arcs_at b + 2 * a = omega arith in inl (ap (kind b) place ∙ kinds.0))
      (λ odd. let place : arcs_at b + j ≡ arcs_at b + 2 * a + 1 = omega arith in inr (ap (kind b) place ∙ kinds.1))

  module _ {retired : Bool} (ok : AcceptedBy retired b) where
    -- "kind 1, once", "kind 2, once"
    pub front_kinds : (kind b 0 ≡ 1) × (kind b 1 ≡ 2)
    unfolding wrong_sections
    front_kinds =
        let first_two = or_left (wrong_front b) _ (in_sections b (none_applies b ok).order) in
        let first = or_left (ltb (words b) 2 || not (eqb (kind b 0) 1)) (not (eqb (kind b 1) 2)) first_two in (
          eqb-true (kind b 0) 1 (not-false (eqb (kind b 0) 1) (or_right (ltb (words b) 2) (not (eqb (kind b 0) 1)) first)),
          eqb-true (kind b 1) 2 (not-false (eqb (kind b 1) 2) (or_right (ltb (words b) 2 || not (eqb (kind b 0) 1)) (not (eqb (kind b 1) 2)) first_two)),
        )

    -- region word k
    pub region_word_kind : (k : ℕ) → k < words (region_words b) → (kind b (regions_at b + k) ≡ 6) ⊎ (kind b (regions_at b + k) ≡ 7)
    region_word_kind k l =
        let here = kind (region_words b) k in
        by_truth (eqb here 6)
        (λ six. inl (sym (region_kind_lem b k) ∙ eqb-true here 6 six))
        (λ other. inr (sym (region_kind_lem b k) ∙ eqb-true here 7 (or_then (eqb here 6) (eqb here 7) (region_kinds b ok k l) other)))

    -- behind the ends of an arc stands its length
    pub length_follows : (i : ℕ) → i + 1 < words b → kind b i ≡ 4 → kind b (i + 1) ≡ 5
    unfolding wrong_kinds may_follow
    length_follows i l four =
        let right = sym (by_kinds b) ∙ in_sections b (none_applies b ok).order in
        let pairs = or_right (wrong_first b) _ (or_left (wrong_first b || any (wrong_neighbours b) (words b - 1)) _ right) in
        eqb-true (kind b (i + 1)) 5 (not-false _ (rw four at (any_at (wrong_neighbours b) (words b - 1) i pairs (omega arith))))

    -- HOLDS: no other word is of kind 13
    other_kind : (i k : ℕ) → kind b i ≡ k → eqb k 13 ≡ false → eqb (kind b i) 13 ≡ false
    other_kind i k e other = ap (λ (n : ℕ). eqb n 13) e ∙ other

    before_holds : (i : ℕ) → i < holds_at b → eqb (kind b i) 13 ≡ false
    before_holds zero l = other_kind 0 1 front_kinds.0 refl
    before_holds (suc zero) l = other_kind 1 2 front_kinds.1 refl
    before_holds (suc (suc i)) l =
        let place : suc (suc i) ≡ 2 + i = omega arith in
        other_kind (suc (suc i)) 3 (ap (kind b) place ∙ span_kind i (omega arith)) refl

    behind_holds : (j : ℕ) → j < words b - arcs_at b → eqb (kind b (arcs_at b + j)) 13 ≡ false
    behind_holds j l =
        by_order j (2 * arc_count b)
        (λ arc. ⊎_elim (λ e. other_kind (arcs_at b + j) 4 e refl) (λ e. other_kind (arcs_at b + j) 5 e refl) (arc_kind_lem j arc))
        (λ region.
        let k = j - 2 * arc_count b in
        let place : arcs_at b + j ≡ regions_at b + k = omega arith in
        let lk : k < words (region_words b) = omega (arith, region_words_lem b (front_there b ok)) in
        ⊎_elim (λ e. other_kind (arcs_at b + j) 6 (ap (kind b) place ∙ e) refl) (λ e. other_kind (arcs_at b + j) 7 (ap (kind b) place ∙ e) refl)
        (region_word_kind k lk))

    pub holds_counted : count (λ i. eqb (kind b i) 13) (words b) ≡ hold_count b
    holds_counted =
        let p : ℕ → Bool = λ i. eqb (kind b i) 13 in
        let rest = words b - arcs_at b in
        let whole : words b ≡ holds_at b + hold_count b + rest = omega (arith, regions_inside b (front_there b ok)) in
        let held : count (λ i. p (holds_at b + i)) (hold_count b) ≡ hold_count b =
        count_all _ (hold_count b) (λ i l. eq-eqb (kind b (holds_at b + i)) 13 (hold_kind_lem i l)) in
        ap (count p) whole
        ∙ omega (
          arith,
          count_append p (holds_at b + hold_count b) rest,
          count_append p (holds_at b) (hold_count b),
          count_out_all p (holds_at b) before_holds,
          held,
          count_out_all (λ i. p (arcs_at b + i)) rest behind_holds,
        )
