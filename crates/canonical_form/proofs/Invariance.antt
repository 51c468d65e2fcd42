-- Divisions of the same nesting: the relation turns round and composes, and ancestors, lowest arcs, paths, new numbers, words and heights are the same
-- under the renumbering.
use Prim.Native.Nat.{ℕ, zero, suc, ◌≤◌, ◌<◌}
use mathlib.Core.Bool.{cond}
use mathlib.Core.Path.{◌≡◌, refl, sym, ap, ◌∙◌}
use mathlib.Core.Logic.{◌≢◌, ⊎_elim}
use mathlib.Core.List.{List, [], ◌∷◌, ◌++◌}
use native.Mathlib.Nat.{not-suc-le-zero}
use native.Mathlib.Omega.{arith}
use borrow.Author.Tests.{eq-eqb, ne_eqb}
use lib.Dec.{eqb}
use Rattle.indices.specs.Tests.{any, most}
use Rattle.indices.proofs.Tests.{any_ext}
use Rattle.indices.proofs.Steps.{eq_or_ne}
use Rattle.indices.proofs.Renumbering.{to_apart, count_renumbered, least_renumbered, most_renumbered}
use Rattle.sheet.specs.Words.{top}
use Rattle.sheet.specs.Heights.{height_in, height_of}
use Rattle.procedure.specs.Division.{Division, regions, parent, arc_of, is_leaf, height}
use Rattle.canonical_form.specs.Numbering.{sooner, above, ancestor, holds, lowest_arc, path, new_number, old_number}
use Rattle.canonical_form.specs.Canonical.{new_word}
use Rattle.canonical_form.specs.Alike.{SameNesting}
use Rattle.canonical_form.specs.Inner.{Proper}
use Rattle.canonical_form.proofs.Numbering.{above_parent, ancestor_le, path_root, path_step, new_apart, old_in, old_later, new_old}

module _ {d d' : Division} (S : SameNesting d d') where
  pub apart : (i j : ℕ) → i < regions d → j < regions d → S.to i ≡ S.to j → i ≡ j
  apart = to_apart (regions d) (regions d') S.to S.from S.to_in S.from_in S.from_to S.to_from

  -- only region 0 goes to region 0
  pub to_later : (r : ℕ) → 0 < r → r < regions d → 0 < S.to r
  to_later r pos l =
      ⊎_elim (λ (e : S.to r ≡ 0). absurd (omega (arith, apart r 0 l (omega arith) (e ∙ sym S.root)))) (λ (ne : S.to r ≢ 0). omega arith)
      (eq_or_ne (S.to r) 0)

  from_root : 0 < regions d → S.from 0 ≡ 0
  from_root some = ap S.from (sym S.root) ∙ S.from_to 0 some

  same_test : (r s : ℕ) → r < regions d → s < regions d → eqb (S.to r) (S.to s) ≡ eqb r s
  same_test r s lr ls =
      ⊎_elim (λ (e : r ≡ s). eq-eqb (S.to r) (S.to s) (ap S.to e) ∙ sym (eq-eqb r s e))
      (λ (ne : r ≢ s). ne_eqb (S.to r) (S.to s) (λ e. ne (apart r s lr ls e)) ∙ sym (ne_eqb r s ne)) (eq_or_ne r s)

-- THE RELATION
pub turned : {d d' : Division} → Proper d → SameNesting d d' → SameNesting d' d
turned {d} {d'} P S = record {
  as_many = sym S.as_many;
  to = S.from;
  from = S.to;
  to_in = S.from_in;
  from_in = S.to_in;
  from_to = S.to_from;
  to_from = S.from_to;
  root = from_root S P.some;
  parents = λ r pos l.
      let s = S.from r in
      let ls = S.from_in r l in
      let later : 0 < s =
      ⊎_elim (λ (e : s ≡ 0). absurd (omega (arith, S.to_from r l, ap S.to e, S.root))) (λ (ne : s ≢ 0). omega arith) (eq_or_ne s 0) in
      let inside : parent d s < regions d = omega (arith, P.lower s later ls) in
      sym (S.from_to (parent d s) inside) ∙ ap S.from (sym (S.parents s later ls) ∙ ap (parent d') (S.to_from r l));
  arcs = λ r l. sym (S.arcs (S.from r) (S.from_in r l)) ∙ ap (arc_of d') (S.to_from r l);
}

pub composed : {d d' d'' : Division} → SameNesting d d' → SameNesting d' d'' → SameNesting d d''
composed {d} {d'} {d''} S R = record {
  as_many = S.as_many ∙ R.as_many;
  to = λ r. R.to (S.to r);
  from = λ r. S.from (R.from r);
  to_in = λ r l. R.to_in (S.to r) (S.to_in r l);
  from_in = λ r l. S.from_in (R.from r) (R.from_in r l);
  from_to = λ r l. ap S.from (R.from_to (S.to r) (S.to_in r l)) ∙ S.from_to r l;
  to_from = λ r l. ap R.to (S.to_from (R.from r) (R.from_in r l)) ∙ R.to_from r l;
  root = ap R.to S.root ∙ R.root;
  parents = λ r pos l. R.parents (S.to r) (to_later S r pos l) (S.to_in r l) ∙ ap R.to (S.parents r pos l);
  arcs = λ r l. R.arcs (S.to r) (S.to_in r l) ∙ S.arcs r l;
}

-- WHAT IS THE SAME
module _ {d d' : Division} (P : Proper d) (P' : Proper d') (S : SameNesting d d') where
  above_same : (r : ℕ) → r < regions d → above d' (S.to r) ≡ S.to (above d r)
  above_same zero l = rw S.root
  above_same (suc r) l =
      above_parent d' (S.to (suc r)) (to_later S (suc r) (omega arith) l)
      ∙ S.parents (suc r) (omega arith) l
      ∙ ap S.to (sym (above_parent d (suc r) (omega arith)))

  ancestor_same : (k r : ℕ) → r < regions d → ancestor d' k (S.to r) ≡ S.to (ancestor d k r)
  unfolding ancestor
  ancestor_same zero r l = refl
  ancestor_same (suc k) r l =
      ap (ancestor d' k) (above_same r l) ∙ ancestor_same k (above d r) (inside (ancestor_le d P 1 r l))
    where
      inside : above d r ≤ r → above d r < regions d
      inside m = omega arith

  holds_same : (r s : ℕ) → r < regions d → s < regions d → holds d' (S.to r) (S.to s) ≡ holds d r s
  unfolding holds
  holds_same r s lr ls =
      ap (any (λ k. eqb (ancestor d' k (S.to s)) (S.to r))) (sym S.as_many)
      ∙ any_ext (λ k. eqb (ancestor d' k (S.to s)) (S.to r)) (λ k. eqb (ancestor d k s) r) (regions d)
      (λ k _.
      ap (λ (q : ℕ). eqb q (S.to r)) (ancestor_same k s ls)
      ∙ same_test S (ancestor d k s) r (let m = ancestor_le d P k s ls in omega arith) lr)

  lowest_same : (r : ℕ) → r < regions d → lowest_arc d' (S.to r) ≡ lowest_arc d r
  unfolding lowest_arc
  lowest_same r l =
      sym (least_renumbered (regions d) (regions d') S.to S.from S.to_in S.from_in S.from_to S.to_from top
      (λ s. cond (holds d r s) (arc_of d s) top) (λ s. cond (holds d' (S.to r) s) (arc_of d' s) top)
      (λ s ls. rw (holds_same r s l ls, S.arcs s ls)))

  path_same_for : (bound r : ℕ) → r < bound → r < regions d → path d' (S.to r) ≡ path d r
  path_same_for zero r b l = absurd (not-suc-le-zero b)
  path_same_for (suc bound) zero b l = ap (path d') S.root ∙ path_root d' ∙ sym (path_root d)
  path_same_for (suc bound) (suc r) b l =
      let pos : 0 < suc r = omega arith in
      let down = P.lower (suc r) pos l in
      let before : path d' (parent d' (S.to (suc r))) ≡ path d (parent d (suc r)) =
      ap (path d') (S.parents (suc r) pos l) ∙ path_same_for bound (parent d (suc r)) (omega arith) (omega arith) in
      path_step d' P' (S.to (suc r)) (to_later S (suc r) pos l) (S.to_in (suc r) l)
      ∙ ap (λ (a : ℕ). path d' (parent d' (S.to (suc r))) ++ (a ∷ [])) (lowest_same (suc r) l)
      ∙ ap (λ (way : List ℕ). way ++ (lowest_arc d (suc r) ∷ [])) before
      ∙ sym (path_step d P (suc r) pos l)

  pub path_same : (r : ℕ) → r < regions d → path d' (S.to r) ≡ path d r
  path_same r l = path_same_for (suc r) r (omega arith) l

  pub new_same : (r : ℕ) → r < regions d → new_number d' (S.to r) ≡ new_number d r
  unfolding new_number
  new_same r l =
      sym (count_renumbered (regions d) (regions d') S.to S.from S.to_in S.from_in S.from_to S.to_from
      (λ s. sooner (path d s) (path d r)) (λ s. sooner (path d' s) (path d' (S.to r)))
      (λ s ls. rw (path_same s ls, path_same r l)))

  pub old_same : (k : ℕ) → k < regions d → old_number d' k ≡ S.to (old_number d k)
  old_same k l =
      let lk : k < regions d' = omega (arith, S.as_many) in
      let r = old_number d k in
      let lr = old_in d P k l in
      new_apart d' P' (old_number d' k) (S.to r) (old_in d' P' k lk) (S.to_in r lr) (new_old d' P' k lk ∙ sym (new_same r lr ∙ new_old d P k l))

  word_same : (r : ℕ) → 0 < r → r < regions d → new_word d' (S.to r) ≡ new_word d r
  unfolding new_word
  word_same r pos l =
      let inside : parent d r < regions d = omega (arith, P.lower r pos l) in
      let number : new_number d' (parent d' (S.to r)) ≡ new_number d (parent d r) = ap (new_number d') (S.parents r pos l) ∙ new_same (parent d r) inside in
      rw (number, S.arcs r l)

  -- the word of the region that gets a number
  pub new_word_same : (k : ℕ) → 0 < k → k < regions d → new_word d' (old_number d' k) ≡ new_word d (old_number d k)
  new_word_same k pos l = ap (new_word d') (old_same k l) ∙ word_same (old_number d k) (old_later d P k pos l) (old_in d P k l)

-- HEIGHTS, where region 0 has no parent in either
module _ {d d' : Division} (P : Proper d) (S : SameNesting d d') (alone : regions d ≤ parent d 0) (alone' : regions d' ≤ parent d' 0) where
  child_same : (c r : ℕ) → c < regions d → r < regions d → eqb (parent d' (S.to c)) (S.to r) ≡ eqb (parent d c) r
  child_same zero r lc lr =
      rw S.root (ne_eqb (parent d' 0) (S.to r) (λ e. omega (arith, S.to_in r lr)) ∙ sym (ne_eqb (parent d 0) r (λ e. omega arith)))
  child_same (suc c) r lc lr =
      let pos : 0 < suc c = omega arith in
      ap (λ (q : ℕ). eqb q (S.to r)) (S.parents (suc c) pos lc)
      ∙ same_test S (parent d (suc c)) r (let down = P.lower (suc c) pos lc in omega arith) lr

  height_same_for : (depth r : ℕ) → r < regions d
      → height_in (is_leaf d') (parent d') (regions d') depth (S.to r) ≡ height_in (is_leaf d) (parent d) (regions d) depth r
  unfolding height_in
  height_same_for zero r l = refl
  height_same_for (suc depth) r l =
      let high : ℕ → ℕ = λ c. cond (eqb (parent d c) r) (height_in (is_leaf d) (parent d) (regions d) depth c) 0 in
      let high' : ℕ → ℕ = λ c. cond (eqb (parent d' c) (S.to r)) (height_in (is_leaf d') (parent d') (regions d') depth c) 0 in
      let children : most high (regions d) ≡ most high' (regions d') =
      most_renumbered (regions d) (regions d') S.to S.from S.to_in S.from_in S.from_to S.to_from high high'
      (λ c lc. rw (child_same c r lc l, height_same_for depth c lc)) in
      rw (S.arcs r l) (ap (λ (x : ℕ). cond (is_leaf d r) 0 (suc x)) (sym children))

  pub height_same : height d' 0 ≡ height d 0
  unfolding height_of
  height_same =
      ap (λ (r : ℕ). height_in (is_leaf d') (parent d') (regions d') (regions d') r) (sym S.root)
      ∙ ap (λ (n : ℕ). height_in (is_leaf d') (parent d') (regions d') n (S.to 0)) (sym S.as_many)
      ∙ height_same_for (regions d) 0 P.some
