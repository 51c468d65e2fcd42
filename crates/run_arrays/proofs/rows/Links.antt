-- Links: each leads to the next index with the same value, so a walk along them meets all indices with one value, in order.
use Prim.Native.Nat.{ℕ, zero, suc, ◌+◌, ◌*◌, ◌-◌, ◌≤◌, ◌<◌}
use mathlib.Core.Path.{◌≡◌, refl, sym, ap, ◌∙◌}
use mathlib.Core.Logic.{◌≢◌}
use mathlib.Core.List.{List}
use native.Mathlib.Nat.{le_refl, le_trans}
use native.Mathlib.Numerals.{add-one}
use native.Mathlib.Omega.{arith}
use borrow.Author.Tests.{eq-eqb, ne_eqb}
use lib.ListN.{length, set, replicate, length-set}
use lib.Seq.{get_or-set_other}
use Rattle.indices.specs.Columns.{at}
use Rattle.indices.specs.Steps.{up_to}
use Rattle.indices.proofs.Steps.{by_equal, set_elim}
use Rattle.run_arrays.specs.Rows.{field, row_count, row_tail, row_next}
use Rattle.run_arrays.specs.Links.{next_for, next_from, Links, step_from, Linkable, Linked}
use Rattle.run_arrays.proofs.rows.Filled.{filled_at, filled_length}

module _ (column : ℕ → ℕ) where
  -- THE NEXT INDEX WITH A VALUE

  for_hit : (v n a : ℕ) → column a ≡ v → next_for column v (suc n) a ≡ a
  unfolding next_for
  for_hit v n a e = rw (eq-eqb (column a) v e)

  for_miss : (v n a : ℕ) → column a ≢ v → next_for column v (suc n) a ≡ next_for column v n (suc a)
  unfolding next_for
  for_miss v n a e = rw (ne_eqb (column a) v e)

  for_none : (v a : ℕ) → next_for column v 0 a ≡ a
  unfolding next_for
  for_none v a = refl

  -- past the last index it is m
  pub next_end : (m v : ℕ) → next_from column m v m ≡ m
  unfolding next_from
  next_end m v = ap (λ (n : ℕ). next_for column v n m) (let e : m - m ≡ 0 = omega arith in e) ∙ for_none v m

  -- it is a, if the column has the value there
  pub next_hit : (m v a : ℕ) → a < m → column a ≡ v → next_from column m v a ≡ a
  unfolding next_from
  next_hit m v a l e = ap (λ (n : ℕ). next_for column v n a) (let s : m - a ≡ suc (m - (a + 1)) = omega arith in s) ∙ for_hit v (m - (a + 1)) a e

  -- and otherwise the next one from a + 1 on
  pub next_miss : (m v a : ℕ) → a < m → column a ≢ v → next_from column m v a ≡ next_from column m v (a + 1)
  unfolding next_from
  next_miss m v a l e =
      ap (λ (n : ℕ). next_for column v n a) (let s : m - a ≡ suc (m - (a + 1)) = omega arith in s)
      ∙ for_miss v (m - (a + 1)) a e
      ∙ ap (next_for column v (m - (a + 1))) (sym (add-one a))

  -- b is among the n indices from a on, and the column has v there, or it is a + n
  record Found (v n a b : ℕ) : Type 0 where
    from : a ≤ b
    within : b ≤ a + n
    hit : b < a + n → column b ≡ v

  found : (v n a : ℕ) → Found v n a (next_for column v n a)
  found v zero a = rw (for_none v a) (record { from = le_refl a; within = omega arith; hit = λ l. absurd (omega arith) })
  found v (suc n) a =
      let F = found v n (suc a) in
      by_equal (column a) v (λ e. rw (for_hit v n a e) (record { from = le_refl a; within = omega arith; hit = λ _. e }))
      (λ e. rw (for_miss v n a e) (record { from = omega (arith, F.from); within = omega (arith, F.within); hit = λ l. F.hit (omega arith) }))

  pub next_from_lem : (m v a : ℕ) → a ≤ next_from column m v a
  unfolding next_from
  next_from_lem m v a = (found v (m - a) a).from

  pub next_within : (m v a : ℕ) → a ≤ m → next_from column m v a ≤ m
  unfolding next_from
  next_within m v a l = omega (arith, (found v (m - a) a).within)

  pub next_has : (m v a : ℕ) → a ≤ m → next_from column m v a < m → column (next_from column m v a) ≡ v
  unfolding next_from
  next_has m v a l h = (found v (m - a) a).hit (omega arith)

  -- A WALK

  -- what is left of the indices falls with each link
  pub walk_falls : {m n : ℕ} {first next : ℕ → ℕ} → Links column m n first next → (a : ℕ) → a < m → m - next a < m - a
  walk_falls {m} L a l = omega (arith, L.nexts a l, next_from_lem m (column a) (a + 1))

  module _ {S : Type 0} (step : ℕ → S → S) (v : ℕ) (s : S) where
    -- the steps at the indices below a at which the column has v
    abbrev pub steps_below : ℕ → S
    steps_below a = up_to a (step_from column v step) s

    steps_hit : (a : ℕ) → column a ≡ v → steps_below (suc a) ≡ step a (steps_below a)
    unfolding up_to
    steps_hit a e = rw (eq-eqb (column a) v e)

    steps_miss : (a : ℕ) → column a ≢ v → steps_below (suc a) ≡ steps_below a
    unfolding up_to
    steps_miss a e = rw (ne_eqb (column a) v e)

    steps_none : steps_below 0 ≡ s
    unfolding up_to
    steps_none = refl

    steps_skip_for : (n a : ℕ) → steps_below (next_for column v n a) ≡ steps_below a
    steps_skip_for zero a = rw (for_none v a)
    steps_skip_for (suc n) a =
        by_equal (column a) v (λ e. rw (for_hit v n a e)) (λ e. rw (for_miss v n a e) (steps_skip_for n (suc a) ∙ steps_miss a e))

    -- nothing is done between an index and the next one with the value
    steps_skip : (m a : ℕ) → steps_below (next_from column m v a) ≡ steps_below a
    unfolding next_from
    steps_skip m a = steps_skip_for (m - a) a

    -- a number that no step lowers grows with the indices
    steps_grow : (f : S → ℕ) → ((a : ℕ) (t : S) → f t ≤ f (step a t)) → (a n : ℕ) → f (steps_below a) ≤ f (steps_below (a + n))
    steps_grow f up a zero = rw (let e : a + 0 ≡ a = omega arith in e) (le_refl (f (steps_below a)))
    steps_grow f up a (suc n) =
        rw (let e : a + suc n ≡ suc (a + n) = omega arith in e)
        (le_trans (steps_grow f up a n)
        (by_equal (column (a + n)) v (λ e. rw (steps_hit (a + n) e) (up (a + n) (steps_below (a + n))))
        (λ e. rw (steps_miss (a + n) e) (le_refl (f (steps_below (a + n)))))))

    -- the walk has come to index a, or to its end m, in state t
    pub record Walk (m a : ℕ) (t : S) : Type 0 where
      pub within : a ≤ m
      pub hit : a < m → column a ≡ v
      pub sofar : t ≡ up_to a (step_from column v step) s

    module _ {m n : ℕ} {first next : ℕ → ℕ} (L : Links column m n first next) where
      -- it begins at the first index with v, in the state s
      pub walk_start : v < n → Walk m (first v) s
      walk_start l =
          rw (L.firsts v l)
          (record { within = next_within m v 0 (omega arith); hit = next_has m v 0 (omega arith); sofar = sym (steps_skip m 0 ∙ steps_none) })

      -- it goes on at the next index, after the step
      pub walk_step : (a : ℕ) (t t' : S) → Walk m a t → a < m → t' ≡ step a t → Walk m (next a) t'
      walk_step a t t' W l e =
          let h = W.hit l in
          rw (L.nexts a l, h)
          (record {
            within = next_within m v (a + 1) (omega arith);
            hit = next_has m v (a + 1) (omega arith);
            sofar = e ∙ ap (step a) W.sofar ∙ sym (steps_skip m (a + 1) ∙ ap steps_below (add-one a) ∙ steps_hit a h);
          })

    -- at its end all steps are made
    pub walk_end : {m a : ℕ} {t : S} → Walk m a t → m ≤ a → t ≡ up_to m (step_from column v step) s
    walk_end {m} {a} W l = let e : a ≡ m = omega (arith, W.within) in rw e at W.sofar

    -- a number that no step lowers is, after the step at a, at most what it is at the end
    pub walk_part : (f : S → ℕ) → ((a : ℕ) (t : S) → f t ≤ f (step a t)) → {m a : ℕ} {t : S} → Walk m a t → a < m
        → f (step a t) ≤ f (up_to m (step_from column v step) s)
    walk_part f up {m} {a} W l =
        let e : suc a + (m - suc a) ≡ m = omega arith in
        rw (W.sofar, ← steps_hit a (W.hit l)) (rw e at (steps_grow f up (suc a) (m - suc a)))

-- ANOTHER COLUMN WITH THE SAME VALUES

module _ (column column' : ℕ → ℕ) where
  for_same : (v n a : ℕ) → ((i : ℕ) → a ≤ i → i < a + n → column' i ≡ column i) → next_for column' v n a ≡ next_for column v n a
  for_same v zero a same = for_none column' v a ∙ sym (for_none column v a)
  for_same v (suc n) a same =
      let e = same a (le_refl a) (omega arith) in
      by_equal (column a) v (λ h. for_hit column' v n a (e ∙ h) ∙ sym (for_hit column v n a h))
      (λ h.
      for_miss column' v n a (λ s. h (sym e ∙ s)) ∙ for_same v n (suc a) (λ i l h. same i (omega arith) (omega arith)) ∙ sym (for_miss column v n a h))

  -- links through one column are links through a column with the same values
  pub links_same : {m n : ℕ} {first next : ℕ → ℕ} → ((a : ℕ) → a < m → column' a ≡ column a) → Links column m n first next → Links column' m n first next
  unfolding next_from
  links_same {m} same L = record {
    short = L.short;
    below = λ a l. rw (same a l) (L.below a l);
    firsts = λ v l. L.firsts v l ∙ sym (for_same v (m - 0) 0 (λ i h k. same i (omega arith)));
    nexts = λ a l. rw (same a l) (L.nexts a l ∙ sym (for_same (column a) (m - (a + 1)) (a + 1) (λ i h k. same i (omega arith))));
  }

-- LINKS FILLED FROM THE BACK

-- the arcs from a on are linked
pub record Linking (arcs₀ : List ℕ) (n : ℕ) (arcs firsts : List ℕ) (a : ℕ) : Type 0 where
  pub able : (i : ℕ) → i < row_count arcs₀ → row_tail arcs₀ i < n
  pub within : a ≤ row_count arcs₀
  pub long : length arcs ≡ length arcs₀
  pub wide : length firsts ≡ n
  pub kept : (i k : ℕ) → k < 3 → field arcs i k ≡ field arcs₀ i k
  pub first : (v : ℕ) → v < n → at firsts v ≡ next_from (row_tail arcs₀) (row_count arcs₀) v a
  pub next : (i : ℕ) → a ≤ i → i < row_count arcs₀ → row_next arcs i ≡ next_from (row_tail arcs₀) (row_count arcs₀) (row_tail arcs₀ i) (i + 1)

pub linking_start : {arcs firsts₀ firsts : List ℕ} → Linkable arcs firsts₀ → firsts ≡ replicate (length firsts₀) (row_count arcs)
    → Linking arcs (length firsts) arcs firsts (row_count arcs)
linking_start {arcs} {firsts₀} {firsts} A e =
    let l = filled_length firsts₀ firsts (row_count arcs) e in
    record {
      able = λ i h. omega (arith, A.below i h);
      within = le_refl (row_count arcs);
      long = refl;
      wide = refl;
      kept = λ i k h. refl;
      first = λ v h. filled_at firsts₀ firsts (row_count arcs) e v (omega arith) ∙ sym (next_end (row_tail arcs) (row_count arcs) v);
      next = λ i m h. absurd (omega arith);
    }

module _ {arcs₀ arcs firsts : List ℕ} {n a : ℕ} (L : Linking arcs₀ n arcs firsts a) (pos : 0 < a) where
  b_in : a - 1 < row_count arcs₀
  b_in = omega (arith, L.within)

  tail_low : row_tail arcs₀ (a - 1) < length firsts
  tail_low = omega (arith, L.able (a - 1) b_in, L.wide)

  pub linking_tail : row_tail arcs (a - 1) < length firsts
  linking_tail = rw (L.kept (a - 1) 0 (omega arith)) tail_low

  pub linking_step : {tail : ℕ} → tail ≡ row_tail arcs (a - 1)
      → Linking arcs₀ n (set arcs (4 * (a - 1) + 3) (at firsts tail)) (set firsts tail (a - 1)) (a - 1)
  linking_step e = rw (e ∙ L.kept (a - 1) 0 (omega arith)) (record {
    able = L.able;
    within = omega (arith, b_in);
    long = simp length-set L.long;
    wide = simp length-set L.wide;
    kept = λ i k h. get_or-set_other arcs (4 * (a - 1) + 3) (4 * i + k) _ 0 (omega arith) ∙ L.kept i k h;
    first =
        λ v h.
        set_elim (λ z. z ≡ next_from column m v (a - 1)) firsts (column (a - 1)) v (a - 1) 0 tail_low
        (λ s. sym (next_hit column m v (a - 1) b_in (sym s)))
        (λ s. L.first v h ∙ sym (next_miss column m v (a - 1) b_in (λ t. s (sym t)) ∙ ap (next_from column m v) back));
    next =
        λ i h l.
        set_elim (λ z. z ≡ next_from column m (column i) (i + 1)) arcs (4 * (a - 1) + 3) (4 * i + 3) _ 0 (omega (arith, b_in, L.long))
        (λ s. let t : i ≡ a - 1 = omega arith in rw (t, back) (L.first (column (a - 1)) (L.able (a - 1) b_in)))
        (λ s. L.next i (omega arith) l);
  })
    where
      m : ℕ
      m = row_count arcs₀

      column : ℕ → ℕ
      column i = row_tail arcs₀ i

      back : a - 1 + 1 ≡ a
      back = omega arith

pub linking_end : {arcs₀ arcs firsts : List ℕ} {n a : ℕ} → row_count arcs₀ < 65536 → Linking arcs₀ n arcs firsts a → a ≤ 0 → Linked arcs₀ arcs firsts
linking_end {arcs₀} {arcs} {firsts} {n} {a} short L l =
    let e : a ≡ 0 = omega arith in
    record {
      tails = λ a. L.kept a 0 (omega arith);
      heads = λ a. L.kept a 1 (omega arith);
      leaves = λ a. L.kept a 2 (omega arith);
      links =
          rw L.wide
          (record { short = short; below = L.able; firsts = λ v h. rw e at (L.first v h); nexts = λ i h. L.next i (omega arith) h });
    }
