-- Laws of `any`, `all`, `count` and `lead`, in the forms that a loop asks: no index, one index more, a stop, the end.
use Prim.Native.Nat.{ℕ, zero, suc, ◌+◌, ◌<◌, ◌≤◌}
use mathlib.Core.Bool.{Bool, true, false, not, cond, ◌&&◌, ◌||◌, true≢false, or-true}
use mathlib.Core.Path.{◌≡◌, refl, sym, ap, ◌∙◌}
use mathlib.Core.Logic.{◌≢◌, ⊎_elim}
use native.Mathlib.Nat.{add-zero, add-suc, eq-or-lt_of_le, le_of_suc-le-suc, not-suc-le-zero}
use native.Mathlib.Numerals.{add-one}
use native.Mathlib.Omega.{arith}
use borrow.Author.Tests.{eq-eqb, ne_eqb, lt-ltb, le-ltb, not-true, not-false}
use lib.Dec.{ltb, eqb}
use Rattle.indices.specs.Tests.{all, any, count, lead}
use Rattle.indices.proofs.Steps.{by_equal, by_truth}

-- TRUTH VALUES
pub same_truth : (a b : Bool) → (a ≡ true → b ≡ true) → (b ≡ true → a ≡ true) → a ≡ b
same_truth true b f g = sym (f refl)
same_truth false true f g = g refl
same_truth false false f g = refl

pub never : (a : Bool) → (a ≡ true → ⊥) → a ≡ false
never true f = absurd (f refl)
never false f = refl

pub or_left : (a b : Bool) → a || b ≡ false → a ≡ false
or_left true b e = e
or_left false b e = refl

pub or_right : (a b : Bool) → a || b ≡ false → b ≡ false
or_right true b e = absurd (true≢false e)
or_right false b e = e

pub neither : (a b : Bool) → a ≡ false → b ≡ false → a || b ≡ false
neither a b ea eb = rw (ea, eb)

-- a test that asks for another number does not apply
pub right_kind : (x kind : ℕ) → x ≡ kind → not (eqb x kind) ≡ false
right_kind x kind e = rw (eq-eqb x kind e)

-- what is at most n is below n where it is not equal to it
pub not_equal_below : (x n : ℕ) → x ≤ n → not (eqb x n) ≡ ltb x n
not_equal_below x n l =
    by_equal x n (λ e. ap not (eq-eqb x n e) ∙ sym (le-ltb x n (omega arith))) (λ w. ap not (ne_eqb x n w) ∙ sym (lt-ltb x n (omega arith)))

pub and_left : (a b : Bool) → a && b ≡ true → a ≡ true
and_left true b e = refl
and_left false b e = e

pub and_right : (a b : Bool) → a && b ≡ true → b ≡ true
and_right true b e = e
and_right false b e = absurd (true≢false (sym e))

pub and_both : (a b : Bool) → a ≡ true → b ≡ true → a && b ≡ true
and_both a b e h = rw e h

-- the second part matters only where the first holds
pub and_same : (a b b' : Bool) → (a ≡ true → b ≡ b') → a && b ≡ a && b'
and_same true b b' h = h refl
and_same false b b' h = refl

-- a disjunction is an implication from the first part's failure
pub or_then : (a b : Bool) → a || b ≡ true → a ≡ false → b ≡ true
or_then a b h e = rw e at h

pub or_if : (a b : Bool) → (a ≡ false → b ≡ true) → a || b ≡ true
or_if true b h = refl
or_if false b h = h refl

-- ANY
pub any_none : (p : ℕ → Bool) → any p 0 ≡ false
unfolding any
any_none p = refl

pub any_more : (p : ℕ → Bool) (i : ℕ) → any p i ≡ false → p i ≡ false → any p (i + 1) ≡ false
unfolding any
any_more p i before here = rw (add-one, any, before, here)

pub any_hit : (p : ℕ → Bool) (i n : ℕ) → i < n → p i ≡ true → any p n ≡ true
unfolding any
any_hit p i zero l h = absurd (not-suc-le-zero l)
any_hit p i (suc n) l h = ⊎_elim (λ e. rw (← e, h, or-true)) (λ lt. rw (any_hit p i n lt h)) (eq-or-lt_of_le (le_of_suc-le-suc l))

pub any_end : (p : ℕ → Bool) (i n : ℕ) → i ≡ n → any p i ≡ false → any p n ≡ false
any_end p i n e h = rw (← e) h

-- what no index passes, a given index does not
pub any_at : (p : ℕ → Bool) (n i : ℕ) → any p n ≡ false → i < n → p i ≡ false
unfolding any
any_at p zero i e l = absurd (not-suc-le-zero l)
any_at p (suc n) i e l =
    ⊎_elim (λ q. rw (q) (or_right (any p n) (p n) e)) (λ lt. any_at p n i (or_left (any p n) (p n) e) lt)
    (eq-or-lt_of_le (le_of_suc-le-suc l))

-- an index that passes, where there is one
pub any_found : (p : ℕ → Bool) (n : ℕ) → any p n ≡ true → (i : ℕ) × (i < n) × (p i ≡ true)
unfolding any
any_found p zero h = absurd (true≢false (sym h))
any_found p (suc n) h =
    by_truth (any p n) (λ e. let w = any_found p n e in (w.0, omega (arith, w.1), w.2)) (λ e. (n, omega arith, or_then (any p n) (p n) h e))

-- none passes if each does not
pub any_false : (p : ℕ → Bool) (n : ℕ) → ((i : ℕ) → i < n → p i ≡ false) → any p n ≡ false
unfolding any
any_false p zero h = refl
any_false p (suc n) h = rw (any_false p n (λ i l. h i (omega arith))) (h n (omega arith))

-- tests that agree
pub any_ext : (p q : ℕ → Bool) (n : ℕ) → ((i : ℕ) → i < n → p i ≡ q i) → any p n ≡ any q n
unfolding any
any_ext p q zero h = refl
any_ext p q (suc n) h = rw (any_ext p q n (λ i l. h i (omega arith)), h n (omega arith))

pub or_assoc : (a b c : Bool) → (a || b) || c ≡ a || (b || c)
or_assoc true b c = refl
or_assoc false b c = refl

-- the first index, and then the others
pub any_front : (p : ℕ → Bool) (n : ℕ) → any p (suc n) ≡ p 0 || any (λ i. p (suc i)) n
unfolding any
any_front p zero = or_false (p 0)
  where
    or_false : (a : Bool) → false || a ≡ a || false
    or_false true = refl
    or_false false = refl
any_front p (suc n) = ap (λ (b : Bool). b || p (suc n)) (any_front p n) ∙ or_assoc (p 0) (any (λ i. p (suc i)) n) (p (suc n))

-- ALL: no index fails
not_and : (a b : Bool) → not (a && b) ≡ not a || not b
not_and true b = refl
not_and false b = refl

none_fails : (p : ℕ → Bool) (n : ℕ) → not (all p n) ≡ any (λ i. not (p i)) n
unfolding all any
none_fails p zero = refl
none_fails p (suc n) = not_and (all p n) (p n) ∙ ap (λ (b : Bool). b || not (p n)) (none_fails p n)

pub all_none : (p : ℕ → Bool) → all p 0 ≡ true
unfolding all
all_none p = refl

pub all_more : (p : ℕ → Bool) (i : ℕ) → all p i ≡ true → p i ≡ true → all p (i + 1) ≡ true
unfolding all
all_more p i before here = rw (add-one, all, before, here)

pub all_miss : (p : ℕ → Bool) (i n : ℕ) → i < n → p i ≡ false → all p n ≡ false
all_miss p i n l h = not-true _ (none_fails p n ∙ any_hit (λ i. not (p i)) i n l (ap not h))

pub all_end : (p : ℕ → Bool) (i n : ℕ) → i ≡ n → all p i ≡ true → all p n ≡ true
all_end p i n e h = rw (← e) h

pub all_at : (p : ℕ → Bool) (n i : ℕ) → all p n ≡ true → i < n → p i ≡ true
all_at p n i e l = not-false _ (any_at (λ i. not (p i)) n i (sym (none_fails p n) ∙ ap not e) l)

pub all_true : (p : ℕ → Bool) (n : ℕ) → ((i : ℕ) → i < n → p i ≡ true) → all p n ≡ true
all_true p n h = not-false _ (none_fails p n ∙ any_false (λ i. not (p i)) n (λ i l. ap not (h i l)))

-- COUNT
pub count_none : (p : ℕ → Bool) → count p 0 ≡ 0
unfolding count
count_none p = refl

pub count_in_lem : (p : ℕ → Bool) (i : ℕ) → p i ≡ true → count p (i + 1) ≡ count p i + 1
unfolding count
count_in_lem p i h = rw (add-one i, count, h)

pub count_out : (p : ℕ → Bool) (i : ℕ) → p i ≡ false → count p (i + 1) ≡ count p i
unfolding count
count_out p i h = rw (add-one i, count, h) (omega arith)

pub count_mono : (p : ℕ → Bool) (i n : ℕ) → i ≤ n → count p i ≤ count p n
unfolding count
count_mono p i zero l = rw (let e : i ≡ 0 = omega arith in e) (omega arith)
count_mono p i (suc n) l =
    ⊎_elim (λ e. rw e (omega arith))
    (λ lt. let h : count p i ≤ count p n = count_mono p i n (le_of_suc-le-suc lt) in omega arith)
    (eq-or-lt_of_le l)

pub count_le : (p : ℕ → Bool) (n : ℕ) → count p n ≤ n
unfolding count
count_le p zero = omega arith
count_le p (suc n) = at (p n) (count_le p n)
  where
    at : (b : Bool) → count p n ≤ n → count p n + cond b 1 0 ≤ suc n
    at true l = omega arith
    at false l = omega arith

-- tests that agree count alike
pub count_ext : (p q : ℕ → Bool) (n : ℕ) → ((i : ℕ) → i < n → p i ≡ q i) → count p n ≡ count q n
unfolding count
count_ext p q zero h = refl
count_ext p q (suc n) h = rw (count_ext p q n (λ i l. h i (omega arith)), h n (omega arith))

-- where no index passes, none is counted
pub count_out_all : (p : ℕ → Bool) (n : ℕ) → ((i : ℕ) → i < n → p i ≡ false) → count p n ≡ 0
unfolding count
count_out_all p zero h = refl
count_out_all p (suc n) h = rw (count_out_all p n (λ i l. h i (omega arith)), h n (omega arith))

-- where all pass, all are counted
pub count_all : (p : ℕ → Bool) (n : ℕ) → ((i : ℕ) → i < n → p i ≡ true) → count p n ≡ n
unfolding count
count_all p zero h = refl
count_all p (suc n) h = rw (count_all p n (λ i l. h i (omega arith)), h n (omega arith)) (add-one n)

-- the first index, and then the others
pub count_front : (p : ℕ → Bool) (n : ℕ) → count p (suc n) ≡ cond (p 0) 1 0 + count (λ i. p (suc i)) n
unfolding count
count_front p zero = omega arith
count_front p (suc n) = omega (arith, count_front p n)

-- the first m indices, and then n more
pub count_append : (p : ℕ → Bool) (m n : ℕ) → count p (m + n) ≡ count p m + count (λ i. p (m + i)) n
unfolding count
count_append p m zero = rw (add-zero m) (omega arith)
count_append p m (suc n) = rw (add-suc m n) (omega (arith, count_append p m n))

-- tests that differ at one index alone, which passes the first, count one apart
pub count_but_one : (p q : ℕ → Bool) (n i : ℕ) → i < n → ((j : ℕ) → j < n → j ≢ i → p j ≡ q j) → p i ≡ true → q i ≡ false → count p n ≡ suc (count q n)
unfolding count
count_but_one p q zero i l same here there = absurd (omega arith)
count_but_one p q (suc n) i l same here there =
    by_equal n i
    (λ e. rw (e, here, there, count_ext p q i (λ j lj. same j (omega arith) (λ f. omega arith))) (omega arith))
    (λ last. rw (same n (omega arith) last) (omega (arith, count_but_one p q n i (omega arith) (λ j lj. same j (omega arith)) here there)))

-- an index that passes is counted
pub count_hit : (p : ℕ → Bool) (i n : ℕ) → i < n → p i ≡ true → 0 < count p n
count_hit p i n l h = omega (arith, count_in_lem p i h, count_mono p (i + 1) n (omega arith))

-- where any is counted, an index passes
pub count_some : (p : ℕ → Bool) (n : ℕ) → 0 < count p n → (i : ℕ) × (i < n) × (p i ≡ true)
unfolding count
count_some p zero l = absurd (not-suc-le-zero l)
count_some p (suc n) l = at (p n) refl (count_some p n) l
  where
    at : (b : Bool) → p n ≡ b → (0 < count p n → (i : ℕ) × (i < n) × (p i ≡ true)) → 0 < count p n + cond b 1 0
        → (i : ℕ) × (i < suc n) × (p i ≡ true)
    at true e rest l = (n, omega arith, e)
    at false e rest l = let q = rest (omega arith) in (q.0, omega arith, q.2)

-- each number below the count is how many pass before an index that passes
pub count_nth : (p : ℕ → Bool) (n k : ℕ) → k < count p n → (i : ℕ) × (i < n) × (p i ≡ true) × (count p i ≡ k)
unfolding count
count_nth p zero k l = absurd (not-suc-le-zero l)
count_nth p (suc n) k l = at (p n) refl (count_nth p n k) l
  where
    at : (b : Bool) → p n ≡ b → (k < count p n → (i : ℕ) × (i < n) × (p i ≡ true) × (count p i ≡ k)) → k < count p n + cond b 1 0
        → (i : ℕ) × (i < suc n) × (p i ≡ true) × (count p i ≡ k)
    at true e rest l =
        ⊎_elim (λ (w : k ≡ count p n). (n, omega arith, e, sym w)) (λ (w : k < count p n). let q = rest w in (q.0, omega arith, q.2, q.3))
        (eq-or-lt_of_le (let m : k ≤ count p n = omega arith in m))
    at false e rest l = let q = rest (omega arith) in (q.0, omega arith, q.2, q.3)

-- where one is counted, no two indices pass
pub count_once : (p : ℕ → Bool) (n : ℕ) → count p n ≡ 1 → (i j : ℕ) → i < n → j < n → p i ≡ true → p j ≡ true → i ≡ j
count_once p n one i j li lj hi hj =
    let up : ¬ (i < j) = apart i j lj hi hj in
    let down : ¬ (j < i) = apart j i li hj hi in
    omega arith
  where
    apart : (i j : ℕ) → j < n → p i ≡ true → p j ≡ true → i < j → ⊥
    apart i j lj hi hj l = omega (arith, count_hit p i j l hi, count_in_lem p j hj, count_mono p (j + 1) n (omega arith))

-- LEAD
pub lead_none : (p : ℕ → Bool) → lead p 0 ≡ 0
unfolding lead
lead_none p = refl

suc≢zero : (n : ℕ) → suc n ≡ 0 → ⊥
suc≢zero n e = omega arith

head_true : (b : Bool) (k i : ℕ) → cond b (suc k) 0 ≡ suc i → b ≡ true
head_true true k i e = refl
head_true false k i e = absurd (suc≢zero i (sym e))

head_rest : (b : Bool) (k i : ℕ) → cond b (suc k) 0 ≡ suc i → k ≡ i
head_rest true k i e = omega arith
head_rest false k i e = absurd (suc≢zero i (sym e))

lead_suc : (p : ℕ → Bool) (i : ℕ) → lead p i ≡ i → p i ≡ true → lead p (suc i) ≡ suc i
unfolding lead
lead_suc p zero e h = rw h
lead_suc p (suc i) e h =
    rw (head_true (p 0) (lead (λ k. p (suc k)) i) i e)
    (ap suc (lead_suc (λ k. p (suc k)) i (head_rest (p 0) (lead (λ k. p (suc k)) i) i e) h))

pub lead_more : (p : ℕ → Bool) (i : ℕ) → lead p i ≡ i → p i ≡ true → lead p (i + 1) ≡ i + 1
lead_more p i e h = rw (add-one i) (lead_suc p i e h)

pub lead_stop : (p : ℕ → Bool) (i n : ℕ) → i < n → lead p i ≡ i → p i ≡ false → lead p n ≡ i
unfolding lead
lead_stop p i zero l e h = absurd (not-suc-le-zero l)
lead_stop p zero (suc n) l e h = rw h
lead_stop p (suc i) (suc n) l e h =
    rw (head_true (p 0) (lead (λ k. p (suc k)) i) i e)
    (ap suc (lead_stop (λ k. p (suc k)) i n (le_of_suc-le-suc l) (head_rest (p 0) (lead (λ k. p (suc k)) i) i e) h))

pub lead_end : (p : ℕ → Bool) (i n : ℕ) → i ≡ n → lead p i ≡ i → lead p n ≡ i
lead_end p i n e h = rw (← e) h

-- tests that agree
pub lead_ext : (p q : ℕ → Bool) (n : ℕ) → ((i : ℕ) → i < n → p i ≡ q i) → lead p n ≡ lead q n
unfolding lead
lead_ext p q zero h = refl
lead_ext p q (suc n) h =
    rw (h 0 (omega arith)) (ap (λ (k : ℕ). cond (q 0) (suc k) 0) (lead_ext (λ k. p (suc k)) (λ k. q (suc k)) n (λ i l. h (suc i) (omega arith))))

pub lead_le : (p : ℕ → Bool) (n : ℕ) → lead p n ≤ n
unfolding lead
lead_le p zero = omega arith
lead_le p (suc n) = at (p 0) (lead_le (λ k. p (suc k)) n)
  where
    at : (b : Bool) → lead (λ k. p (suc k)) n ≤ n → cond b (suc (lead (λ k. p (suc k)) n)) 0 ≤ suc n
    at true l = omega arith
    at false l = omega arith

-- the index where it stops does not pass
pub lead_false : (p : ℕ → Bool) (n : ℕ) → lead p n < n → p (lead p n) ≡ false
unfolding lead
lead_false p zero l = absurd (not-suc-le-zero l)
lead_false p (suc n) l = at (p 0) refl (lead_false (λ k. p (suc k)) n) l
  where
    at : (b : Bool) → p 0 ≡ b → (lead (λ k. p (suc k)) n < n → p (suc (lead (λ k. p (suc k)) n)) ≡ false)
        → cond b (suc (lead (λ k. p (suc k)) n)) 0 < suc n → p (cond b (suc (lead (λ k. p (suc k)) n)) 0) ≡ false
    at true e rest l = rest (le_of_suc-le-suc l)
    at false e rest l = e

-- it stops no later than at an index that does not pass
pub lead_before : (p : ℕ → Bool) (n i : ℕ) → i < n → p i ≡ false → lead p n ≤ i
unfolding lead
lead_before p zero i l h = absurd (not-suc-le-zero l)
lead_before p (suc n) zero l h = rw h (omega arith)
lead_before p (suc n) (suc i) l h = at (p 0) (lead_before (λ k. p (suc k)) n i (le_of_suc-le-suc l) h)
  where
    at : (b : Bool) → lead (λ k. p (suc k)) n ≤ i → cond b (suc (lead (λ k. p (suc k)) n)) 0 ≤ suc i
    at true l = omega arith
    at false l = omega arith

-- what stands before it passes
pub lead_true : (p : ℕ → Bool) (n i : ℕ) → i < lead p n → p i ≡ true
lead_true p n i l =
    by_truth (p i) (λ e. e) (λ e. absurd (let late = lead_before p n i (omega (arith, lead_le p n)) e in omega arith))

-- the indices below i pass, and i, if it is below n, does not
pub lead_is : (p : ℕ → Bool) (i n : ℕ) → i ≤ n → ((j : ℕ) → j < i → p j ≡ true) → (i < n → p i ≡ false) → lead p n ≡ i
lead_is p i n l pass stop =
    let few = lead_le p n in
    let not-early : ¬ (lead p n < i) = λ early. true≢false (sym (pass (lead p n) early) ∙ lead_false p n (omega arith)) in
    let not_late : ¬ (i < lead p n) = λ late. let soon = lead_before p n i (omega arith) (stop (omega arith)) in omega arith in
    omega arith

-- the first index that passes is found, where some index i passes
pub first_passing : (p : ℕ → Bool) (n i : ℕ) → i < n → p i ≡ true → (lead (λ k. not (p k)) n < n) × (p (lead (λ k. not (p k)) n) ≡ true)
first_passing p n i l h =
    let miss : ℕ → Bool = λ k. not (p k) in
    let soon : lead miss n ≤ i = lead_before miss n i l (ap not h) in
    (omega arith, not-false (p (lead miss n)) (lead_false miss n (omega arith)))
