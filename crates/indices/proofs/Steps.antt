-- Laws of choice, which is `cond`, of `up_to` and `times`, case splits on numbers and tests, and an entry after a store.
use Prim.Native.Nat.{ℕ, zero, suc, ◌+◌, ◌≤◌, ◌<◌}
use native.Mathlib.Nat.{lt-suc_self, zero-add, suc-add}
use native.Mathlib.Omega.{arith}
use mathlib.Core.Bool.{Bool, true, false, cond, not, ◌&&◌}
use mathlib.Core.Path.{◌≡◌, refl, sym, ap, ◌∙◌, subst}
use mathlib.Core.Logic.{◌≢◌, ◌⊎◌, inl, inr, ⊎_elim}
use mathlib.Core.List.{List}
use lib.ListN.{length, get_or, set}
use lib.Seq.{get_or-set_same, get_or-set_other}
use lib.Dec.{T, T_not, ltb, eqb, ltb→lt, nltb→le, eqb→eq, eqb_refl}
use Rattle.indices.specs.Steps.{up_to, times}

-- to prove P of an if, prove it of both branches, with the test's outcome in hand
pub if_elim {ℓ κ} : {A : Type ℓ} (P : A → Type κ) (b : Bool) {x y : A} → (T b → P x) → (T (not b) → P y) → P (cond b x y)
if_elim P true f g = f tt
if_elim P false f g = g tt

-- the same where two tests are joined
pub if_and_elim {ℓ κ} : {A : Type ℓ} (P : A → Type κ) (a b : Bool) {x y : A}
    → (T a → T b → P x) → (T a → T (not b) → P y) → (T (not a) → P y) → P (cond (a && b) x y)
if_and_elim P true true f g k = f tt tt
if_and_elim P true false f g k = g tt tt
if_and_elim P false b f g k = k tt

pub if_false {ℓ} : {A : Type ℓ} (b : Bool) (x y : A) → T (not b) → (cond b x y) ≡ y
if_false true x y t = absurd t
if_false false x y t = refl

pub if_cong {ℓ} : {A : Type ℓ} (b : Bool) (x x' y : A) → (T b → x ≡ x') → (cond b x y) ≡ (cond b x' y)
if_cong true x x' y e = e tt
if_cong false x x' y e = refl

-- a choice, under a map
pub if_maps {ℓ κ} : {A : Type ℓ} {B : Type κ} (h : A → B) (b : Bool) (x : A) (x' : B) (y : A) → (T b → x' ≡ h x)
    → (cond b x' (h y)) ≡ h (cond b x y)
if_maps h true x x' y e = e tt
if_maps h false x x' y e = refl

pub T-or : (b : Bool) → T b ⊎ T (not b)
T-or true = inl tt
T-or false = inr tt

-- the same as equations
pub true_or_false : (b : Bool) → (b ≡ true) ⊎ (b ≡ false)
true_or_false true = inl refl
true_or_false false = inr refl

pub T_of : (b : Bool) → b ≡ true → T b
T_of b e = subst T (sym e) tt

pub neqb→ne : (m n : ℕ) → T (not (eqb m n)) → m ≢ n
neqb→ne m n t e = go (eqb m n) t (subst (λ (x : ℕ). T (eqb m x)) e (eqb_refl m))
  where
    go : (b : Bool) → T (not b) → T b → ⊥
    go true t u = t
    go false t u = u

pub ruleset tests = (ltb→lt, nltb→le, eqb→eq, neqb→ne)

-- either way round of a test, for a case split in a proof
pub eq_or_ne : (m n : ℕ) → (m ≡ n) ⊎ (m ≢ n)
eq_or_ne m n = go (eqb m n) (λ t. eqb→eq m n t) (λ t. neqb→ne m n t)
  where
    go : (b : Bool) → (T b → m ≡ n) → (T (not b) → m ≢ n) → (m ≡ n) ⊎ (m ≢ n)
    go true f g = inl (f tt)
    go false f g = inr (g tt)

pub lt_or_le : (m n : ℕ) → (m < n) ⊎ (n ≤ m)
lt_or_le m n = ⊎_elim (λ (t : T (ltb m n)). inl (ltb→lt m n t)) (λ (t : T (not (ltb m n))). inr (nltb→le m n t)) (T-or (ltb m n))

-- BY CASES: the order of two numbers, whether they are equal, a truth value
pub by_order {ℓ} : {P : Type ℓ} (m n : ℕ) → (m < n → P) → (n ≤ m → P) → P
by_order m n below above = ⊎_elim below above (lt_or_le m n)

pub by_equal {ℓ} : {P : Type ℓ} (m n : ℕ) → (m ≡ n → P) → (m ≢ n → P) → P
by_equal m n same other = ⊎_elim same other (eq_or_ne m n)

pub by_truth {ℓ} : {P : Type ℓ} (b : Bool) → (b ≡ true → P) → (b ≡ false → P) → P
by_truth b holds fails = ⊎_elim holds fails (true_or_false b)

-- what holds below n and of n holds below suc n
pub below_suc {κ} : (P : ℕ → Type κ) (n : ℕ) → ((i : ℕ) → i < n → P i) → P n → (i : ℕ) → i < suc n → P i
below_suc P n f p i l = by_equal i n (λ e. rw e p) (λ ne. f i (omega arith))

-- up to n steps were made, one at least, and all n of them where the steps would still go on
pub record Stepped (n before after : ℕ) (goes_on : Type 0) : Type 0 where
  pub some : before < after
  pub no_more : after ≤ before + n
  pub all : goes_on → after ≡ before + n

module _ {ℓ κ} {S : Type ℓ} where
  pub up_to_keeps : (P : ℕ → S → Type κ) (f : ℕ → S → S) (s : S) (n : ℕ) → P zero s → ((i : ℕ) (t : S) → i < n → P i t → P (suc i) (f i t)) → P n (up_to n f s)
  unfolding up_to
  up_to_keeps P f s zero base step = base
  up_to_keeps P f s (suc n) base step = step n (up_to n f s) (lt-suc_self n) (up_to_keeps P f s n base (λ i t l p. step i t (omega arith) p))

  pub times_keeps : (P : S → Type κ) (test : S → Bool) (f : S → S) → ((s : S) → T (test s) → P s → P (f s)) → (n : ℕ) (s : S) → P s → P (times n test f s)
  unfolding times
  times_keeps P test f step zero s p = p
  times_keeps P test f step (suc n) s p = if_elim P (test s) (λ t. times_keeps P test f step n (f s) (step s t p)) (λ t. p)

  -- where the test holds at first, and f makes J of I or of J, the whole makes J
  pub times_reach : (I J : S → Type κ) (test : S → Bool) (f : S → S) → ((s : S) → T (test s) → I s → J (f s)) → ((s : S) → J s → I s)
      → (n : ℕ) (s : S) → zero < n → T (test s) → I s → J (times n test f s)
  unfolding times
  times_reach I J test f step weak zero s pos t p = absurd (omega arith)
  times_reach I J test f step weak (suc n) s pos t p =
      if_elim J (test s) (λ _. times_keeps J test f (λ s t j. step s t (weak s j)) n (f s) (step s t p)) (λ u. absurd (T_not (test s) u t))

  -- Where f raises m by one or more, and the test still holds at the end, m was raised n times.
  pub times_rise : (P : S → Type κ) (m : S → ℕ) (test : S → Bool) (f : S → S)
      → ((s : S) → T (test s) → P s → P (f s)) → ((s : S) → T (test s) → P s → m s < m (f s))
      → (n : ℕ) (s : S) → P s → T (test (times n test f s)) → m s + n ≤ m (times n test f s)
  unfolding times
  times_rise P m test f keep rise zero s p = λ t. omega arith
  times_rise P m test f keep rise (suc n) s p =
      if_elim (λ (r : S). T (test r) → m s + suc n ≤ m r) (test s)
      (λ go t. omega (arith, rise s go p, times_rise P m test f keep rise n (f s) (keep s go p) t)) (λ stop t. absurd (T_not (test s) stop t))

  -- Where f raises m by one, up to n steps raise it by at most n.
  times_most : (P : S → Type κ) (m : S → ℕ) (test : S → Bool) (f : S → S)
      → ((s : S) → T (test s) → P s → P (f s)) → ((s : S) → T (test s) → P s → m (f s) ≡ suc (m s))
      → (n : ℕ) (s : S) → P s → m (times n test f s) ≤ m s + n
  unfolding times
  times_most P m test f keep raise zero s p = omega arith
  times_most P m test f keep raise (suc n) s p =
      if_elim (λ (t : S). m t ≤ m s + suc n) (test s)
      (λ go. omega (arith, raise s go p, times_most P m test f keep raise n (f s) (keep s go p))) (λ _. omega arith)

  -- Then m tells how many steps were made: one at least where the test holds at first, and n where it still holds at the end.
  pub times_stepped : (P : S → Type κ) (m : S → ℕ) (test : S → Bool) (f : S → S)
      → ((s : S) → T (test s) → P s → P (f s)) → ((s : S) → T (test s) → P s → m (f s) ≡ suc (m s))
      → (n : ℕ) (s : S) → 0 < n → T (test s) → P s → Stepped n (m s) (m (times n test f s)) (T (test (times n test f s)))
  times_stepped P m test f keep raise n s pos t p =
      let rise : (u : S) → T (test u) → P u → m u < m (f u) = λ u go q. omega (arith, raise u go q) in
      let moved = times_reach (λ u. P u × (m s ≤ m u)) (λ u. P u × (m s < m u)) test f
      (λ u go q. (keep u go q.0, omega (arith, q.1, raise u go q.0))) (λ u q. (q.0, omega (arith, q.1))) n s pos t (p, omega arith) in
      record {
        some = moved.1;
        no_more = times_most P m test f keep raise n s p;
        all = λ still. omega (arith, times_most P m test f keep raise n s p, times_rise P m test f keep rise n s p still);
      }

  -- A map h under which the test and, where it holds, the step commute: so do the steps up to n times. P says of which states this is so.
  pub times_maps : (P : S → Type κ) (h : S → S) (test : S → Bool) (f f' : S → S) → ((s : S) → test (h s) ≡ test s)
      → ((s : S) → T (test s) → P s → P (f s)) → ((s : S) → T (test s) → P s → f' (h s) ≡ h (f s)) → (n : ℕ) (s : S) → P s
      → times n test f' (h s) ≡ h (times n test f s)
  unfolding times
  times_maps P h test f f' same keep step zero s p = refl
  times_maps P h test f f' same keep step (suc n) s p =
      rw (same s)
      (if_maps h (test s) _ _ s (λ t. ap (times n test f') (step s t p) ∙ times_maps P h test f f' same keep step n (f s) (keep s t p)))

module _ {ℓ} {S : Type ℓ} where
  pub up_to_cong : (f g : ℕ → S → S) (s : S) (n : ℕ) → ((i : ℕ) (t : S) → i < n → f i t ≡ g i t) → up_to n f s ≡ up_to n g s
  unfolding up_to
  up_to_cong f g s zero e = refl
  up_to_cong f g s (suc n) e = e n (up_to n f s) (lt-suc_self n) ∙ ap (g n) (up_to_cong f g s n (λ i t l. e i t (omega arith)))

  -- one step, where the test holds, and none where it fails
  pub times_on : (test : S → Bool) (f : S → S) (n : ℕ) (s : S) → test s ≡ true → times (suc n) test f s ≡ times n test f (f s)
  unfolding times
  times_on test f n s e = rw e

  pub times_off : (test : S → Bool) (f : S → S) (n : ℕ) (s : S) → test s ≡ false → times n test f s ≡ s
  unfolding times
  times_off test f zero s e = refl
  times_off test f (suc n) s e = rw e

  pub times_none : (test : S → Bool) (f : S → S) (s : S) → times 0 test f s ≡ s
  unfolding times
  times_none test f s = refl

  -- steps that agree where the test holds
  pub times_cong : (test : S → Bool) (f g : S → S) → ((s : S) → T (test s) → f s ≡ g s) → (n : ℕ) (s : S) → times n test f s ≡ times n test g s
  unfolding times
  times_cong test f g e zero s = refl
  times_cong test f g e (suc n) s =
      if_cong (test s) (times n test f (f s)) (times n test g (g s)) s (λ t. rw (e s t) (times_cong test f g e n (g s)))

  -- once the test fails, more times change nothing
  pub times_stop : (test : S → Bool) (f : S → S) (n : ℕ) (s : S) → T (not (test (times n test f s))) → (m : ℕ) → n ≤ m → times m test f s ≡ times n test f s
  unfolding times
  times_stop test f zero s t zero l = refl
  times_stop test f zero s t (suc m) l = if_false (test s) _ _ t
  times_stop test f (suc n) s t zero l = absurd (omega arith)
  times_stop test f (suc n) s t (suc m) l = go (test s) (λ t. times_stop test f n (f s) t m (omega arith)) t
    where
      go : (b : Bool) → (T (not (test (times n test f (f s)))) → times m test f (f s) ≡ times n test f (f s))
          → T (not (test (cond b (times n test f (f s)) s))) → cond b (times m test f (f s)) s ≡ cond b (times n test f (f s)) s
      go true ih t = ih t
      go false ih t = refl

  -- n times, and then m times more
  pub times_add : (test : S → Bool) (f : S → S) (n m : ℕ) (s : S) → times (n + m) test f s ≡ times m test f (times n test f s)
  unfolding times
  times_add test f zero m s = rw (zero-add m)
  times_add test f (suc n) m s = rw (suc-add n m) (go (times_add test f n m (f s)) (test s) refl)
    where
      go : times (n + m) test f (f s) ≡ times m test f (times n test f (f s)) → (b : Bool) → test s ≡ b
          → cond b (times (n + m) test f (f s)) s ≡ times m test f (cond b (times n test f (f s)) s)
      go ih true e = ih
      go ih false e = sym (times_off test f m s e)

-- to prove P of an entry after a store, prove it of the value stored and of the entries that stay
pub set_elim {κ} : (P : ℕ → Type κ) (l : List ℕ) (i j a d : ℕ) → i < length l → (j ≡ i → P a) → (j ≢ i → P (get_or l j d)) → P (get_or (set l i a) j d)
set_elim P l i j a d li f g = go (eq_or_ne j i)
  where
    go : (j ≡ i) ⊎ (j ≢ i) → P (get_or (set l i a) j d)
    go (inl e) = rw (e, get_or-set_same l i a d li) (f e)
    go (inr n) = rw (get_or-set_other l i j a d n) (g n)
