-- Scans of a range by an iterator, read as tests over the indices below a bound: `(0..n).any(|i| ..)` is `any`, and `(0..n).all(|i| ..)` is `all`.
use Prim.Native.Nat.{ℕ, ◌+◌, ◌-◌, ◌<◌}
use mathlib.Core.Bool.{Bool, true, false}
use mathlib.Core.Path.{◌≡◌, sym, ap, subst, ◌∙◌}
use native.Mathlib.Omega.{arith}
use denote.Param.Members.{Mut, Called}
use denote.Ref.{Bor}
use Rattle.std.specs.Prelude.{◌≤◌, IfSome, IsSomeAnd, IsTrue, MatchOption}
use Rattle.std.specs.Bool.{MatchBool}
use Rattle.std.specs.declared.option.Option.{Option}
use Rattle.std.specs.declared.option.Option.TheVariants.{Some, None}
use Rattle.std.specs.declared.ops.Range.{Range}
use Rattle.std.specs.Fn.{CalledAt}
use Rattle.std.specs.Option.{option_map}
use Rattle.std.specs.Iterator.Runs.{Run, SomeRun, WholeRun, EachRunFrom, AnyItemGives, AllItemsGive, CallKeepsClosure, IsTakeWhileRun}
use Rattle.std.proofs.iter.Yields.{nat_range_steps}
use Rattle.std.proofs.iter.runs.Sources.{range_runs}
use Rattle.std.proofs.lemmas.Option.{none-some}
use Rattle.indices.specs.Tests.{any, all, lead}
use Rattle.indices.proofs.Tests.{any_hit, any_false, all_miss, all_true, lead_is}

-- an item of which both are known
both_known : (o : Option ℕ) (P Q : ℕ → Type 0) → IfSome o P → IsSomeAnd o Q → (x : ℕ) × P x × Q x
both_known (Some x) P Q h g = (x, h, g)
both_known None P Q h g = absurd g

held : ℕ → Option ℕ → ℕ
held n (Some x) = x
held n None = n

-- an item that is known
item_known : (o : Option ℕ) (n : ℕ) (Q : ℕ → Type 0) → option_map (λ (y : ℕ). y) o ≡ Some n → IfSome o Q → Q n
unfolding held
item_known (Some x) n Q e h = subst Q (ap (held n) e) h
item_known None n Q e h = absurd (none-some n e)

module _ {F : Type 0} (g : Mut F (ℕ × Unit {0}) Bool) (f : F) (p : ℕ → Bool) (n : ℕ) (keep : CallKeepsClosure g f)
    (gives : (k : ℕ) (b : Bool) → k < n → Called g f (k, tt) b f → b ≡ p k) where
  -- some item gave b: the test says so at an index below n
  found : (b : Bool) (q : Run nat_range_steps) → q.from ≡ (record { start = 0; end = n }) → AnyItemGives q g f b → (k : ℕ) × (k < n) × (p k ≡ b)
  found b q from hit =
      let h = hit keep in
      let item = both_known (q.at h.0) _ _ ((range_runs q q.seen).2 h.0) h.2 in
      let below : item.0 < n = subst (λ (s : Range ℕ). item.0 < s.end) from item.1.1 in
      (item.0, below, sym (gives item.0 b below item.2))

  -- all items gave b, to the end: the test says so at each index below n
  each : (b : Bool) (q : Run nat_range_steps) → q.from ≡ (record { start = 0; end = n }) → IsTrue q.whole → AllItemsGive q g f b → (k : ℕ) → k < n → p k ≡ b
  each b q from whole gave k l =
      let counts = range_runs q q.seen in
      let total : q.len ≡ n = counts.1 whole ∙ subst (λ (s : Range ℕ). s.end - s.start ≡ n) (sym from) (omega arith) in
      let start : q.from.start + k ≡ k = subst (λ (s : Range ℕ). s.start + k ≡ k) (sym from) (omega arith) in
      sym (gives k b l (item_known (q.at k) k (λ x. Called g f (x, tt) b f) (counts.3 k (omega (arith, total)) ∙ ap Some start) (gave keep k)))

  pub any_scanned : (r : Bool) → SomeRun nat_range_steps (record { start = 0; end = n }) (λ q. MatchBool r (AnyItemGives q g f true) (IsTrue q.whole × AllItemsGive q g f false)) → r ≡ any p n
  any_scanned true (q, from, hit) = let h = found true q from hit in sym (any_hit p h.0 n h.1 h.2)
  any_scanned false (q, from, (whole, none)) = sym (any_false p n (each false q from whole none))

  pub all_scanned : (r : Bool) → SomeRun nat_range_steps (record { start = 0; end = n }) (λ q. MatchBool r (IsTrue q.whole × AllItemsGive q g f true) (AnyItemGives q g f false)) → r ≡ all p n
  all_scanned true (q, from, (whole, each_one)) = sym (all_true p n (each true q from whole each_one))
  all_scanned false (q, from, miss) = let h = found false q from miss in sym (all_miss p h.0 n h.1 h.2)

-- `(a..b).take_while(|i| ..).count()` is `lead`
module _ {F : Type 0} (g : Mut F (Bor ℕ × Unit {0}) Bool) (f : F) (p : ℕ → Bool) (a b : ℕ) (keep : CallKeepsClosure g f)
    (gives : (k : ℕ) (t : Bool) (f' : F) → a + k < b → CalledAt g f (a + k) t f' → t ≡ p k) where
  -- the item that was not taken
  stopped : (o : Option ℕ) (k len : ℕ) (whole : Bool) → IfSome o (λ x. x ≡ a + k) → MatchOption o ((whole ≡ true) × (len ≡ k)) (λ x. (f' : F) × CalledAt g f x false f')
      → (whole ≡ true → len ≡ b - a) → k < b - a → p k ≡ false
  stopped (Some x) k len whole here fails long l = sym (gives k false fails.0 (omega arith) (subst (λ (y : ℕ). CalledAt g f y false fails.0) here fails.1))
  stopped None k len whole here fails long l = absurd (omega (arith, fails.1, long fails.0))

  placed : (o : Option ℕ) (c k e : ℕ) → IfSome o (λ x. (x ≡ c + k) × (x < e)) → c ≡ a → IfSome o (λ x. x ≡ a + k)
  placed (Some x) c k e here start = here.0 ∙ ap (λ (n : ℕ). n + k) start
  placed None c k e here start = here

  pub lead_scanned : {S : Type 0} {steps : S → Option ℕ → S → Type 0} (s : S) (r : ℕ) → EachRunFrom steps s (λ u. SomeRun nat_range_steps (record { start = a; end = b }) (λ q. IsTakeWhileRun u q g f))
      → WholeRun steps s (λ u. r ≡ u.len) → r ≡ lead p (b - a)
  lead_scanned s r front (u, from, whole, count) =
      let taken = front u u.seen from in
      let q = taken.0 in
      let is = taken.2 in
      let counts = range_runs q q.seen in
      let few : q.len ≤ b - a = subst (λ (s : Range ℕ). q.len ≤ s.end - s.start) taken.1 counts.0 in
      let start : q.from.start ≡ a = ap (λ (s : Range ℕ). s.start) taken.1 in
      let long : q.whole ≡ true → q.len ≡ b - a = λ w. counts.1 w ∙ ap (λ (s : Range ℕ). s.end - s.start) taken.1 in
      count ∙ sym (
      lead_is p u.len (b - a) (omega (arith, is.0, few))
      (λ j l.
      let there : option_map (λ (y : ℕ). y) (u.at j) ≡ Some (a + j) =
      ap (option_map (λ (y : ℕ). y)) (sym (is.1 j l)) ∙ counts.3 j (omega (arith, is.0)) ∙ ap (λ (n : ℕ). Some (n + j)) start in
      sym (gives j true f (omega (arith, is.0, few)) (item_known (u.at j) (a + j) (λ x. CalledAt g f x true f) there ((is.2 keep).0 j))))
      (stopped (q.at u.len) u.len q.len q.whole (placed (q.at u.len) q.from.start u.len q.from.end (counts.2 u.len) start) ((is.2 keep).1 whole) long)
      )
