-- Filtered items of a range that are counted: `(0..n).filter(|i| ..).count()` is `count`, how many indices below the bound pass.
use Prim.Native.Nat.{ℕ, suc, ◌+◌, ◌-◌, ◌<◌}
use mathlib.Core.Bool.{Bool, cond}
use mathlib.Core.Path.{◌≡◌, sym, ap, subst, ◌∙◌}
use mathlib.Core.List.{List, [], ◌∷◌}
use native.Mathlib.Omega.{arith}
use denote.Param.Members.{Mut}
use denote.Ref.{Bor}
use lib.ListN.{length, get_or}
use Rattle.std.specs.List.{fold}
use Rattle.std.specs.declared.option.Option.{Option}
use Rattle.std.specs.declared.option.Option.TheVariants.{Some, None}
use Rattle.std.specs.declared.ops.Range.{Range}
use Rattle.std.specs.Fn.{CalledAt}
use Rattle.std.specs.Iterator.Runs.{SomeRun, WholeRun, EachRunFrom, IsFilterRun}
use Rattle.std.proofs.iter.Yields.{nat_range_steps}
use Rattle.std.proofs.iter.runs.Sources.{range_runs}
use Rattle.indices.specs.Tests.{count}
use Rattle.indices.proofs.Tests.{count_none, count_ext, count_front}

held : ℕ → Option ℕ → ℕ
held n (Some x) = x
held n None = n

-- a fold that counts the items of a range
counted : (p : ℕ → Bool) (start m : ℕ) (xs : List ℕ) → ((k : ℕ) → k < length xs → get_or xs k 0 ≡ start + k)
    → fold (λ (t x : ℕ). t + cond (p x) 1 0) m xs ≡ m + count (λ i. p (start + i)) (length xs)
counted p start m [] at = rw count_none (omega arith)
counted p start m (x ∷ xs) at =
    let n = length xs in
    let first : x ≡ start + 0 = at 0 (omega arith) in
    let rest = counted p (start + 1) (m + cond (p x) 1 0) xs (λ k l. at (suc k) (omega arith) ∙ (omega arith)) in
    let same : count (λ i. p (start + 1 + i)) n ≡ count (λ i. p (start + suc i)) n = count_ext _ _ n (λ i l. ap p (omega arith)) in
    let head : cond (p x) 1 0 ≡ cond (p (start + 0)) 1 0 = ap {B = ℕ} (λ (y : ℕ). cond (p y) 1 0) first in
    omega (arith, rest, same, count_front (λ i. p (start + i)) n, head)

module _ {F : Type 0} (g : Mut F (Bor ℕ × Unit {0}) Bool) (f : F) (p : ℕ → Bool) (n : ℕ)
    (gives : (x : ℕ) (t : Bool) (f' : F) → CalledAt g f x t f' → (f' ≡ f) × (t ≡ p x)) where
  pub count_scanned : {S : Type 0} {steps : S → Option ℕ → S → Type 0} (s : S) (r : ℕ)
      → EachRunFrom steps s (λ u. SomeRun nat_range_steps (record { start = 0; end = n }) (λ q. IsFilterRun u q g f))
      → WholeRun steps s (λ u. r ≡ u.len) → r ≡ count p n
  unfolding held
  count_scanned s r front (u, from, whole, is_len) =
      let taken = front u u.seen from in
      let q = taken.0 in
      let is = taken.2 in
      let counts = range_runs q q.seen in
      let start : q.from.start ≡ 0 = ap (λ (s : Range ℕ). s.start) taken.1 in
      let total : q.len ≡ n = counts.1 (is.0 ∙ whole) ∙ subst (λ (s : Range ℕ). s.end - s.start ≡ n) (sym taken.1) (omega arith) in
      let placed : (k : ℕ) → k < length q.items → get_or q.items k 0 ≡ 0 + k =
      λ k l.
      let inside : k < q.len = omega (arith, q.long) in
      ap (held k) (sym (q.reads k 0 inside) ∙ counts.3 k inside) ∙ ap (λ (a : ℕ). a + k) start in
      let steps_counted = is.5 (λ (t x : ℕ). t + cond (p x) 1 0)
      (λ x t f' m call. let told = gives x t f' call in (told.0, ap {B = ℕ} (λ (v : Bool). m + cond v 1 0) (sym told.1))) in
      is_len ∙ steps_counted ∙ counted p 0 0 q.items placed
      ∙ omega (arith, count_ext (λ i. p (0 + i)) p (length q.items) (λ i l. ap p (omega arith)), ap (count p) (sym q.long ∙ total))
