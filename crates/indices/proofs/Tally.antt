-- A list of counters: the counter at v is how many of the indices passed hit v. For a loop that adds 1 to one counter a turn.
use Prim.Native.Nat.{ℕ, ◌+◌, ◌<◌, ◌≤◌}
use mathlib.Core.Bool.{Bool, true, false}
use mathlib.Core.List.{List}
use mathlib.Core.Path.{◌≡◌, sym, ap, ◌∙◌}
use native.Mathlib.Decide.{ℕ_discrete}
use native.Mathlib.Omega.{arith}
use lib.ListN.{length, get_or, set, replicate, length-set, length-replicate, get_or-replicate}
use lib.Seq.{get_or-set_same, get_or-set_other}
use Rattle.indices.specs.Tests.{count}
use Rattle.indices.proofs.Tests.{count_none, count_in_lem, count_out}

-- The counter at v says how many of the first n indices hit v, where `hits v i` says that index i does; none is above top.
pub record Tally (hits : ℕ → ℕ → Bool) (top : ℕ) (counters : List ℕ) (n : ℕ) : Type 0 where
  pub counts : (v : ℕ) → v < length counters → get_or counters v 0 ≡ count (hits v) n
  pub below : (v : ℕ) → v < length counters → get_or counters v 0 ≤ top

-- n counters at 0
abbrev pub blank : ℕ → List ℕ
blank n = replicate n 0

pub tally_none : (p : ℕ → ℕ → Bool) (top n : ℕ) → Tally p top (blank n) 0
tally_none p top n = record { counts = λ v l. zeros v l ∙ sym (count_none (p v)); below = λ v l. omega (arith, zeros v l) }
  where
    zeros : (v : ℕ) → v < length (blank n) → ◌≡◌ {A = ℕ} (get_or (blank n) v 0) 0
    zeros v l = get_or-replicate n v 0 0 (simp length-replicate at l)

module _ (p : ℕ → ℕ → Bool) (top : ℕ) (seen : List ℕ) (i : ℕ) (now : Tally p top seen i) where
  -- index i hits nothing
  pub tally_out : ((v : ℕ) → p v i ≡ false) → Tally p top seen (i + 1)
  tally_out miss = record { counts = λ v l. now.counts v l ∙ sym (count_out (p v) i (miss v)); below = now.below }

  -- index i hits t and nothing else
  pub tally_in : (t : ℕ) → t < length seen → p t i ≡ true → ((v : ℕ) → (v ≡ t → ⊥) → p v i ≡ false) → get_or seen t 0 < top
      → Tally p top (set seen t (get_or seen t 0 + 1)) (i + 1)
  tally_in t tl hit miss room = record {
    counts = λ v l. counts v (simp length-set at l) (ℕ_discrete v t);
    below = λ v l. below v (simp length-set at l)
        (ℕ_discrete v t);
  }
    where
      counts : (v : ℕ) → v < length seen → Dec (v ≡ t) → get_or (set seen t (get_or seen t 0 + 1)) v 0 ≡ count (p v) (i + 1)
      counts v l (yes e) = rw (e, get_or-set_same seen t (get_or seen t 0 + 1) 0 tl, count_in_lem (p t) i hit) (ap (λ (n : ℕ). n + 1) (now.counts t tl))
      counts v l (no n) = rw (get_or-set_other seen t v (get_or seen t 0 + 1) 0 n, count_out (p v) i (miss v n)) (now.counts v l)

      below : (v : ℕ) → v < length seen → Dec (v ≡ t) → get_or (set seen t (get_or seen t 0 + 1)) v 0 ≤ top
      below v l (yes e) = rw (e, get_or-set_same seen t (get_or seen t 0 + 1) 0 tl) (omega arith)
      below v l (no n) = rw (get_or-set_other seen t v (get_or seen t 0 + 1) 0 n) (now.below v l)
