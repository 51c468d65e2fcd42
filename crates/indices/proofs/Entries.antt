-- Entries of a list that are stored one after the other, each at its own place.
use Prim.Native.Nat.{ℕ, ◌+◌, ◌≤◌, ◌<◌}
use mathlib.Core.Path.{◌≡◌, sym, ap, ◌∙◌}
use mathlib.Core.Logic.{◌≢◌}
use mathlib.Core.List.{List}
use native.Mathlib.Omega.{arith}
use lib.ListN.{length, set, take, length-set}
use lib.Seq.{get_or-set_same, get_or-set_other, get_or-take, ext_get_or, length-take-le}
use Rattle.indices.specs.Columns.{at, column}
use Rattle.indices.proofs.Columns.{length_column, at_column}
use Rattle.indices.proofs.Steps.{by_equal}

-- the first i entries stand at their places
pub record Entered (place f : ℕ → ℕ) (l : List ℕ) (i : ℕ) : Type 0 where
  pub entry : (j : ℕ) → j < i → at l (place j) ≡ f j

pub entered_none : (place f : ℕ → ℕ) (l : List ℕ) → Entered place f l 0
entered_none place f l = record { entry = λ j h. absurd (omega arith) }

-- a store elsewhere leaves them
pub entered_kept : {place f : ℕ → ℕ} {l : List ℕ} {i : ℕ} (p x : ℕ) → ((j : ℕ) → j < i → place j ≢ p) → Entered place f l i → Entered place f (set l p x) i
entered_kept {place} {f} {l} p x other E = record { entry = λ j h. get_or-set_other l p (place j) x 0 (other j h) ∙ E.entry j h }

-- entry i is stored at its place, which is none of the earlier ones
pub entered_more : {place f : ℕ → ℕ} {l : List ℕ} {i : ℕ} (x : ℕ) → ((j : ℕ) → j < i → place j ≢ place i) → place i < length l → x ≡ f i
    → Entered place f l i → Entered place f (set l (place i) x) (i + 1)
entered_more {place} {f} {l} {i} x other inside e E =
    let before = entered_kept (place i) x other E in
    record {
      entry =
          λ j h.
          by_equal j i
          (λ same. ap (λ (k : ℕ). at (set l (place i) x) (place k)) same ∙ get_or-set_same l (place i) x 0 inside ∙ e ∙ sym (ap f same))
          (λ ne. before.entry j (omega arith));
    }

-- A COLUMN FROM ITS FRONT

-- the first i of n entries are those of the column
pub record Prefix (n : ℕ) (f : ℕ → ℕ) (l : List ℕ) (i : ℕ) : Type 0 where
  pub within : i ≤ n
  pub long : length l ≡ n
  pub entries : Entered (λ i. i) f l i

pub prefix_none : (n : ℕ) (f : ℕ → ℕ) (l : List ℕ) → length l ≡ n → Prefix n f l 0
prefix_none n f l e = record { within = omega arith; long = e; entries = entered_none (λ i. i) f l }

pub prefix_more : {n : ℕ} {f : ℕ → ℕ} {l : List ℕ} {i : ℕ} (x : ℕ) → Prefix n f l i → i < n → x ≡ f i → Prefix n f (set l i x) (i + 1)
prefix_more x P h e = record {
  within = omega arith;
  long = simp length-set P.long;
  entries = entered_more x (λ j k. omega arith) (omega (arith, P.long)) e P.entries;
}

pub prefix_all : {n : ℕ} {f : ℕ → ℕ} {l : List ℕ} {i : ℕ} → Prefix n f l i → n ≤ i → l ≡ column n f
prefix_all {n} {f} {l} {i} P h =
    ext_get_or 0 l (column n f) (P.long ∙ sym (length_column n f))
    (λ j k. let inside : j < n = omega (arith, P.long) in P.entries.entry j (omega arith) ∙ sym (at_column n f j inside))

-- and of a list of any length the first i are those of the column
pub prefix_front : {n : ℕ} {f : ℕ → ℕ} {l : List ℕ} {i : ℕ} → Prefix n f l i → take i l ≡ column i f
prefix_front {n} {f} {l} {i} P =
    let long : length (take i l) ≡ i = length-take-le i l (omega (arith, P.within, P.long)) in
    ext_get_or 0 (take i l) (column i f) (long ∙ sym (length_column i f))
    (λ j k. let inside : j < i = omega (arith, long) in get_or-take i l j 0 inside ∙ P.entries.entry j inside ∙ sym (at_column i f j inside))
