-- The counts of a state that has fifteen of inner regions: where each stands, and what holds of each.
use Prim.Native.Nat.{ℕ, zero, suc, ◌+◌, ◌<◌}
use mathlib.Core.Path.{◌≡◌, ap, ◌∙◌}
use mathlib.Core.List.{[], ◌∷◌}
use native.Mathlib.Omega.{arith}
use lib.ListN.{length, length-append, get_or-append}
use lib.Seq.{get_or-append-add}
use Rattle.indices.specs.Columns.{at}
use Rattle.indices.proofs.Steps.{by_order}
use Rattle.sheet.specs.Limits.{most_spans}
use Rattle.procedure.specs.State.{State, counts}
use Rattle.procedure.specs.Table.{inner_place, updates_place, counts_length}

module _ (s : State) (fifteen : length s.inner ≡ most_spans) where
  pub counts_length_lem : length (counts s) ≡ counts_length
  counts_length_lem = omega (arith, length-append s.inner (s.queues.updates ∷ []), fifteen)

  -- the count of height i + 1, and that of updates
  inner_count : (i : ℕ) → i < most_spans → at (counts s) (suc (suc i)) ≡ at s.inner i
  inner_count i l = get_or-append s.inner (s.queues.updates ∷ []) 0 i (rw fifteen l)

  pub level_count : (i : ℕ) → i < most_spans → at (counts s) (inner_place + i) ≡ at s.inner i
  level_count i l = ap (at (counts s)) (let e : inner_place + i ≡ suc (suc i) = omega arith in e) ∙ inner_count i l

  pub update_count : at (counts s) updates_place ≡ s.queues.updates
  update_count = rw fifteen at (get_or-append-add s.inner (s.queues.updates ∷ []) 0 0)

  -- what holds of the count at each place holds of all
  pub each_place : (P : ℕ → ℕ → Type 0) → P 0 s.rounds → P 1 s.leaves → ((i : ℕ) → i < most_spans → P (inner_place + i) (at s.inner i))
      → P updates_place s.queues.updates → (i : ℕ) → i < counts_length → P i (at (counts s) i)
  each_place P rounds leaves inner updates zero l = rounds
  each_place P rounds leaves inner updates (suc zero) l = leaves
  each_place P rounds leaves inner updates (suc (suc i)) l =
      by_order i most_spans
      (λ level. rw (inner_count i level, let e : suc (suc i) ≡ inner_place + i = omega arith in e) (inner i level))
      (λ last. rw (let e : i ≡ most_spans = omega arith in e, update_count) updates)
