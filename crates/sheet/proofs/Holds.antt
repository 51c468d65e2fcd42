-- Holds, and what is charged of them, by cases; each is a payload or 0. And two sheets that have the same.
use Prim.Native.Nat.{ℕ, ◌+◌, ◌<◌, ◌≤◌}
use mathlib.Core.Logic.{◌≢◌}
use mathlib.Core.List.{List}
use mathlib.Core.Path.{◌≡◌, sym, ◌∙◌}
use borrow.Author.Tests.{eq-eqb, ne_eqb, lt-ltb, le-ltb}
use native.Mathlib.Omega.{arith}
use Rattle.indices.proofs.Steps.{by_order, by_equal}
use Rattle.sheet.specs.Words.{payloads, payload}
use Rattle.sheet.specs.Sections.{source, holds_at, hold_count}
use Rattle.sheet.specs.Arcs.{arc_length, tail, hold, charged, taken_length}

module _ (b : List ℕ) where
  payload_small : (i : ℕ) → payload b i < payloads
  unfolding payload
  payload_small i = omega arith

  pub length_small : (a : ℕ) → arc_length b a < payloads
  unfolding arc_length
  length_small a = payload_small _

  module _ (v : ℕ) where
    -- the sheet carries a hold for v, or none
    pub hold_there : v < hold_count b → hold b v ≡ payload b (holds_at b + v)
    unfolding hold
    hold_there l = rw (lt-ltb v (hold_count b) l)

    pub hold_none : hold_count b ≤ v → hold b v ≡ 0
    unfolding hold
    hold_none l = rw (le-ltb v (hold_count b) l)

    hold_small : hold b v < payloads
    hold_small = by_order v (hold_count b) (λ l. rw (hold_there l) (payload_small (holds_at b + v))) (λ l. omega (arith, hold_none l))

    -- v is the source, or another node
    pub charged_source : v ≡ source b → charged b v ≡ 0
    unfolding charged
    charged_source e = rw (eq-eqb v (source b) e)

    pub charged_other : v ≢ source b → charged b v ≡ hold b v
    unfolding charged
    charged_other n = rw (ne_eqb v (source b) n)

    pub charged_small : charged b v < payloads
    charged_small = by_equal v (source b) (λ e. omega (arith, charged_source e)) (λ n. omega (arith, charged_other n, hold_small))

    -- in a sheet without holds nothing is charged
    pub charged_none : hold_count b ≡ 0 → charged b v ≡ 0
    charged_none none = by_equal v (source b) charged_source (λ n. omega (arith, charged_other n, hold_none (omega arith)))

  -- and an arc takes its length
  pub taken_none : hold_count b ≡ 0 → (a : ℕ) → taken_length b a ≡ arc_length b a
  unfolding taken_length
  taken_none none a = omega (arith, charged_none (tail b a) none)

-- TWO SHEETS: with as many holds, each of them the same, and with one source, an arc with the same tail and length takes the same
module _ (b b' : List ℕ) where
  pub hold_same_at : hold_count b ≡ hold_count b' → (v : ℕ) → (v < hold_count b → payload b (holds_at b + v) ≡ payload b' (holds_at b' + v))
      → hold b v ≡ hold b' v
  hold_same_at many v held =
      by_order v (hold_count b)
      (λ l. hold_there b v l ∙ held l ∙ sym (hold_there b' v (omega (arith, many))))
      (λ l. hold_none b v l ∙ sym (hold_none b' v (omega (arith, many))))

  pub hold_same : hold_count b ≡ hold_count b' → ((v : ℕ) → v < hold_count b → payload b (holds_at b + v) ≡ payload b' (holds_at b' + v)) → (v : ℕ)
      → hold b v ≡ hold b' v
  hold_same many each v = hold_same_at many v (each v)

  pub charged_same : source b ≡ source b' → (v : ℕ) → hold b v ≡ hold b' v → charged b v ≡ charged b' v
  unfolding charged
  charged_same one v held = rw (one, held)

  pub taken_same : source b ≡ source b' → ((v : ℕ) → hold b v ≡ hold b' v) → (a : ℕ) → tail b a ≡ tail b' a → arc_length b a ≡ arc_length b' a
      → taken_length b a ≡ taken_length b' a
  unfolding taken_length
  taken_same one held a tails lengths = rw (tails, lengths, charged_same one (tail b' a) (held (tail b' a)))
