-- The words of kinds 1 to 5 and 13 of an accepted sheet are those up to its last arc.
use Prim.Native.Nat.{ℕ, zero, suc, ◌+◌, ◌-◌, ◌<◌}
use mathlib.Core.Bool.{true, false}
use mathlib.Core.Path.{◌≡◌}
use mathlib.Core.Logic.{⊎_elim}
use mathlib.Core.List.{List}
use native.Mathlib.Omega.{arith}
use Rattle.indices.proofs.Columns.{front_passes}
use Rattle.indices.proofs.Steps.{by_order}
use Rattle.sheet.specs.Words.{words, word, kind_of, kind}
use Rattle.sheet.specs.Sections.{span_count, holds_at, hold_count, arcs_at, regions_at, region_words}
use Rattle.sheet.proofs.Bounds.{region_words_lem, regions_inside}
use Rattle.judgement.specs.Judgement.{Accepted}
use Rattle.judgement.proofs.Accepted.{front_there}
use Rattle.judgement.proofs.Places.{front_kinds, span_kind, hold_kind_lem, arc_kind_lem, region_word_kind}
use Rattle.canonical_form.specs.Canonical.{front_words}
use Rattle.canonical_form.specs.Alike.{is_shared, shared_words}

-- a word is shared as any other of its kind is
of_kind_lem : (b : List ℕ) (i w : ℕ) → kind b i ≡ kind_of w → is_shared (word b i) ≡ is_shared w
unfolding kind
of_kind_lem b i w e = rw e

module _ (b : List ℕ) (ok : Accepted b) where
  front_shared : (i : ℕ) → i < regions_at b → is_shared (word b i) ≡ true
  front_shared zero l = of_kind_lem b 0 0x10000000 (front_kinds b ok).0
  front_shared (suc zero) l = of_kind_lem b 1 0x20000000 (front_kinds b ok).1
  front_shared (suc (suc k)) l =
      let i = suc (suc k) in
      by_order k (span_count b)
      (λ span. let place : i ≡ 2 + k = omega arith in rw place (of_kind_lem b (2 + k) 0x30000000 (span_kind b k span)))
      (λ later.
      let v = k - span_count b in
      by_order v (hold_count b)
      (λ hold. let place : i ≡ holds_at b + v = omega arith in rw place (of_kind_lem b (holds_at b + v) 0xd0000000 (hold_kind_lem b v hold)))
      (λ arc.
      let j = v - hold_count b in
      let place : i ≡ arcs_at b + j = omega arith in
      rw place (⊎_elim (of_kind_lem b (arcs_at b + j) 0x40000000) (of_kind_lem b (arcs_at b + j) 0x50000000) (arc_kind_lem b j (omega arith)))))

  region_not_shared : (k : ℕ) → k < words (region_words b) → is_shared (word b (regions_at b + k)) ≡ false
  region_not_shared k l = ⊎_elim (of_kind_lem b (regions_at b + k) 0x60000000) (of_kind_lem b (regions_at b + k) 0x70000000) (region_word_kind b ok k l)

  pub shared_front : shared_words b ≡ front_words b
  unfolding shared_words front_words
  shared_front =
      let two = front_there b ok in
      let all : words b ≡ regions_at b + words (region_words b) = omega (arith, region_words_lem b two, regions_inside b two) in
      rw all (front_passes is_shared (regions_at b) (words (region_words b)) (word b) front_shared region_not_shared)
