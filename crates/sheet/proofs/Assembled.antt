-- A sheet that is put together from its sections has these sections: two words, spans, holds, arcs and region words, each of its kind.
use Prim.Native.Nat.{ℕ, suc, ◌+◌, ◌-◌, ◌*◌, ◌/◌, ◌<◌}
use mathlib.Core.List.{List, ◌∷◌, ◌++◌, append_assoc}
use mathlib.Core.Path.{◌≡◌, sym, ap, ◌∙◌}
use borrow.Author.Tests.{eq-eqb, ne_eqb}
use native.Mathlib.Omega.{arith}
use lib.ListN.{length, drop, length-append, get_or-append}
use lib.Seq.{get_or-append-add, drop-append_seam}
use Rattle.indices.specs.Columns.{at}
use Rattle.indices.proofs.Steps.{by_order}
use Rattle.indices.proofs.Tests.{lead_is, and_both}
use Rattle.sheet.specs.Words.{words, word, kind_of, kind, bytes_of}
use Rattle.sheet.specs.Sections.{of_kind, is_arc, kind_from, span_count, holds_at, hold_count, arcs_from, arcs_at, arc_count, regions_at, region_words}
use Rattle.sheet.proofs.Bytes.{length_bytes, word_bytes, drop_bytes}

pub record Assembled (b spans holds arcs regions : List ℕ) : Type 0 where
  pub first : ℕ
  pub second : ℕ
  pub whole : b ≡ bytes_of (first ∷ second ∷ (spans ++ (holds ++ (arcs ++ regions))))
  pub count : ℕ
  pub pairs : length arcs ≡ 2 * count
  pub span_kind : (k : ℕ) → k < length spans → kind_of (at spans k) ≡ 3
  pub hold_kind_lem : (v : ℕ) → v < length holds → kind_of (at holds v) ≡ 13
  pub ends_kind : (a : ℕ) → a < count → kind_of (at arcs (2 * a)) ≡ 4
  pub length_kind : (a : ℕ) → a < count → kind_of (at arcs (2 * a + 1)) ≡ 5
  pub region_kind_lem : (k : ℕ) → k < length regions → (5 < kind_of (at regions k)) × (kind_of (at regions k) < 8)

module _ {b spans holds arcs regions : List ℕ} (A : Assembled b spans holds arcs regions) where
  -- ITS WORDS
  pub assembled_bytes : length b ≡ 4 * (2 + length spans + length holds + length arcs + length regions)
  assembled_bytes =
      omega (
        arith,
        ap length A.whole,
        length_bytes (spans ++ (holds ++ (arcs ++ regions))),
        length-append spans (holds ++ (arcs ++ regions)),
        length-append holds (arcs ++ regions),
        length-append arcs regions,
      )

  all_words : words b ≡ 2 + length spans + length holds + length arcs + length regions
  all_words = omega (arith, assembled_bytes)

  word_of : (i : ℕ) → word b i ≡ at (A.first ∷ A.second ∷ (spans ++ (holds ++ (arcs ++ regions)))) i
  word_of i = ap (λ (l : List ℕ). word l i) A.whole ∙ word_bytes (A.first ∷ A.second ∷ (spans ++ (holds ++ (arcs ++ regions)))) i

  pub assembled_first : word b 0 ≡ A.first
  assembled_first = word_of 0

  pub assembled_second : word b 1 ≡ A.second
  assembled_second = word_of 1

  -- behind the first two, behind the spans, and behind the holds
  after_two : (i : ℕ) → word b (2 + i) ≡ at (spans ++ (holds ++ (arcs ++ regions))) i
  after_two i = ap (word b) (let e : 2 + i ≡ suc (suc i) = omega arith in e) ∙ word_of (suc (suc i))

  after_spans : (i : ℕ) → word b (2 + length spans + i) ≡ at (holds ++ (arcs ++ regions)) i
  after_spans i =
      ap (word b) (let e : 2 + length spans + i ≡ 2 + (length spans + i) = omega arith in e)
      ∙ after_two (length spans + i) ∙ get_or-append-add spans (holds ++ (arcs ++ regions)) i 0

  after_holds : (i : ℕ) → word b (2 + length spans + length holds + i) ≡ at (arcs ++ regions) i
  after_holds i =
      ap (word b) (let e : 2 + length spans + length holds + i ≡ 2 + length spans + (length holds + i) = omega arith in e)
      ∙ after_spans (length holds + i) ∙ get_or-append-add holds (arcs ++ regions) i 0

  pub assembled_span : (k : ℕ) → k < length spans → word b (2 + k) ≡ at spans k
  assembled_span k l = after_two k ∙ get_or-append spans (holds ++ (arcs ++ regions)) 0 k l

  hold_word_lem : (v : ℕ) → v < length holds → word b (2 + length spans + v) ≡ at holds v
  hold_word_lem v l = after_spans v ∙ get_or-append holds (arcs ++ regions) 0 v l

  arc_word_lem : (j : ℕ) → j < length arcs → word b (2 + length spans + length holds + j) ≡ at arcs j
  arc_word_lem j l = after_holds j ∙ get_or-append arcs regions 0 j l

  region_word_lem : (k : ℕ) → word b (2 + length spans + length holds + (length arcs + k)) ≡ at regions k
  region_word_lem k = after_holds (length arcs + k) ∙ get_or-append-add arcs regions k 0

  -- WHERE EACH SECTION ENDS: what stands behind it is of another kind
  behind_arcs : (i : ℕ) → i ≡ 2 + length spans + length holds + length arcs → i < words b → (5 < kind_of (word b i)) × (kind_of (word b i) < 8)
  behind_arcs i e l =
      let place : i ≡ 2 + length spans + length holds + (length arcs + 0) = omega arith in
      rw (place, region_word_lem 0) (A.region_kind_lem 0 (omega (arith, all_words)))

  behind_holds : (i : ℕ) → i ≡ 2 + length spans + length holds → i < words b → (3 < kind_of (word b i)) × (kind_of (word b i) < 8)
  behind_holds i e l =
      by_order 0 A.count
      (λ some.
      let place : i ≡ 2 + length spans + length holds + 2 * 0 = omega arith in
      let four = A.ends_kind 0 some in
      rw (place, arc_word_lem (2 * 0) (omega (arith, A.pairs))) (omega arith, omega arith))
      (λ none. let last = behind_arcs i (omega (arith, A.pairs)) l in (omega (arith, last.0), last.1))

  behind_spans : (i : ℕ) → i ≡ 2 + length spans → i < words b → 3 < kind_of (word b i)
  behind_spans i e l =
      by_order 0 (length holds)
      (λ some.
      let place : i ≡ 2 + length spans + 0 = omega arith in
      rw (place, hold_word_lem 0 some) (omega (arith, A.hold_kind_lem 0 some)))
      (λ none. (behind_holds i (omega arith) l).0)

  -- SPANS
  pub assembled_spans : span_count b ≡ length spans
  unfolding kind_from kind
  assembled_spans =
      lead_is (of_kind 3 b 2) (length spans) (words b - 2) (omega (arith, all_words))
      (λ k l. eq-eqb (kind_of (word b (2 + k))) 3 (ap kind_of (assembled_span k l) ∙ A.span_kind k l))
      (λ l. let other = behind_spans (2 + length spans) (omega arith) (omega arith) in ne_eqb (kind_of (word b (2 + length spans))) 3 (λ e. omega arith))

  -- HOLDS
  pub assembled_hold : (v : ℕ) → v < length holds → word b (holds_at b + v) ≡ at holds v
  assembled_hold v l = ap (λ (n : ℕ). word b (2 + n + v)) assembled_spans ∙ hold_word_lem v l

  pub assembled_holds : hold_count b ≡ length holds
  unfolding kind_from kind
  assembled_holds =
      let spans_all = assembled_spans in
      lead_is (of_kind 13 b (holds_at b)) (length holds) (words b - holds_at b) (omega (arith, all_words))
      (λ v l. eq-eqb (kind_of (word b (holds_at b + v))) 13 (ap kind_of (assembled_hold v l) ∙ A.hold_kind_lem v l))
      (λ l.
      let other = behind_holds (holds_at b + length holds) (omega arith) (omega arith) in
      ne_eqb (kind_of (word b (holds_at b + length holds))) 13 (λ e. omega (arith, other.1)))

  -- ARCS
  arcs_from_lem : arcs_at b ≡ 2 + length spans + length holds
  arcs_from_lem = omega (arith, assembled_spans, assembled_holds)

  pub assembled_arc : (j : ℕ) → j < length arcs → word b (arcs_at b + j) ≡ at arcs j
  assembled_arc j l = ap (λ (n : ℕ). word b (n + j)) arcs_from_lem ∙ arc_word_lem j l

  second_of_arc : (a : ℕ) → a < A.count → word b (arcs_at b + 2 * a + 1) ≡ at arcs (2 * a + 1)
  second_of_arc a l =
      ap (word b) (let e : arcs_at b + 2 * a + 1 ≡ arcs_at b + (2 * a + 1) = omega arith in e) ∙ assembled_arc (2 * a + 1) (omega (arith, A.pairs))

  pub assembled_arcs : arc_count b ≡ A.count
  unfolding arcs_from kind
  assembled_arcs =
      let from = arcs_from_lem in
      lead_is (is_arc b (arcs_at b)) A.count ((words b - arcs_at b) / 2) (omega (arith, all_words, A.pairs))
      (λ a l.
      and_both _ _
      (eq-eqb (kind_of (word b (arcs_at b + 2 * a))) 4 (ap kind_of (assembled_arc (2 * a) (omega (arith, A.pairs))) ∙ A.ends_kind a l))
      (eq-eqb (kind_of (word b (arcs_at b + 2 * a + 1))) 5 (ap kind_of (second_of_arc a l) ∙ A.length_kind a l)))
      (λ l.
      let other = behind_arcs (arcs_at b + 2 * A.count) (omega (arith, A.pairs)) (omega arith) in
      rw (ne_eqb (kind_of (word b (arcs_at b + 2 * A.count))) 4 (λ e. omega (arith, other.0))))

  -- REGION WORDS
  pub assembled_regions : region_words b ≡ bytes_of regions
  unfolding region_words
  assembled_regions =
      let front = A.first ∷ A.second ∷ (spans ++ (holds ++ arcs)) in
      let size : regions_at b ≡ length front =
      omega (arith, arcs_from_lem, assembled_arcs, A.pairs, length-append spans (holds ++ arcs), length-append holds arcs) in
      let joined : spans ++ (holds ++ (arcs ++ regions)) ≡ (spans ++ (holds ++ arcs)) ++ regions =
      ap (λ (l : List ℕ). spans ++ l) (sym (append_assoc holds arcs regions)) ∙ sym (append_assoc spans (holds ++ arcs) regions) in
      let all : b ≡ bytes_of (front ++ regions) = A.whole ∙ ap (λ (l : List ℕ). bytes_of (A.first ∷ A.second ∷ l)) joined in
      ap (λ (n : ℕ). drop (4 * n) b) size
      ∙ ap (drop (4 * length front)) all
      ∙ drop_bytes (length front) (front ++ regions)
      ∙ ap bytes_of (drop-append_seam front regions)
