-- The words of kinds 1, 2, 4, 5 and 13 of an accepted sheet are its first two, its holds and those of its arcs, so two accepted sheets that agree in them
-- have the same graph.
use Prim.Native.Nat.{ℕ, zero, suc, ◌+◌, ◌*◌, ◌/◌, ◌%◌, ◌<◌}
use mathlib.Core.Bool.{Bool, true, false, ◌||◌}
use mathlib.Core.Path.{◌≡◌, refl, sym, ap, ◌∙◌}
use mathlib.Core.List.{List, ◌++◌, append-nil}
use mathlib.Core.Logic.{⊎_elim}
use native.Mathlib.Omega.{arith}
use lib.Dec.{eqb}
use Rattle.indices.specs.Columns.{at, column, passing}
use Rattle.indices.proofs.Columns.{same_column, column_append, same_size, same_entry, passing_append, all_pass, none_pass, front_passes}
use Rattle.sheet.specs.Words.{words, word, kind_of, payload_of, kind, payload}
use Rattle.sheet.specs.Sections.{node_count, source, span_count, holds_at, hold_count, arc_count, arcs_at, regions_at, region_words}
use Rattle.sheet.specs.Arcs.{tail, head, arc_length, ends_word, hold, taken_length}
use Rattle.sheet.proofs.Bounds.{region_words_lem, regions_inside}
use Rattle.sheet.proofs.Holds.{hold_same_at, taken_same}
use Rattle.judgement.specs.Judgement.{Accepted}
use Rattle.judgement.proofs.Accepted.{front_there}
use Rattle.judgement.proofs.Places.{span_kind, hold_kind_lem, arc_kind_lem, front_kinds, region_word_kind}
use Rattle.procedure.specs.OfSheet.{graph_of}
use Rattle.calls.specs.Halls.{of_hall, hall_words}

-- WHICH WORDS PASS a test of kinds, section by section
module _ (test : ℕ → Bool) (b : List ℕ) where
  passes : (i k : ℕ) → kind b i ≡ k → test (kind_of (word b i)) ≡ test k
  unfolding kind
  passes i k e = ap test e

  span_passes : (i : ℕ) → i < span_count b → test (kind_of (word b (2 + i))) ≡ test 3
  span_passes i l = passes (2 + i) 3 (span_kind b i l)

  hold_passes : (i : ℕ) → i < hold_count b → test (kind_of (word b (holds_at b + i))) ≡ test 13
  hold_passes i l = passes (holds_at b + i) 13 (hold_kind_lem b i l)

  -- what it says of both kinds of a section's words
  module _ (said : Bool) where
    arc_passes : test 4 ≡ said → test 5 ≡ said → (j : ℕ) → j < 2 * arc_count b → test (kind_of (word b (arcs_at b + j))) ≡ said
    arc_passes four five j l =
        ⊎_elim (λ e. passes (arcs_at b + j) 4 e ∙ four) (λ e. passes (arcs_at b + j) 5 e ∙ five) (arc_kind_lem b j l)

    module _ (ok : Accepted b) where
      front_tested : test 1 ≡ said → test 2 ≡ said → (i : ℕ) → i < 2 → test (kind_of (word b i)) ≡ said
      front_tested one two zero l = passes 0 1 (front_kinds b ok).0 ∙ one
      front_tested one two (suc zero) l = passes 1 2 (front_kinds b ok).1 ∙ two
      front_tested one two (suc (suc i)) l = absurd (omega arith)

      region_passes : test 6 ≡ said → test 7 ≡ said → (i : ℕ) → i < words (region_words b) → test (kind_of (word b (arcs_at b + (2 * arc_count b + i)))) ≡ said
      region_passes six seven i l =
          let place : arcs_at b + (2 * arc_count b + i) ≡ regions_at b + i = omega arith in
          rw place
          (⊎_elim (λ e. passes (regions_at b + i) 6 e ∙ six) (λ e. passes (regions_at b + i) 7 e ∙ seven) (region_word_kind b ok i l))

-- the tests: of the hall, and of its holds and its arcs among them
abbrev hall_kind : ℕ → Bool
hall_kind k = eqb k 1 || eqb k 2 || eqb k 4 || eqb k 5 || eqb k 13

abbrev hold_kind : ℕ → Bool
hold_kind k = eqb k 13

abbrev arc_kind : ℕ → Bool
arc_kind k = eqb k 4 || eqb k 5

abbrev keep : (ℕ → Bool) → List ℕ → List ℕ
keep test = passing (λ w. test (kind_of w))

-- THE WORDS OF THE HALL: the first two, the holds, and those of the arcs
module _ (b : List ℕ) (ok : Accepted b) where
  abbrev first_words : List ℕ
  first_words = column 2 (word b)

  abbrev hold_words : List ℕ
  hold_words = column (hold_count b) (λ i. word b (holds_at b + i))

  abbrev arc_words : List ℕ
  arc_words = column (2 * arc_count b) (λ i. word b (arcs_at b + i))

  hall_words_lem : hall_words b ≡ (first_words ++ hold_words) ++ arc_words
  unfolding hall_words
  hall_words_lem =
      let m = 2 * arc_count b in
      let r = words (region_words b) in
      let two = front_there b ok in
      let all : words b ≡ arcs_at b + (m + r) = omega (arith, region_words_lem b two, regions_inside b two) in
      let front : passing of_hall (column (holds_at b) (word b)) ≡ first_words =
      front_passes of_hall 2 (span_count b) (word b) (front_tested hall_kind b true ok refl refl) (span_passes hall_kind b) in
      let back : passing of_hall (column (m + r) (λ i. word b (arcs_at b + i))) ≡ arc_words =
      front_passes of_hall m r (λ i. word b (arcs_at b + i)) (arc_passes hall_kind b true refl refl) (region_passes hall_kind b false ok refl refl) in
      ap (λ (n : ℕ). passing of_hall (column n (word b))) all
      ∙ ap (passing of_hall) (column_append (arcs_at b) (m + r) (word b))
      ∙ passing_append of_hall (column (arcs_at b) (word b)) (column (m + r) (λ i. word b (arcs_at b + i)))
      ∙ rw (
        column_append (holds_at b) (hold_count b) (word b),
        passing_append of_hall (column (holds_at b) (word b)) hold_words,
        front,
        all_pass of_hall (hold_count b) (λ i. word b (holds_at b + i)) (hold_passes hall_kind b),
        back,
      )

  -- each part is got back from the whole by a test of kinds
  parts : (test : ℕ → Bool) → keep test (hall_words b) ≡ (keep test first_words ++ keep test hold_words) ++ keep test arc_words
  parts test =
      ap (keep test) hall_words_lem ∙ passing_append _ (first_words ++ hold_words) arc_words
      ∙ ap (λ (l : List ℕ). l ++ keep test arc_words) (passing_append _ first_words hold_words)

  only_holds : keep hold_kind (hall_words b) ≡ hold_words
  only_holds =
      parts hold_kind
      ∙ rw (
        none_pass _ 2 (word b) (front_tested hold_kind b false ok refl refl),
        all_pass _ (hold_count b) (λ i. word b (holds_at b + i)) (hold_passes hold_kind b),
        none_pass _ (2 * arc_count b) (λ i. word b (arcs_at b + i)) (arc_passes hold_kind b false refl refl),
      )
      (append-nil hold_words)

  only_arcs : keep arc_kind (hall_words b) ≡ arc_words
  only_arcs =
      parts arc_kind
      ∙ rw (
        none_pass _ 2 (word b) (front_tested arc_kind b false ok refl refl),
        none_pass _ (hold_count b) (λ i. word b (holds_at b + i)) (hold_passes arc_kind b),
        all_pass _ (2 * arc_count b) (λ i. word b (arcs_at b + i)) (arc_passes arc_kind b true refl refl),
      )

-- TWO SHEETS that agree in the words of the hall
module _ (b b' : List ℕ) (ok : Accepted b) (ok' : Accepted b') (same : hall_words b ≡ hall_words b') where
  same_words : (first_words b ok ++ hold_words b ok) ++ arc_words b ok ≡ (first_words b' ok' ++ hold_words b' ok') ++ arc_words b' ok'
  same_words = sym (hall_words_lem b ok) ∙ same ∙ hall_words_lem b' ok'

  same_hold_words : hold_words b ok ≡ hold_words b' ok'
  same_hold_words = sym (only_holds b ok) ∙ ap (keep hold_kind) same ∙ only_holds b' ok'

  same_arc_words : arc_words b ok ≡ arc_words b' ok'
  same_arc_words = sym (only_arcs b ok) ∙ ap (keep arc_kind) same ∙ only_arcs b' ok'

  same_holds : hold_count b ≡ hold_count b'
  same_holds = same_size (hold_count b) (hold_count b') _ _ same_hold_words

  same_arcs : arc_count b ≡ arc_count b'
  same_arcs =
      omega (arith, same_size (2 * arc_count b) (2 * arc_count b') (λ i. word b (arcs_at b + i)) (λ i. word b' (arcs_at b' + i)) same_arc_words)

  -- word j of the arcs
  same_arc_word : (j : ℕ) → j < 2 * arc_count b → word b (arcs_at b + j) ≡ word b' (arcs_at b' + j)
  same_arc_word = same_entry (2 * arc_count b) (2 * arc_count b') (λ i. word b (arcs_at b + i)) (λ i. word b' (arcs_at b' + i)) same_arc_words

  same_ends : (a : ℕ) → a < arc_count b → payload b (ends_word b a) ≡ payload b' (ends_word b' a)
  unfolding payload
  same_ends a l = ap payload_of (same_arc_word (2 * a) (omega arith))

  same_length : (a : ℕ) → a < arc_count b → arc_length b a ≡ arc_length b' a
  unfolding arc_length payload
  same_length a l =
      let place : arcs_at b + 2 * a + 1 ≡ arcs_at b + (2 * a + 1) = omega arith in
      let place' : arcs_at b' + 2 * a + 1 ≡ arcs_at b' + (2 * a + 1) = omega arith in
      rw (place, place') (ap payload_of (same_arc_word (2 * a + 1) (omega arith)))

  same_tail : (a : ℕ) → a < arc_count b → tail b a ≡ tail b' a
  unfolding tail
  same_tail a l = ap (λ (p : ℕ). p / 1024 % 1024) (same_ends a l)

  same_head : (a : ℕ) → a < arc_count b → head b a ≡ head b' a
  unfolding head
  same_head a l = ap (λ (p : ℕ). p % 1024) (same_ends a l)

  pub same_nodes : node_count b ≡ node_count b'
  unfolding payload column
  same_nodes = ap (λ (ws : List ℕ). payload_of (at ws 0)) same_words

  same_source : source b ≡ source b'
  unfolding payload column
  same_source = ap (λ (ws : List ℕ). payload_of (at ws 1)) same_words

  -- holds, and lengths with them
  same_hold : (v : ℕ) → hold b v ≡ hold b' v
  unfolding payload
  same_hold v = hold_same_at b b' same_holds v
      (λ l. ap payload_of (same_entry (hold_count b) (hold_count b') (λ i. word b (holds_at b + i)) (λ i. word b' (holds_at b' + i)) same_hold_words v l))

  same_taken : (a : ℕ) → a < arc_count b → taken_length b a ≡ taken_length b' a
  same_taken a l = taken_same b b' same_source same_hold a (same_tail a l) (same_length a l)

  pub same_graph : graph_of b ≡ graph_of b'
  unfolding graph_of
  same_graph =
      cc (
        same_nodes,
        same_source,
        same_column (arc_count b) (arc_count b') (tail b) (tail b') same_arcs same_tail,
        same_column (arc_count b) (arc_count b') (head b) (head b') same_arcs same_head,
        same_column (arc_count b) (arc_count b') (taken_length b) (taken_length b') same_arcs same_taken,
      )
