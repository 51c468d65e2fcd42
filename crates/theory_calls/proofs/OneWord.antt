-- Two accepted sheets with the same words but one, that of an arc's length or of a hold, differ in that length or hold alone. A length alone follows an arc's
-- ends, and one hold fewer would be too few, but with one node, where there is no arc; so the word has its kind in both, sections stand where they stood, and
-- all other fields are the same.
use Prim.Native.Nat.{ℕ, suc, ◌+◌, ◌*◌, ◌/◌, ◌%◌, ◌≤◌, ◌<◌}
use mathlib.Core.Bool.{Bool, false, ◌||◌}
use mathlib.Core.Path.{◌≡◌, sym, ap, ◌∙◌}
use mathlib.Core.Logic.{◌≢◌, ⊎_elim}
use mathlib.Core.List.{List}
use native.Mathlib.Omega.{arith}
use borrow.Author.Tests.{eq-eqb, ne_eqb}
use lib.Dec.{eqb}
use Rattle.indices.specs.Tests.{count}
use Rattle.indices.proofs.Steps.{by_equal}
use Rattle.indices.proofs.Tests.{count_but_one}
use Rattle.sheet.specs.Limits.{node_numbers}
use Rattle.sheet.specs.Words.{words, kind_of, payload_of, kind, payload}
use Rattle.sheet.specs.Sections.{node_count, source, hold_count, arc_count, arcs_at}
use Rattle.sheet.specs.Arcs.{tail, head, arc_length, hold, ends_word}
use Rattle.sheet.proofs.Bounds.{regions_inside}
use Rattle.sheet.proofs.Holds.{hold_same_at}
use Rattle.sheet.proofs.SameKinds as kinds
use Rattle.judgement.specs.Judgement.{Accepted}
use Rattle.judgement.proofs.Accepted.{front_there, holds_all_or_none, single_node}
use Rattle.judgement.proofs.Places.{hold_kind_lem, arc_kinds, length_follows, holds_counted}
use Rattle.calls.specs.Sensitivity.{SameButWord, length_word, hold_word, SameEnds, OtherLength, OtherHold}

-- TWO SHEETS with the same words but word i
module _ {i : ℕ} {b b' : List ℕ} (same : SameButWord i b b') where
  same_words : words b ≡ words b'
  same_words = ap (λ (n : ℕ). n / 4) same.size

  same_kind : (j : ℕ) → j < words b → j ≢ i → kind b j ≡ kind b' j
  unfolding kind
  same_kind j l n = ap kind_of (same.others j l n)

  same_payload : (j : ℕ) → j < words b → j ≢ i → payload b j ≡ payload b' j
  unfolding payload
  same_payload j l n = ap payload_of (same.others j l n)

  -- behind the front, node count and source are the same
  module _ (ok : Accepted b) (behind : 2 ≤ i) where
    same_nodes : node_count b ≡ node_count b'
    same_nodes = same_payload 0 (omega (arith, front_there b ok)) (λ e. omega arith)

    same_source : source b ≡ source b'
    same_source = same_payload 1 (omega (arith, front_there b ok)) (λ e. omega arith)

    -- where the word has one kind in both, the sections are the same
    module _ (kept : kind b i ≡ kind b' i) where
      same_test : (κ : ℕ) → eqb 6 κ || eqb 7 κ ≡ false → (j : ℕ) → j < words b' → eqb (kind b j) κ ≡ eqb (kind b' j) κ
      same_test κ other j l = ap (λ (n : ℕ). eqb n κ) (by_equal j i (λ e. rw e kept) (same_kind j (omega (arith, same_words))))

      same_arcs_at : arcs_at b ≡ arcs_at b'
      same_arcs_at = kinds.same_arcs_at b b' same_words same_test

      inside : (a : ℕ) → a < arc_count b → length_word b a < words b
      inside a l = omega (arith, regions_inside b (front_there b ok))

      same_ends : ((a : ℕ) → a < arc_count b → ends_word b a ≢ i) → SameEnds b b'
      unfolding tail head
      same_ends elsewhere =
          let each : (a : ℕ) → a < arc_count b → payload b (ends_word b a) ≡ payload b' (ends_word b' a) =
          λ a l. same_payload (ends_word b a) (omega (arith, inside a l)) (elsewhere a l) ∙ ap (λ (n : ℕ). payload b' (n + 2 * a)) same_arcs_at in
          record {
            nodes = same_nodes;
            sources = same_source;
            arcs = kinds.same_arcs b b' same_words same_test;
            tails = λ a l. ap (λ (w : ℕ). w / node_numbers % node_numbers) (each a l);
            heads = λ a l. ap (λ (w : ℕ). w % node_numbers) (each a l);
          }

      same_length : (a : ℕ) → a < arc_count b → length_word b a ≢ i → arc_length b a ≡ arc_length b' a
      unfolding arc_length
      same_length a l n = same_payload (length_word b a) (inside a l) n ∙ ap (λ (m : ℕ). payload b' (m + 2 * a + 1)) same_arcs_at

      same_hold : (v : ℕ) → (v < hold_count b → hold_word b v ≢ i) → hold b v ≡ hold b' v
      same_hold v n =
          hold_same_at b b' (kinds.same_holds b b' same_words same_test) v
          (λ l.
          same_payload (hold_word b v) (omega (arith, regions_inside b (front_there b ok))) (n l)
          ∙ ap (λ (m : ℕ). payload b' (m + v)) (kinds.same_holds_at b b' same_words same_test))

module _ (b b' : List ℕ) (ok : Accepted b) (ok' : Accepted b') where
  -- THE LENGTH OF ARC a
  pub length_word_lem : (a : ℕ) → a < arc_count b → SameButWord (length_word b a) b b' → OtherLength a b b'
  length_word_lem a l same =
      let inside : length_word b a < words b = omega (arith, regions_inside b (front_there b ok)) in
      let ends = same_kind same (ends_word b a) (omega arith) (λ e. omega arith) in
      let kept = (arc_kinds b a l).1 ∙ sym (length_follows b' ok' (ends_word b a) (omega (arith, same_words same)) (sym ends ∙ (arc_kinds b a l).0)) in
      record {
        ends = same_ends same ok (omega arith) kept (λ j lj e. omega arith);
        lengths = λ j lj n. same_length same ok (omega arith) kept j lj (λ e. n (omega arith));
        holds = λ v lv. same_hold same ok (omega arith) kept v (λ lv e. omega arith);
      }

  -- THE HOLD OF NODE v
  module _ (v : ℕ) (l : v < hold_count b) (same : SameButWord (hold_word b v) b b') where
    -- of one kind in both
    kept_hold : kind b (hold_word b v) ≡ kind b' (hold_word b v) → OtherHold v b b'
    kept_hold kept = record {
      ends = same_ends same ok (omega arith) kept (λ j lj e. omega arith);
      lengths = λ j lj. same_length same ok (omega arith) kept j lj (λ e. omega arith);
      holds = λ u lu n. same_hold same ok (omega arith) kept u (λ lu e. n (omega arith));
    }

    -- or else there is a hold fewer, so one node, and no arc
    all_held : hold_count b ≡ node_count b
    all_held = ⊎_elim (λ (none : hold_count b ≡ 0). absurd (omega arith)) (λ all. all) (holds_all_or_none b ok)

    one_fewer : kind b' (hold_word b v) ≢ 13 → suc (hold_count b') ≡ hold_count b
    one_fewer other =
        let p : ℕ → Bool = λ j. eqb (kind b j) 13 in
        let q : ℕ → Bool = λ j. eqb (kind b' j) 13 in
        let place = hold_word b v in
        let inside : place < words b = omega (arith, regions_inside b (front_there b ok)) in
        let fewer =
        count_but_one p q (words b) place inside (λ j lj n. ap (λ (k : ℕ). eqb k 13) (same_kind same j lj n))
        (eq-eqb (kind b place) 13 (hold_kind_lem b v l)) (ne_eqb (kind b' place) 13 other) in
        omega (arith, fewer, holds_counted b ok, ap (count q) (same_words same), holds_counted b' ok')

    one_node_lem : kind b' (hold_word b v) ≢ 13 → node_count b ≡ 1
    one_node_lem other =
        let fewer = one_fewer other in
        let nodes = same_nodes same ok (omega arith) in
        ⊎_elim (λ (none : hold_count b' ≡ 0). omega (arith, fewer, all_held)) (λ (all : hold_count b' ≡ node_count b'). absurd (omega (arith, fewer, all_held)))
        (holds_all_or_none b' ok')

    alone : node_count b ≡ 1 → OtherHold v b b'
    alone one =
        let nodes = same_nodes same ok (omega arith) in
        let none = single_node b ok one in
        record {
          ends = record {
            nodes = nodes;
            sources = same_source same ok (omega arith);
            arcs = none ∙ sym (single_node b' ok' (sym nodes ∙ one));
            tails = λ a la. absurd (omega arith);
            heads = λ a la. absurd (omega arith);
          };
          lengths = λ a la. absurd (omega arith);
          holds = λ u lu n. absurd (n (omega (arith, all_held)));
        }

    pub hold_word_lem : OtherHold v b b'
    hold_word_lem = by_equal (kind b' (hold_word b v)) 13 (λ e. kept_hold (hold_kind_lem b v l ∙ sym e)) (λ n. alone (one_node_lem n))
