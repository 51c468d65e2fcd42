-- The two words of an arc that is kept, at the place of its new number.
use Rattle.std.specs.Prelude.{if◌then◌else◌}
use Prim.Native.Nat.{ℕ, ◌+◌, ◌*◌, ◌<◌, ◌≤◌}
use mathlib.Core.Bool.{true, false, not}
use mathlib.Core.List.{List, [], ◌∷◌}
use mathlib.Core.Path.{◌≡◌, refl, sym, ap, ◌∙◌}
use borrow.Author.Tests.{eq-eqb, ne_eqb}
use native.Mathlib.Nat.{add-zero}
use native.Mathlib.Omega.{arith}
use lib.ListN.{length}
use lib.Dec.{eqb}
use Rattle.indices.specs.Columns.{at, column}
use Rattle.sheet.specs.Limits.{most_arcs}
use Rattle.sheet.specs.Words.{words, word}
use Rattle.sheet.specs.Sections.{arc_count, regions_at}
use Rattle.sheet.specs.Arcs.{ends_word}
use Rattle.sheet.proofs.Bounds.{regions_inside}
use Rattle.sheet_writer.specs.Words.{words_from, words_put}
use Rattle.sheet_writer.proofs.Words.{put_none}
use Rattle.conversion.specs.Converted.{kept_arc, new_arc, arc_pair, converted_arcs}
use Rattle.conversion.specs.Inner.{Numbers}
use Rattle.conversion.proofs.Sections.{new_arc_below, arcs_long}
use Rattle.conversion_numbers.specs.Numbers.{dropped, number_of}
use Rattle.conversion_numbers.proofs.Numbering.{number_kept, number_tells}

pub pair_long : (b : List ℕ) (a : ℕ) → length (arc_pair b a) ≡ 2
unfolding arc_pair
pair_long b a = refl

pair_words : (b : List ℕ) (a : ℕ) → words_from b (ends_word b a) 2 ≡ arc_pair b a
unfolding arc_pair column
pair_words b a = ap (λ (i : ℕ). word b i ∷ word b (ends_word b a + 1) ∷ []) (add-zero (ends_word b a))

-- the arcs end within the bytes of a sheet
pub arcs_inside : {b bytes : List ℕ} → 2 ≤ words b → bytes ≡ b → regions_at b ≤ words bytes
arcs_inside {b} front same = omega (arith, regions_inside b front, ap length same)

module _ (b : List ℕ) {arcs : List ℕ} (few : arc_count b ≤ most_arcs) (numbers : Numbers (number_of (kept_arc b)) arcs (arc_count b)) (a : ℕ)
    (l : a < arc_count b) where
  tells : not (eqb (at arcs a) dropped) ≡ kept_arc b a
  tells = number_tells (kept_arc b) a (at arcs a) (omega arith) (numbers.entry a l)

  -- nothing is written of an arc that is not kept
  pub none_written : (out : List ℕ) (place : ℕ) → at arcs a ≡ dropped
      → out ≡ words_put out (place + 2 * new_arc b a) (if kept_arc b a then arc_pair b a else [])
  none_written out place e =
      let gone : kept_arc b a ≡ false = sym tells ∙ ap not (eq-eqb (at arcs a) dropped e) in
      rw gone (sym (put_none out (place + 2 * new_arc b a)))

  module _ (e : at arcs a ≡ dropped → ⊥) where
    kept : kept_arc b a ≡ true
    kept = sym tells ∙ ap not (ne_eqb (at arcs a) dropped e)

    -- the entry is its number, and its words have room
    pub number_is : at arcs a ≡ new_arc b a
    unfolding new_arc
    number_is = numbers.entry a l ∙ number_kept (kept_arc b) a kept

    pub pair_room : (place size : ℕ) → 4 * (place + length (converted_arcs b)) ≤ size → 4 * (place + 2 * at arcs a + 2) ≤ size
    pair_room place size room = omega (arith, arcs_long b, number_is, new_arc_below b a l kept)

    pub pair_written : (out : List ℕ) {out' : List ℕ} (place i j : ℕ) → i ≡ ends_word b a → j ≡ place + 2 * at arcs a
        → out' ≡ words_put out j (words_from b i 2)
        → out' ≡ words_put out (place + 2 * new_arc b a) (if kept_arc b a then arc_pair b a else [])
    pair_written out place i j from to e' = e' ∙ rw (from, to, number_is, pair_words b a, kept)
