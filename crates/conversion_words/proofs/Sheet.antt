-- The parts of a converted sheet lie within the sheet and have room, and written one after the other they are the converted sheet.
use Prim.Native.Nat.{ℕ, ◌+◌, ◌*◌, ◌≤◌}
use mathlib.Core.List.{List, ◌∷◌, ◌++◌, append_assoc}
use mathlib.Core.Path.{◌≡◌, sym, ap, ◌∙◌}
use native.Mathlib.Nat.{zero-add}
use native.Mathlib.Omega.{arith}
use lib.ListN.{length, drop, length-append}
use Rattle.indices.specs.Columns.{column}
use Rattle.indices.proofs.Columns.{length_column, column_ext, column_append}
use Rattle.sheet.specs.Words.{words, word}
use Rattle.sheet.specs.Sections.{span_count, region_words}
use Rattle.sheet.proofs.Bytes.{length_bytes}
use Rattle.sheet.proofs.Bounds.{regions_inside}
use Rattle.sheet_writer.specs.Words.{words_from, words_put}
use Rattle.sheet_writer.proofs.Words.{put_next, put_front}
use Rattle.judgement.specs.Judgement.{Convertible}
use Rattle.judgement.proofs.Accepted.{front_there}
use Rattle.conversion.specs.Converted.{converted_arcs, converted_regions, converted_spans, converted_holds, converted_words, converted}
use Rattle.conversion.proofs.Heights.{height_lower}
use Rattle.conversion.proofs.Sections.{arcs_long, new_bytes}
use Rattle.conversion_numbers.specs.declared.Kept.{Kept}
use Rattle.conversion_words.specs.Writing.{RegionsWritable, SheetWritable}

module _ {b arcs regions : List ℕ} {kept : Kept} {out : List ℕ} (W : SheetWritable b arcs regions kept out) where
  abbrev ok : Convertible b
  ok = W.numbered.arcs_numbered.convertible

  -- BOUNDS
  pub record Bounds : Type 0 where
    -- what is read lies within the sheet
    pub spans_in : kept.spans ≤ span_count b
    pub holds_in : 2 + span_count b + kept.holds ≤ words b
    -- and what is written has room
    pub arcs_are : length (converted_arcs b) ≡ 2 * kept.arcs
    pub words_are : length (converted_regions b) ≡ kept.words
    pub room : 4 * (2 + kept.spans + kept.holds + 2 * kept.arcs + kept.words) ≤ length out

  pub bounds : Bounds
  bounds = record {
    spans_in = omega (arith, W.counted.spans_kept, height_lower b ok);
    holds_in = omega (arith, W.counted.holds_kept, regions_inside b (front_there b ok));
    arcs_are = omega (arith, W.counted.arcs_kept, arcs_long b);
    words_are = sym W.counted.words_kept;
    room = omega (arith, W.room, new_bytes b ok, W.counted.spans_kept, W.counted.holds_kept, W.counted.arcs_kept, W.counted.words_kept);
  }

  -- the region words can be written behind the arcs, into a buffer as long as that
  pub regions_writable : {now : List ℕ} {place : ℕ} → length now ≡ length out → place ≡ 2 + kept.spans + kept.holds + 2 * kept.arcs
      → RegionsWritable b (region_words b) arcs regions now place
  regions_writable same is = let f = bounds in record { numbered = W.numbered; room = omega arith }

  -- THE PARTS
  abbrev front : List ℕ
  front = words_from b 0 (2 + kept.spans)

  abbrev holds : List ℕ
  holds = words_from b (2 + span_count b) kept.holds

  front_is : front ≡ word b 0 ∷ word b 1 ∷ converted_spans b
  unfolding converted_spans column
  front_is =
      column_ext (2 + kept.spans) (λ k. word b (0 + k)) (word b) (λ k _. ap (word b) (zero-add k))
      ∙ column_append 2 kept.spans (word b)
      ∙ ap (λ (n : ℕ). word b 0 ∷ word b 1 ∷ column n (λ k. word b (2 + k))) W.counted.spans_kept

  holds_is : holds ≡ converted_holds b
  unfolding converted_holds
  holds_is = rw W.counted.holds_kept

  whole : front ++ holds ++ converted_arcs b ++ converted_regions b ≡ converted_words b
  unfolding converted_words
  whole =
      append_assoc (front ++ holds) (converted_arcs b) (converted_regions b)
      ∙ append_assoc front holds (converted_arcs b ++ converted_regions b)
      ∙ rw (front_is, holds_is)

  pub all_written : {out₁ out₂ out₃ out₄ : List ℕ} (i j k : ℕ) → i ≡ 2 + kept.spans → j ≡ i + kept.holds → k ≡ j + 2 * kept.arcs
      → out₁ ≡ words_put out 0 front → out₂ ≡ words_put out₁ i holds → out₃ ≡ words_put out₂ j (converted_arcs b)
      → out₄ ≡ words_put out₃ k (converted_regions b) → out₄ ≡ converted b ++ drop (length (converted b)) out
  unfolding converted
  all_written i j k ei ej ek first second third fourth =
      let f = bounds in
      let one : i ≡ length front = omega (arith, length_column (2 + kept.spans) (λ k. word b (0 + k))) in
      let two : j ≡ length (front ++ holds) =
      omega (arith, length-append front holds, length_column kept.holds (λ k. word b (2 + span_count b + k))) in
      let three : k ≡ length (front ++ holds ++ converted_arcs b) = omega (arith, length-append (front ++ holds) (converted_arcs b)) in
      put_next out (front ++ holds ++ converted_arcs b) (converted_regions b) three
      (put_next out (front ++ holds) (converted_arcs b) two (put_next out front holds one first second) third) fourth
      ∙ ap (words_put out 0) whole
      ∙ put_front out (converted_words b) (omega (arith, W.room, length_bytes (converted_words b)))
