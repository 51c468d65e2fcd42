-- The parts of the slices that are lent are as long as each step asks; and once the regions are numbered and the front is written, the region words can be.
use Prim.Native.Nat.{ℕ, ◌+◌, ◌*◌, ◌≤◌, ◌<◌}
use mathlib.Core.Path.{◌≡◌, sym, ap, ◌∙◌}
use mathlib.Core.List.{List, ◌++◌}
use native.Mathlib.Nat.{zero-add}
use native.Mathlib.Omega.{arith}
use lib.ListN.{length, take, drop}
use lib.Seq.{length-take-le, take_at}
use Rattle.indices.proofs.Columns.{length_column, at_column}
use Rattle.sheet.specs.Words.{word}
use Rattle.sheet.specs.Sections.{regions_at, region_words}
use Rattle.sheet.proofs.Bounds.{regions_inside}
use Rattle.sheet_writer.specs.Words.{words_from, words_put, WordAt}
use Rattle.sheet_writer.proofs.Words.{put_length, put_inside, put_rest}
use Rattle.judgement.proofs.Accepted.{front_there}
use Rattle.procedure.specs.OfSheet.{division_of}
use Rattle.procedure.proofs.OfSheet.{division_regions}
use Rattle.run_arrays.specs.Sections.{most_regions}
use Rattle.run_layout.specs.declared.sizes.Sizes.{Sizes}
use Rattle.run_layout.specs.InUse.{Outlined}
use Rattle.canonical_form.specs.Canonical.{canonical}
use Rattle.canonical_numbers.specs.Numbers.{Numbers}
use Rattle.canonical_numbers.specs.Room.{Roomy}
use Rattle.canonical.specs.Writing.{Writable}
use Rattle.canonical.specs.Lent.{FormLent}

module _ {b : List ℕ} {z : Sizes} (O : Outlined b z) where
  -- an entry for each region
  each_region : (xs : List ℕ) → length xs ≡ most_regions → length (take z.regions xs) ≡ z.regions
  each_region xs long = length-take-le z.regions xs (omega (arith, O.in_use.few_regions))

  pub roomy : {arcs parents sizes nexts numbers before : List ℕ} → FormLent b arcs parents sizes nexts numbers before
      → Roomy z (take (4 * z.arcs) arcs) (take z.regions parents) (take z.regions sizes) (take z.regions nexts) (take z.regions numbers)
  roomy {arcs} {parents} {sizes} {nexts} {numbers} lent = record {
    arcs_all = length-take-le (4 * z.arcs) arcs (omega (arith, lent.arc_room, O.in_use.few_arcs));
    parents_all = each_region parents lent.parent_room;
    sizes_all = each_region sizes lent.size_room;
    nexts_all = each_region nexts lent.next_room;
    numbers_all = each_region numbers lent.number_room;
  }

  -- THE FRONT, e words, is written
  module _ (before : List ℕ) (room : length b ≤ length before) {e : ℕ} (place : e ≡ regions_at b) where
    abbrev front : List ℕ
    front = words_from b 0 e

    front_long : length front ≡ e
    front_long = length_column e (λ k. word b (0 + k))

    front_stands : (i : ℕ) → i < e → WordAt (words_put before 0 front) i (word b i)
    front_stands i l =
        let stands =
        put_inside before 0 front (omega (arith, front_long, room, place, regions_inside b (front_there b O.accepted))) i (omega (arith, front_long)) in
        rw (at_column e (λ k. word b (0 + k)) i l, zero-add i) at stands

    -- the new numbers are the front of their slice
    pub writable : {new : List ℕ} → Numbers (division_of b) new → (rest : List ℕ) → {out : List ℕ} → out ≡ words_put before 0 front
        → {d : List ℕ} → d ≡ region_words b → Writable b d (take z.regions (new ++ rest)) e out
    writable {new} N rest put is =
        let each_new : length new ≡ z.regions = N.all ∙ division_regions b ∙ sym O.in_use.regions_all in
        rw (take_at new rest z.regions each_new, put) (record {
          accepted = O.accepted;
          words_of = is;
          place = place;
          numbered = N;
          room = omega (arith, room, put_length before 0 front);
          front = front_stands;
        })

    -- what is behind the form is as it was before the front
    pub form_written : {out out' : List ℕ} → out ≡ words_put before 0 front → out' ≡ canonical b ++ drop (length b) out
        → out' ≡ canonical b ++ drop (length b) before
    form_written put made =
        made
        ∙ ap (λ (l : List ℕ). canonical b ++ drop (length b) l) put
        ∙ ap (λ (rest : List ℕ). canonical b ++ rest)
        (put_rest before 0 front (length b) (omega (arith, front_long, place, regions_inside b (front_there b O.accepted))))
