-- `fill_out` meets its contract: what is kept is numbered; 31 where the buffer is too short for it, and otherwise it is written.
use Prim.Native.Nat.{ℕ, ◌+◌, ◌*◌, ◌≤◌}
use mathlib.Core.Path.{◌≡◌, sym, ap, ◌∙◌}
use mathlib.Core.List.{List}
use native.Mathlib.Omega.{arith}
use lib.ListN.{length}
use Rattle.sheet.specs.Limits.{most_bytes}
use Rattle.answer.specs.Answer.{written}
use Rattle.judgement.specs.Judgement.{Convertible}
use Rattle.judgement.proofs.Accepted.{none_applies}
use Rattle.judgement.proofs.Clear.{few_words}
use Rattle.conversion.specs.Converted.{converted}
use Rattle.conversion.proofs.Sections.{new_bytes}
use Rattle.conversion.proofs.Accepted.{no_longer}
use Rattle.calls.proofs.Convert.{too_short, has_room}
use Rattle.conversion_numbers.specs.declared.Kept.{Kept}
use Rattle.conversion_numbers.specs.Numbers.{Counted}
use Rattle.convert.proofs.fill_out.Goals as goal

-- by what is kept, the byte length of the converted sheet, which is small
record Sized (b : List ℕ) (kept : Kept) : Type 0 where
  pub bytes : 4 * (2 + kept.spans + kept.holds + 2 * kept.arcs + kept.words) ≡ length (converted b)
  pub few : length (converted b) ≤ most_bytes

sized : {b : List ℕ} {kept : Kept} → Convertible b → Counted b kept → Sized b kept
sized {b} ok C = record {
  bytes = omega (arith, new_bytes b ok, C.spans_kept, C.holds_kept, C.arcs_kept, C.words_kept);
  few = omega (arith, new_bytes b ok, no_longer b ok, few_words b (none_applies b ok).size);
}

pub overflow_add-bytes : goal.overflow_add-bytes
overflow_add-bytes c = let f = sized c.requires c.number_kept-kept.ensures.1 in omega arith

pub overflow_add-bytes-2 : goal.overflow_add-bytes-2
overflow_add-bytes-2 c = let f = sized c.requires c.number_kept-kept.ensures.1 in omega arith

pub overflow_mul-bytes : goal.overflow_mul-bytes
overflow_mul-bytes c = let f = sized c.requires c.number_kept-kept.ensures.1 in omega arith

pub overflow_add-bytes-3 : goal.overflow_add-bytes-3
overflow_add-bytes-3 c = let f = sized c.requires c.number_kept-kept.ensures.1 in omega arith

pub overflow_add-bytes-4 : goal.overflow_add-bytes-4
overflow_add-bytes-4 c = let f = sized c.requires c.number_kept-kept.ensures.1 in omega arith

pub overflow_mul-bytes-2 : goal.overflow_mul-bytes-2
overflow_mul-bytes-2 c = let f = sized c.requires c.number_kept-kept.ensures.1 in omega arith

pub overflow_cast-count : goal.overflow_cast-count
overflow_cast-count c = let f = sized c.requires c.number_kept-kept.ensures.1 in omega arith

pub returns-then-out-bytes : goal.returns-then-out-bytes
returns-then-out-bytes c =
    let f = sized c.requires c.number_kept-kept.ensures.1 in
    let done = too_short _ _ c.requires (omega arith) in
    (rw c.from.ensures (sym done.0), sym done.1)

pub write_sheet-requires : goal.write_sheet-requires
write_sheet-requires c =
    let f = sized c.requires c.number_kept-kept.ensures.1 in
    record { numbered = c.number_kept-kept.ensures.0; counted = c.number_kept-kept.ensures.1; room = omega arith }

pub returns : goal.returns
returns c =
    let f = sized c.requires c.number_kept-kept.ensures.1 in
    let done = has_room _ _ c.requires (omega arith) in
    (ap written f.bytes ∙ sym done.0, c.write_sheet.ensures ∙ sym done.1)
