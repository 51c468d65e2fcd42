-- Laws of the first line: the two forms of a status, one level more, and how long the line may be.
use Prim.Native.Nat.{ℕ, zero, suc, ◌+◌, ◌*◌, ◌≤◌, ◌<◌}
use Prim.Native.String.{String}
use mathlib.Core.Path.{◌≡◌, refl, ap}
use mathlib.Core.List.{List, [], ◌++◌}
use native.Mathlib.Numerals.{add-one}
use native.Mathlib.Omega.{arith}
use borrow.Author.Tests.{eq-eqb, ne_eqb}
use lib.ListN.{length, length-append}
use Rattle.indices.proofs.Steps.{by_equal}
use Rattle.sheet.specs.Limits.{most_spans}
use Rattle.procedure.specs.Table.{inner_place, updates_place}
use Rattle.calls.specs.Tables.{status_in, count_in}
use Rattle.listing.specs.declared.text.Text.{Text}
use Rattle.listing.specs.Text.{ascii, decimal}
use Rattle.listing.specs.Listing.{status, counted, levels, inner, status_line, most_status_line}
use Rattle.listing.specs.Inner.{Room, Wrote}
use Rattle.listing.proofs.text.Writing.{length_wrote}
use Rattle.listing.proofs.text.Numbers.{decimal_within}

pub status_ended : (table : List ℕ) → status_in table ≡ 1 → status table ≡ ascii "ended"
unfolding status
status_ended table e = rw (eq-eqb (status_in table) 1 e)

pub status_paused : (table : List ℕ) → (status_in table ≡ 1 → ⊥) → status table ≡ ascii "paused"
unfolding status
status_paused table n = rw (ne_eqb (status_in table) 1 n)

module _ (table : List ℕ) where
  status_within : length (status table) ≤ 6
  status_within =
      by_equal (status_in table) 1 (λ e. omega (arith, ap length (status_ended table e))) (λ n. omega (arith, ap length (status_paused table n)))

  counted_within : (name : String) (i : ℕ) → length (counted table name i) ≤ length (ascii name) + 17
  unfolding counted
  counted_within name i =
      omega (arith, length-append (ascii name) (decimal (count_in table i)), decimal_within 16 (count_in table i) (omega arith))

  -- no level, and one more
  pub no_levels : levels table 0 ≡ []
  unfolding levels
  no_levels = refl

  pub level_more : (i : ℕ) → levels table (i + 1) ≡ levels table i ++ counted table " " (inner_place + i)
  unfolding levels
  level_more i = rw add-one

  -- the text of the first levels is no longer than that of all
  levels_longer : (i n : ℕ) → i ≤ n → length (levels table i) ≤ length (levels table n)
  unfolding levels
  levels_longer i zero l = let e : i ≡ 0 = omega arith in rw e (omega arith)
  levels_longer i (suc n) l =
      by_equal i (suc n) (λ e. rw e (omega arith))
      (λ ne. omega (arith, length-append (levels table n) (counted table " " (inner_place + n)), levels_longer i n (omega arith)))

  levels_within : (n : ℕ) → length (levels table n) ≤ 18 * n
  unfolding levels
  levels_within zero = omega arith
  levels_within (suc n) = simp length-append (omega (arith, counted_within " " (inner_place + n), levels_within n))

  inner_within : (n : ℕ) → length (inner table n) ≤ 6 + 18 * n
  unfolding inner
  inner_within n = omega (arith, length-append (ascii " inner") (levels table n), levels_within n)

  -- the next level has room
  pub level_room : {before after : Text} {i n : ℕ} → Wrote before (levels table i) after → i < n → Room before (levels table n)
      → Room after (counted table " " (inner_place + i))
  level_room {i = i} {n = n} w inside room =
      record {
        fits = omega (
          arith,
          room.fits,
          w.place,
          length_wrote w,
          levels_longer (i + 1) n (omega arith),
          ap length (level_more i),
          length-append (levels table i) (counted table " " (inner_place + i)),
        );
      }

  pub status_line_within : (spans : ℕ) → spans ≤ most_spans → length (status_line table spans) ≤ most_status_line
  unfolding status_line
  status_line_within spans few =
      simp length-append
      (omega (
        arith,
        status_within,
        counted_within " rounds " 0,
        counted_within " leaves " 1,
        inner_within spans,
        counted_within " updates " updates_place,
      ))
