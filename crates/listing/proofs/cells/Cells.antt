-- Laws of a cell: its two forms, and how long it may be.
use Prim.Native.Nat.{ℕ, ◌≤◌, ◌<◌}
use mathlib.Core.Path.{◌≡◌, ap}
use native.Mathlib.Omega.{arith}
use borrow.Author.Tests.{eq-eqb, ne_eqb}
use lib.ListN.{length, length-append}
use Rattle.indices.proofs.Steps.{by_equal}
use Rattle.sheet.specs.Words.{top}
use Rattle.listing.specs.Text.{ascii, decimal}
use Rattle.listing.specs.Listing.{cell, spaced}
use Rattle.listing.proofs.text.Numbers.{decimal_within}

pub cell_none : (payload : ℕ) → payload ≡ 268435455 → cell payload ≡ ascii "-"
unfolding cell top
cell_none payload e = rw (eq-eqb payload 268435455 e)

pub cell_number : (payload : ℕ) → (payload ≡ 268435455 → ⊥) → cell payload ≡ decimal payload
unfolding cell top
cell_number payload n = rw (ne_eqb payload 268435455 n)

cell_within : (payload : ℕ) → payload < 268435456 → length (cell payload) ≤ 9
cell_within payload small =
    by_equal payload 268435455 (λ e. omega (arith, ap length (cell_none payload e)))
    (λ n. omega (arith, ap length (cell_number payload n), decimal_within 8 payload (omega arith)))

pub spaced_within : (payload : ℕ) → payload < 268435456 → length (spaced payload) ≤ 10
unfolding spaced
spaced_within payload small = simp length-append (omega (arith, cell_within payload small))
