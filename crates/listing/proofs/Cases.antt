-- A case of the definitions, computed: of eighteen counts that are all different the first line prints each in its place.
use mathlib.Core.Bool.{true}
use mathlib.Core.Path.{◌≡◌, refl}
use mathlib.Core.List.{[]}
use Prim.Native.Nat.{suc}
use Rattle.indices.specs.Columns.{column}
use Rattle.procedure.specs.Table.{node_words, table_of}
use Rattle.listing.specs.Text.{ascii, last_digits, decimal}
use Rattle.listing.specs.Listing.{status, counted, levels, inner, status_line}

fifteen_heights : status_line (table_of true (column 18 suc) [] [] 0) 15
    ≡ ascii "ended rounds 1 leaves 2 inner 3 4 5 6 7 8 9 10 11 12 13 14 15 16 17 updates 18\n"
unfolding column node_words table_of last_digits decimal status counted levels inner status_line
fifteen_heights = refl
