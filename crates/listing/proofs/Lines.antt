-- What a buffer has room for: the listing, and the line of a refusal.
use Rattle.std.proofs.Common.{◌≡◌}
use Prim.Native.Nat.{ℕ, ◌+◌, ◌*◌, ◌≤◌, ◌<◌}
use mathlib.Core.List.{List}
use native.Mathlib.Omega.{arith}
use lib.ListN.{length, length-append}
use Rattle.sheet.specs.Limits.{most_nodes, most_spans}
use Rattle.listing.specs.declared.text.Text.{Text}
use Rattle.listing.specs.Listing.{status_line, node_lines, listing_of, most_node_line, most_listing, refused_line}
use Rattle.listing.specs.Inner.{Room, Wrote}
use Rattle.listing.proofs.text.Writing.{length_wrote}
use Rattle.listing.proofs.text.Numbers.{decimal_within}
use Rattle.listing.proofs.status_line.StatusLine.{status_line_within}
use Rattle.listing.proofs.node_lines.NodeLines.{node_lines_within}

-- what a buffer for the longest listing has room for
module _ (table : List ℕ) {spans : ℕ} (few_spans : spans ≤ most_spans) {text : Text} (front : text.place ≡ 0) (long : most_listing ≤ length text.out.now) where
  pub status_line_room : Room text (status_line table spans)
  status_line_room = record { fits = omega (arith, status_line_within table spans few_spans) }

  pub node_lines_fit : {after : Text} {nodes : ℕ} → Wrote text (status_line table spans) after → nodes ≤ most_nodes
      → after.place + most_node_line * nodes ≤ length after.out.now
  node_lines_fit w few = omega (arith, w.place, length_wrote w, status_line_within table spans few_spans)

  pub listing_room : (nodes : ℕ) → nodes ≤ most_nodes → Room text (listing_of table spans nodes)
  unfolding listing_of
  listing_room nodes few =
      record {
        fits = omega (
          arith,
          length-append (status_line table spans) (node_lines table nodes),
          status_line_within table spans few_spans,
          node_lines_within table nodes few,
        );
      }

refused_within : (n : ℕ) → n < 256 → length (refused_line n) ≤ 12
unfolding refused_line
refused_within n small = simp length-append (omega (arith, decimal_within 2 n (omega arith)))

pub refused_room : {n : ℕ} {text : Text} → n < 256 → text.place ≡ 0 → 12 ≤ length text.out.now → Room text (refused_line n)
refused_room {n} small front fits = record { fits = omega (arith, refused_within n small) }
