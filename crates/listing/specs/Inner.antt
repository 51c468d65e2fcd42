-- What the functions that write a listing ask and leave: for contracts within the project. Definitions.
use Rattle.std.specs.Prelude.{ℕ, ◌+◌, ◌≤◌, ◌≡◌, List, length}
use Rattle.std.proofs.lemmas.List.Edits.{sets}
use Rattle.calls.specs.Tables.{table_length}
use Rattle.sheet.specs.Limits.{most_nodes, most_spans}
use Rattle.listing.specs.Listing.{most_listing}
use Rattle.listing.specs.declared.text.Text.{Text}

-- bytes have room in the buffer behind the text so far
pub record Room (text : Text) (bytes : List ℕ) : Type 0 where
  pub fits : text.place + length bytes ≤ length text.out.now

-- the bytes are stored in the same buffer behind the text before
pub record Wrote (before : Text) (bytes : List ℕ) (after : Text) : Type 0 where
  pub same : after.out.ghost_name ≡ before.out.ghost_name
  pub stored : after.out.now ≡ sets before.out.now before.place bytes
  pub place : after.place ≡ before.place + length bytes

-- a table of a sheet of so many spans and nodes, and room for its listing
pub record ListingLent (table : List ℕ) (spans nodes : ℕ) (out : List ℕ) : Type 0 where
  pub sized : length table ≡ table_length nodes
  pub few_spans : spans ≤ most_spans
  pub few_nodes : nodes ≤ most_nodes
  pub room : most_listing ≤ length out
