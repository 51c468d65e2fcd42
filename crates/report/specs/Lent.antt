-- What is asked where an accepted sheet is run and listed. Definitions.
use Rattle.std.specs.Prelude.{ℕ, ◌≡◌, ◌≤◌, List, length}
use Rattle.sheet.specs.Sections.{node_count}
use Rattle.judgement.specs.Judgement.{Accepted}
use Rattle.calls.specs.Tables.{table_length}
use Rattle.listing.specs.Listing.{most_listing}

-- words for its table, and room for its listing
pub record TableLent (b table out : List ℕ) : Type 0 where
  pub accepted : Accepted b
  pub sized : length table ≡ table_length (node_count b)
  pub room : most_listing ≤ length out
