-- What the root of a region's tree tells. Definitions.
use Rattle.std.specs.Prelude.{ℕ, ◌≡◌, List}
use Rattle.procedure.specs.Division.{Division}
use Rattle.procedure.specs.Queues.{min_item}
use Rattle.run_arrays.specs.Trees.{IsMinKey, entry_key, entry_region}

-- e has the number of r's first-chosen item, 0 for none, and r's smallest key
pub record FirstEntry (d : Division) (keys : List ℕ) (r e : ℕ) : Type 0 where
  pub item : entry_region e ≡ min_item d keys r
  pub key : IsMinKey d keys r (entry_key e)
