-- What the stages of the judge after the first two ask. Definitions.
use Rattle.std.specs.Prelude.{ℕ, false, ◌≡◌, List}
use Rattle.judgement.specs.Form.{wrong_size, out_of_order}

-- a sheet to which neither 1 nor 2 applies
pub record InOrder (b : List ℕ) : Type 0 where
  pub sized : wrong_size b ≡ false
  pub ordered : out_of_order b ≡ false
