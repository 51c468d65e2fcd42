-- What is asked where the parent of a region is read. Definitions.
use Rattle.std.specs.Prelude.{ℕ, ◌≤◌, ◌<◌, false, ◌≡◌, List}
use Rattle.sheet.specs.Words.{words}
use Rattle.judgement.specs.Division.{wrong_parents}

-- a region other than 0 of region words to which 11 does not apply
pub record HasParent (d : List ℕ) (r : ℕ) : Type 0 where
  pub positive : 0 < r
  pub inside : r ≤ words d
  pub parents : wrong_parents d ≡ false
