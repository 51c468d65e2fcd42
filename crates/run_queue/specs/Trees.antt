-- What a tree is built from. Definitions.
use Rattle.std.specs.Prelude.{ℕ, ◌<◌, List}
use Rattle.procedure.specs.Division.{Division, regions}
use Rattle.run_arrays.specs.Trees.{ValidBelow}

-- a division with keys for which the trees of the regions below r are valid, and r's is to be built
pub record ToBuild (rows winners : List ℕ) (r : ℕ) : Type 0 where
  pub division : Division
  pub keys : List ℕ
  pub below : ValidBelow division rows keys winners r
  pub inside : r < regions division
