-- What the passes over the rows of the regions are given. Definitions.
use Rattle.std.specs.Prelude.{ℕ, ◌*◌, ◌≡◌, List, length}
use Rattle.procedure.specs.Division.{Division, regions}

-- a division of which P is known, and a row for each of its regions
pub record ForDivision (P : Division → Type 0) (rows : List ℕ) : Type 0 where
  pub division : Division
  pub known : P division
  pub each_row : length rows ≡ 4 * regions division
