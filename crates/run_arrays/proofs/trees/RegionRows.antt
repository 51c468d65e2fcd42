-- Every region of the division has a row, by the length of the rows.
use Prim.Native.Nat.{ℕ, ◌<◌}
use mathlib.Core.List.{List}
use native.Mathlib.Omega.{arith}
use Rattle.procedure.specs.Division.{Division, regions}
use Rattle.run_arrays.specs.Rows.{row_count}
use Rattle.run_arrays.specs.Trees.{ChildrenCounted}

-- a region has a row
pub row_in : {d : Division} {rows : List ℕ} (r : ℕ) → ChildrenCounted d rows → r < regions d → r < row_count rows
row_in r C l = omega (arith, C.all)
