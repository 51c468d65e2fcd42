-- Trees can be built of a division's rows and heights: the places have room for the most regions.
use Prim.Native.Nat.{ℕ}
use mathlib.Core.Path.{◌≡◌}
use mathlib.Core.List.{List}
use native.Mathlib.Omega.{arith}
use lib.ListN.{length}
use Rattle.procedure.specs.Division.{Division}
use Rattle.theory_shortest.specs.WellFormed.{DivisionOk}
use Rattle.run_arrays.specs.Sections.{most_places}
use Rattle.run_arrays.specs.Trees.{Planned, Buildable}
use Rattle.run_arrays.specs.Fixed.{RegionHeights}

pub can_build : {m : ℕ} {d : Division} {rows heights winners : List ℕ} → DivisionOk m d → RegionHeights d heights → Planned d rows
    → length winners ≡ most_places → Buildable d rows heights winners
can_build ok tall P long = record {
  laid = record { planned = P; room = omega (arith, ok.few_regions) };
  few = omega (arith, ok.few_regions);
  tall = tall;
}
