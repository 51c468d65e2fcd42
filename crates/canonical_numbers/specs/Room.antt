-- What the numbering of a sheet's regions works in. Definitions.
use Rattle.std.specs.Prelude.{ℕ, ◌*◌, ◌≡◌, List, length}
use Rattle.run_layout.specs.declared.sizes.Sizes.{Sizes}

-- slices of the right lengths for a sheet of these sizes: a row for each arc, an entry for each region
pub record Roomy (z : Sizes) (arcs parents sizes nexts numbers : List ℕ) : Type 0 where
  pub arcs_all : length arcs ≡ 4 * z.arcs
  pub parents_all : length parents ≡ z.regions
  pub sizes_all : length sizes ≡ z.regions
  pub nexts_all : length nexts ≡ z.regions
  pub numbers_all : length numbers ≡ z.regions
