-- `parent_of` meets its contract: the first entry of a row is the parent.
use mathlib.Core.Path.{◌∙◌}
use native.Mathlib.Omega.{arith}
use Rattle.run_arrays.proofs.trees.RegionRows.{row_in}
use Rattle.run_arrays.proofs.trees.parent_of.Goals as goal

pub field-requires : goal.field-requires
field-requires c = (omega arith, row_in _ c.requires.counted c.requires.inside)

pub returns : goal.returns
returns c d C inside = c.field.ensures ∙ C.parents _ c.requires.positive inside
