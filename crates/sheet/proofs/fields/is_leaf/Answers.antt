-- `is_leaf` meets its contract: region 0 is inner, another region is as its word says.
use mathlib.Core.Path.{◌∙◌}
use Rattle.sheet.proofs.Regions.{leaf_of_word}
use Rattle.sheet.proofs.fields.is_leaf.Goals as goal

pub returns : goal.returns
returns c = c.leaf_word.ensures ∙ leaf_of_word _ _ c.if-i-eq0.false
