-- `leaf_word` meets its contract: the kind is that of a leaf.
use Rattle.sheet.specs.Regions.{leaf_word}
use Rattle.sheet.proofs.fields.leaf_word.Goals as goal

pub returns : goal.returns
unfolding leaf_word
returns c = c.is_at.ensures
