-- `parent_word` meets its contract: the field that the kind has.
use mathlib.Core.Path.{sym, ◌∙◌}
use Rattle.sheet.specs.Regions.{parent_word}
use Rattle.sheet.proofs.fields.parent_word.Goals as goal

pub returns-then-leaf_word : goal.returns-then-leaf_word
unfolding parent_word
returns-then-leaf_word c = rw (sym c.leaf_word.ensures ∙ c.if-leaf_word.true, ← c.payload_at-p.ensures)

pub returns : goal.returns
unfolding parent_word
returns c = rw (sym c.leaf_word.ensures ∙ c.if-leaf_word.false, ← c.payload_at-p.ensures)
