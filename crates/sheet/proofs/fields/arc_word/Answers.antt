-- `arc_word` meets its contract: the field of the word.
use borrow.Author.Rules.{rules}
use Rattle.sheet.specs.Regions.{arc_word}
use Rattle.sheet.proofs.fields.arc_word.Goals as goal

pub returns : goal.returns
unfolding arc_word
returns c = search rules
