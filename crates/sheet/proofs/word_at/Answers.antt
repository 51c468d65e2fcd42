-- `word_at` meets its contract: four bytes, each below 256, make the word.
use borrow.Author.Rules.{rules}
use Rattle.sheet.specs.Words.{word}
use Rattle.sheet.proofs.word_at.Goals as goal

pub returns : goal.returns
unfolding word
returns c = search rules
