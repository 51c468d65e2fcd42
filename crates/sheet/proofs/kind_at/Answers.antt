-- `kind_at` meets its contract: the kind of the word.
use borrow.Author.Rules.{rules}
use Rattle.sheet.specs.Words.{kind}
use Rattle.sheet.proofs.kind_at.Goals as goal

pub returns : goal.returns
unfolding kind
returns c = search rules
