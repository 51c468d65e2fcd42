-- `payload_at` meets its contract: the payload of the word.
use borrow.Author.Rules.{rules}
use Rattle.sheet.specs.Words.{payload}
use Rattle.sheet.proofs.payload_at.Goals as goal

pub returns : goal.returns
unfolding payload
returns c = search rules
