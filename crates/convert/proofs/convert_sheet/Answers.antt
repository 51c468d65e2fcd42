-- `convert_sheet` meets its contract: a convertible sheet has its first two words.
use borrow.Author.Rules.{rules}
use Rattle.judgement.proofs.Accepted.{front_there}
use Rattle.convert.proofs.convert_sheet.Goals as goal

pub new-s-requires : goal.new-s-requires
new-s-requires c = search (rules, front_there)
