-- `next_word` meets its contract: the word where there is one, else none.
use borrow.Author.Tests.{lt-ltb, le-ltb}
use Rattle.sheet.proofs.scan.next_word.Goals as goal

pub returns-then-i-s : goal.returns-then-i-s
returns-then-i-s c = rw (lt-ltb _ _ c.if-i-s.true, ← c.word_at.ensures)

pub returns : goal.returns
returns c = rw (le-ltb _ _ c.if-i-s.false)
