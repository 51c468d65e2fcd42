-- `tail` meets its contract: the field of the word.
use native.Mathlib.Omega.{arith}
use Rattle.sheet.specs.Arcs.{tail}
use Rattle.sheet.proofs.located.Sheet.tail.Goals as goal

pub returns : goal.returns
unfolding tail
returns c = (rw c.ends_payload.ensures, omega arith)
