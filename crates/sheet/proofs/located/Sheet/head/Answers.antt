-- `head` meets its contract: the field of the word.
use native.Mathlib.Omega.{arith}
use Rattle.sheet.specs.Arcs.{head}
use Rattle.sheet.proofs.located.Sheet.head.Goals as goal

pub returns : goal.returns
unfolding head
returns c = (rw c.ends_payload.ensures, omega arith)
