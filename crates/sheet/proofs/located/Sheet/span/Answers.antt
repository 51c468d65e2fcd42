-- `span` meets its contract: one read, of a word that there is.
use Prim.Native.Nat.{◌+◌, ◌<◌}
use native.Mathlib.Omega.{arith}
use Rattle.sheet.specs.Words.{words}
use Rattle.sheet.proofs.located.Sheet.span.Goals as goal

pub overflow_add-k : goal.overflow_add-k
overflow_add-k c =
    let l : 2 + c.args.k < words c.self.inside.bytes.now = rw c.self.view_is c.requires in omega arith

pub payload_at-requires : goal.payload_at-requires
payload_at-requires c =
    let l : 2 + c.args.k < words c.self.inside.bytes.now = rw c.self.view_is c.requires in omega arith
