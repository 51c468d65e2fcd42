-- `length` meets its contract: one read, inside the sheet.
use Prim.Native.Nat.{ℕ, ◌+◌, ◌*◌, ◌<◌}
use mathlib.Core.Path.{ap, ◌∙◌}
use Rattle.sheet.specs.Words.{payload}
use Rattle.sheet.specs.Sections.{arc_count}
use Rattle.sheet.specs.Arcs.{arc_length}
use Rattle.sheet.proofs.Bounds.{arc_inside}
use Rattle.sheet.proofs.located.Sheet.length.Goals as goal

pub payload_at-requires : goal.payload_at-requires
payload_at-requires c =
    let l : c.args.a.0 < arc_count c.self.inside.bytes.now = rw c.self.view_is c.requires in arc_inside c.self.invariant c.args.a.0 l

pub returns : goal.returns
unfolding arc_length
returns c = rw (← c.self.view_is) (c.payload_at.ensures ∙ ap (λ (n : ℕ). payload c.self.inside.bytes.now (n + 2 * c.args.a.0 + 1)) c.self.invariant.arcs_from_lem)
