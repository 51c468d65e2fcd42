-- `ends_payload` meets its contract: one read, inside the sheet.
use Prim.Native.Nat.{ℕ, ◌+◌, ◌*◌, ◌<◌}
use mathlib.Core.Path.{ap, ◌∙◌}
use native.Mathlib.Omega.{arith}
use Rattle.sheet.specs.Words.{payload}
use Rattle.sheet.specs.Sections.{arc_count}
use Rattle.sheet.proofs.Bounds.{arc_inside}
use Rattle.sheet.proofs.located.Sheet.ends_payload.Goals as goal

pub payload_at-requires : goal.payload_at-requires
payload_at-requires c =
    let l : c.args.a.0 < arc_count c.self.inside.bytes.now = rw c.self.view_is c.requires in omega (arith, arc_inside c.self.invariant c.args.a.0 l)

pub returns : goal.returns
returns c = rw (← c.self.view_is) (c.payload_at.ensures ∙ ap (λ (n : ℕ). payload c.self.inside.bytes.now (n + 2 * c.args.a.0)) c.self.invariant.arcs_from_lem)
