-- `hold` meets its contract: a word between the spans and the arcs, or none.
use Prim.Native.Nat.{ℕ, ◌+◌, ◌<◌}
use mathlib.Core.Path.{sym, ap, ◌∙◌}
use native.Mathlib.Omega.{arith}
use Rattle.sheet.specs.Words.{payload}
use Rattle.sheet.specs.Sections.{hold_count}
use Rattle.sheet.proofs.Bounds.{regions_inside}
use Rattle.sheet.proofs.Holds.{hold_there, hold_none}
use Rattle.sheet.proofs.located.Sheet.hold.Goals as goal

pub overflow_add-self-inside : goal.overflow_add-self-inside
overflow_add-self-inside c = omega (arith, regions_inside c.self.inside.bytes.now c.self.invariant.front, c.self.invariant.spans_all)

pub payload_at-requires : goal.payload_at-requires
payload_at-requires c =
    let l : c.args.v.0 < hold_count c.self.inside.bytes.now = let h : c.args.v.0 < hold_count c.args.self.now = omega arith in rw c.self.view_is h in
    omega (arith, regions_inside c.self.inside.bytes.now c.self.invariant.front, c.self.invariant.spans_all)

pub returns-then-i-holds : goal.returns-then-i-holds
returns-then-i-holds c =
    let s = c.self.inside.bytes.now in
    let l : c.args.v.0 < hold_count s = let h : c.args.v.0 < hold_count c.args.self.now = omega arith in rw c.self.view_is h in
    rw (← c.self.view_is) (c.payload_at.ensures ∙ ap (λ (n : ℕ). payload s (2 + n + c.args.v.0)) c.self.invariant.spans_all ∙ sym (hold_there s c.args.v.0 l))

pub returns : goal.returns
returns c = sym (hold_none c.args.self.now c.args.v.0 (omega arith))
