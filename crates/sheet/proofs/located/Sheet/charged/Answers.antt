-- `charged` meets its contract: nothing at the source, the hold elsewhere.
use mathlib.Core.Path.{sym, ◌∙◌}
use native.Mathlib.Omega.{arith}
use Rattle.sheet.proofs.Holds.{charged_source, charged_other}
use Rattle.sheet.proofs.located.Sheet.charged.Goals as goal

-- the node is the source
pub returns-then-v-source_number : goal.returns-then-v-source_number
returns-then-v-source_number c = sym (charged_source c.args.self.now c.args.v.0 (omega arith))

-- or another
pub returns : goal.returns
returns c = c.hold.ensures ∙ sym (charged_other c.args.self.now c.args.v.0 (λ e. c.if-v-source_number.false (omega arith)))
