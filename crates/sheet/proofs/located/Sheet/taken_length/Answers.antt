-- `taken_length` meets its contract: without holds the length alone, else the sum of two payloads, or of one and 0.
use mathlib.Core.Path.{sym, ap, ◌∙◌}
use native.Mathlib.Omega.{arith}
use Rattle.sheet.specs.Arcs.{charged, taken_length}
use Rattle.sheet.proofs.Holds.{length_small, charged_small, taken_none}
use Rattle.sheet.proofs.located.Sheet.taken_length.Goals as goal

pub returns-then-holds-eq0 : goal.returns-then-holds-eq0
returns-then-holds-eq0 c = c.length-length.ensures ∙ sym (taken_none c.args.self.now (omega arith) c.args.a.0)

pub overflow_add-result : goal.overflow_add-result
overflow_add-result c =
    omega (arith, c.length-length.ensures, c.charged.ensures, length_small c.args.self.now c.args.a.0, charged_small c.args.self.now c.tail.result.0)

pub returns : goal.returns
unfolding taken_length
returns c = omega (arith, c.length-length.ensures, c.charged.ensures, ap (charged c.args.self.now) c.tail.ensures.0)
