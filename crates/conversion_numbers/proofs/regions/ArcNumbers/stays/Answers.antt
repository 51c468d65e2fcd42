-- `stays` meets its contract: region 0, a leaf that is kept, and an inner region that holds something.
use mathlib.Core.Path.{sym, ap, ◌∙◌}
use native.Mathlib.Omega.{arith}
use Rattle.conversion.specs.Converted.{kept_region}
use Rattle.conversion_numbers.proofs.regions.Regions.{few_words, stays_root, stays_leaf, stays_inner}
use Rattle.conversion_numbers.proofs.regions.ArcNumbers.stays.Goals as goal

pub returns-then-r-eq0 : goal.returns-then-r-eq0
returns-then-r-eq0 c = λ b A H. sym (ap (kept_region b) c.if-r-eq0.true ∙ stays_root A)

pub returns-then-is_leaf : goal.returns-then-is_leaf
returns-then-is_leaf c =
    λ b A H. c.kept_leaf.ensures b A ∙ sym (stays_leaf A _ c.requires (sym c.is_leaf.ensures ∙ c.if-is_leaf.true))

pub bounds-best-from : goal.bounds-best-from
bounds-best-from c = omega (arith, few_words c.args.self.now.numbered, c.requires, c.from.ensures)

pub returns : goal.returns
returns c =
    λ b A H.
    rw c.from.ensures
    (sym (stays_inner A H _ (omega (arith, c.if-r-eq0.false)) c.requires (sym c.is_leaf.ensures ∙ c.if-is_leaf.false)))
