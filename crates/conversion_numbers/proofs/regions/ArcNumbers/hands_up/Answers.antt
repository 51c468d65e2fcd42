-- `hands_up` meets its contract: a leaf hands up 1 if it is kept, an inner region what it holds and one more, if it holds anything.
use mathlib.Core.Path.{sym, ◌∙◌}
use native.Mathlib.Omega.{arith}
use Rattle.conversion_numbers.proofs.regions.Regions.{few_words, hands_leaf, hands_none, hands_some}
use Rattle.conversion_numbers.proofs.regions.ArcNumbers.hands_up.Goals as goal

pub returns-then-is_leaf : goal.returns-then-is_leaf
returns-then-is_leaf c =
    λ b A. c.from.ensures ∙ hands_leaf A _ _ _ (sym c.is_leaf.ensures ∙ c.if-is_leaf.true) (c.kept_leaf.ensures b A)

pub bounds-best-from : goal.bounds-best-from
bounds-best-from c = omega (arith, few_words c.args.self.now.numbered, c.requires.0, c.from-2.ensures)

pub returns-then-own-eq0 : goal.returns-then-own-eq0
returns-then-own-eq0 c =
    λ b A. hands_none A _ _ (sym c.is_leaf.ensures ∙ c.if-is_leaf.false) (rw c.from-2.ensures at c.if-own-eq0.true)

pub returns : goal.returns
returns c =
    λ b A.
    hands_some A _ _ _ (sym c.is_leaf.ensures ∙ c.if-is_leaf.false) (rw c.from-2.ensures at c.if-own-eq0.false)
    (rw c.from-2.ensures (omega arith))
