-- `kept_leaf` meets its contract: the entry of its arc.
use Prim.Native.Nat.{ℕ, ◌-◌}
use mathlib.Core.Path.{ap, ◌∙◌}
use Rattle.sheet.specs.Regions.{arc_word}
use Rattle.conversion_numbers.proofs.regions.Regions.{leaf_tells}
use Rattle.conversion_numbers.proofs.regions.ArcNumbers.kept_leaf.Goals as goal

pub returns : goal.returns
returns c =
    λ b A.
    leaf_tells A _ _ c.requires.0 c.requires.1
    (c.from-2.ensures ∙ c.arc_word-a.ensures.0 ∙ ap (λ (n : ℕ). arc_word c.args.self.now.regions.now (n - 1)) c.from.ensures)
