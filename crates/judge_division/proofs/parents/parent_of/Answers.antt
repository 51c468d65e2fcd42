-- `parent_of` meets its contract: the parent of its word, which is a lower region.
use Prim.Native.Nat.{ℕ, ◌-◌, ◌<◌}
use mathlib.Core.List.{List}
use mathlib.Core.Path.{◌≡◌, ◌∙◌}
use native.Mathlib.Omega.{arith}
use Rattle.sheet.specs.Words.{words}
use Rattle.sheet.specs.Regions.{parent_word, parent}
use Rattle.sheet.proofs.Regions.{parent_of_word}
use Rattle.judgement.proofs.Parents.{parent_le}
use Rattle.judge_division.specs.Parents.{HasParent}
use Rattle.judge_division.proofs.parents.parent_of.Goals as goal

-- what the word of region r names
named : (d : List ℕ) (r i p : ℕ) → HasParent d r → i ≡ r → p ≡ parent_word d (i - 1) → (p ≡ parent d r) × (p < r)
named d r i p h e w =
    let k : i - 1 ≡ r - 1 = omega arith in
    let read : p ≡ parent_word d (r - 1) = rw k at w in
    let l : r - 1 < words d = omega (arith, h.positive, h.inside) in
    (read ∙ parent_of_word d r h.positive, omega (arith, parent_le d h.parents (r - 1) l))

pub overflow_cast-result : goal.overflow_cast-result
overflow_cast-result c = omega (arith, (named _ _ _ _ c.requires c.from-i.ensures c.parent_word.ensures).1)

pub returns : goal.returns
returns c = named _ _ _ _ c.requires c.from-i.ensures c.parent_word.ensures
