-- The refusals that look at one arc after the other. Definitions.
use Rattle.std.specs.Prelude.{ℕ, List, [], ◌∷◌}
use Rattle.answer.specs.Answer.{input, Case, ◌when◌}
use Rattle.judgement.specs.Arcs.{ends_outside, lengths_outside, holds_outside}

-- 8, 9 and 34, in the order in which they are looked at
abbrev pub field_refusals : List ℕ → List Case
field_refusals b = input 8 when ends_outside b ∷ input 9 when lengths_outside b ∷ input 34 when holds_outside b ∷ []
