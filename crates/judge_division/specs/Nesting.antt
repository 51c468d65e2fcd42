-- The refusals that look at the regions from the last one back. Definitions.
use Rattle.std.specs.Prelude.{ℕ, List, [], ◌∷◌}
use Rattle.answer.specs.Answer.{input, Case, ◌when◌}
use Rattle.judgement.specs.Division.{childless_regions, spans_differ}

-- 13 and 14, in the order in which they are looked at
abbrev pub nesting_refusals : List ℕ → ℕ → List Case
nesting_refusals d spans = input 13 when childless_regions d ∷ input 14 when spans_differ d spans ∷ []
