-- Rounds with spans that change between them. Definitions.
use Rattle.std.specs.Prelude.{ℕ, ◌+◌, List, [], ◌∷◌}
use Rattle.procedure.specs.Graph.{Graph}
use Rattle.procedure.specs.Division.{Division}
use Rattle.procedure.specs.State.{State}
use Rattle.procedure.specs.Procedure.{more}
use Rattle.theory_shortest.specs.WellFormed.{SpansOk}

-- up to so many rounds with these spans
pub record Stage : Type 0 where
  pub spans : List ℕ
  pub rounds : ℕ

-- one stage after the other
unfoldable pub in_stages : Graph → Division → List Stage → State → State
in_stages g d [] s = s
in_stages g d (t ∷ ts) s = in_stages g d ts (more g d t.spans t.rounds s)

-- the rounds of all stages
unfoldable pub all_rounds : List Stage → ℕ
all_rounds [] = 0
all_rounds (t ∷ ts) = t.rounds + all_rounds ts

-- each stage has a span for each height, 1 to 1,000,000
unfoldable pub StagesOk : Division → List Stage → Type 0
StagesOk d [] = Unit
StagesOk d (t ∷ ts) = SpansOk d t.spans × StagesOk d ts
