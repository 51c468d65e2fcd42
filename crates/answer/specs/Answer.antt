-- What a call answers, in the paper's terms. Definitions.
use Rattle.std.specs.Prelude.{ℕ, List, [], ◌∷◌, Bool, true, false, if◌then◌else◌}
use Rattle.answer.specs.declared.Fault.{Fault}
use Rattle.answer.specs.declared.Fault.TheVariants.{Input, State}

-- "An answer to a call says whether input or state was at fault, and the number alone."
pub data Refusal : Type 0 where
  input : ℕ → Refusal
  state : ℕ → Refusal

-- "the number alone": no number stands for both
abbrev pub number_of : Refusal → ℕ
number_of (input n) = n
number_of (state n) = n

-- what each case of a fault says
abbrev pub refusal_of : Fault → Refusal
refusal_of (Input n) = input n
refusal_of (State n) = state n

-- "A good sheet is answered 'accepted' by the judge, and a run answers 'ended' or 'paused' as its table says." A route is answered by the count of
-- its arcs; "For an unreached node the call answers 'no route'". 2026-04: of what is written into a byte buffer, "its byte length is returned".
pub data Answer : Type 0 where
  accepted : Answer
  ended : Answer
  paused : Answer
  route : ℕ → Answer
  no_route : Answer
  written : ℕ → Answer
  refused : Refusal → Answer

-- a refusal, and whether it applies
pub record Case : Type 0 where
  pub refusal : Refusal
  pub applies : Bool

infix 70 ◌when◌
abbrev pub ◌when◌ : Refusal → Bool → Case
r when b = record { refusal = r; applies = b }

-- "The lowest number that applies is given; a later one is looked at only when no earlier one applies."
-- The cases stand in the order in which they are looked at; where none applies the call is answered.
abbrev pub lowest : List Case → Answer → Answer
lowest [] answer = answer
lowest (c ∷ cs) answer = if c.applies then refused c.refusal else lowest cs answer

-- the answers that are refusals, and those that are routes
abbrev pub is_refused : Answer → Bool
is_refused accepted = false
is_refused ended = false
is_refused paused = false
is_refused (route _) = false
is_refused no_route = false
is_refused (written _) = false
is_refused (refused _) = true

abbrev pub is_route : Answer → Bool
is_route accepted = false
is_route ended = false
is_route paused = false
is_route (route _) = true
is_route no_route = false
is_route (written _) = false
is_route (refused _) = false
