-- What each reason of a refusal is: by fault of the input or of the state, and its number. Definitions.
use Rattle.std.specs.Prelude.{Result, Ok, Err}
use Rattle.answer.specs.declared.reason.Reason.{Reason}
use Rattle.answer.specs.declared.reason.Reason.TheVariants.{
  Size,
  Order,
  Bits,
  Nodes,
  Source,
  Spans,
  TooMany,
  Ends,
  Length,
  HeldLength,
  Degree,
  SelfArc,
  Parent,
  Leaves,
  Childless,
  Height,
  Node,
  TableLength,
  Malformed,
  Paused,
  NotShortest,
  NotLong,
  NotPossible,
  ShortRoute,
  ShortBuffer,
}
use Rattle.answer.specs.Answer.{Refusal, input, state, Answer, accepted, refused}

-- "From the input": 1 to 15; and by the requests 31, 34 and 35
-- "From the state": 21 to 25; and by request 2026-06 32 and 33
abbrev pub refusal_for : Reason → Refusal
refusal_for Size = input 1
refusal_for Order = input 2
refusal_for Bits = input 3
refusal_for Nodes = input 4
refusal_for Source = input 5
refusal_for Spans = input 6
refusal_for TooMany = input 7
refusal_for Ends = input 8
refusal_for Length = input 9
refusal_for HeldLength = input 34
refusal_for Degree = input 10
refusal_for SelfArc = input 35
refusal_for Parent = input 11
refusal_for Leaves = input 12
refusal_for Childless = input 13
refusal_for Height = input 14
refusal_for Node = input 15
refusal_for TableLength = state 21
refusal_for Malformed = state 22
refusal_for Paused = state 23
refusal_for NotShortest = state 24
refusal_for NotLong = state 32
refusal_for NotPossible = state 33
refusal_for ShortRoute = state 25
refusal_for ShortBuffer = input 31

-- what a check answers: nothing to refuse, or why
abbrev pub checked : {T : Type 0} → Result T Reason → Answer
checked (Ok _) = accepted
checked (Err reason) = refused (refusal_for reason)
