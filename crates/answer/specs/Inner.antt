-- What functions hand to each other for an answer: for contracts within the project. Definitions.
use Rattle.std.specs.Prelude.{ℕ, zero, suc}
use Rattle.answer.specs.Answer.{input, Answer, accepted, ended, paused, route, no_route, written, refused}

-- the answer for the number of a refusal from the input, 0 standing for none
abbrev pub numbered : ℕ → Answer
numbered zero = accepted
numbered (suc n) = refused (input (suc n))

-- the figure in an answer: the arcs of a route, the bytes written
abbrev pub figure_of : Answer → ℕ
figure_of accepted = 0
figure_of paused = 0
figure_of ended = 0
figure_of no_route = 0
figure_of (route arcs) = arcs
figure_of (written bytes) = bytes
figure_of (refused refusal) = 0
