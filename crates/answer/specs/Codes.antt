-- The number by which the library for C and Rust gives an answer. Definitions.
use Rattle.std.specs.Prelude.{ℕ, ◌+◌, ◌-◌, Bool, ◌||◌, ltb, eqb, if◌then◌else◌}
use Rattle.answer.specs.Answer.{input, state, number_of, Answer, accepted, ended, paused, route, no_route, written, refused}

-- 1 to 99 a refusal, 256 to 259 what has no number of its own, from 65,536 on a route with the count of its arcs, from 131,072 on what is written with the
-- count of its bytes
abbrev pub code_of : Answer → ℕ
code_of accepted = 256
code_of paused = 257
code_of ended = 258
code_of no_route = 259
code_of (route arcs) = 65536 + arcs
code_of (written bytes) = 131072 + bytes
code_of (refused refusal) = number_of refusal

-- the numbers under "From the state", and 2026-06: "32, table not of the longer length or at fault as in 22, in the place of 21 and 22; 33, not a possible
-- state, after 32", which say state as those do. The others that a call answers stand under "From the input", or are placed by one that does: "This and every
-- later new number says input or state as the number it is placed by does."
abbrev pub from_state : ℕ → Bool
from_state n = eqb n 21 || eqb n 22 || eqb n 23 || eqb n 24 || eqb n 25 || eqb n 32 || eqb n 33

-- a code read back: every answer of a call is the one that its code says (crates/pigrozk/proofs/Told.antt)
unfoldable pub answer_of : ℕ → Answer
answer_of code =
    if ltb code 100 then refused (if from_state code then state code else input code)
    else if eqb code 256 then accepted
    else if eqb code 257 then paused
    else if eqb code 258 then ended
    else if eqb code 259 then no_route
    else if ltb code 131072 then route (code - 65536)
    else written (code - 131072)
