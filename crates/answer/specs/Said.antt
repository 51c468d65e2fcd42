-- What each case of each call's answer says, by the paper's words and numbers. Definitions.
use Rattle.answer.specs.Answer.{Answer, accepted, ended, paused, route, no_route, written, refused, refusal_of}
use Rattle.answer.specs.declared.judged.Judged.{Judged}
use Rattle.answer.specs.declared.judged.Judged.TheVariants.{Accepted, Refused as SheetRefused}
use Rattle.answer.specs.declared.ran.Ran.{Ran}
use Rattle.answer.specs.declared.ran.Ran.TheVariants.{Ended, Paused, Refused as RunRefused}
use Rattle.answer.specs.declared.routed.Routed.{Routed}
use Rattle.answer.specs.declared.routed.Routed.TheVariants.{Route, NoRoute, Refused as RouteRefused}
use Rattle.answer.specs.declared.copied.Copied.{Copied}
use Rattle.answer.specs.declared.copied.Copied.TheVariants.{Written, Refused as CopyRefused}

-- the judge
abbrev pub judge_said : Judged → Answer
judge_said Accepted = accepted
judge_said (SheetRefused fault) = refused (refusal_of fault)

-- a run call
abbrev pub run_said : Ran → Answer
run_said Ended = ended
run_said Paused = paused
run_said (RunRefused fault) = refused (refusal_of fault)

-- the route reader
abbrev pub route_said : Routed → Answer
route_said (Route arcs) = route arcs
route_said NoRoute = no_route
route_said (RouteRefused fault) = refused (refusal_of fault)

-- the call for the canonical form, and the converter
abbrev pub copied_said : Copied → Answer
copied_said (Written bytes) = written bytes
copied_said (CopyRefused fault) = refused (refusal_of fault)
