-- Request 2026-01: "Every sheet accepted before gets the same table as before". A wider limit on the arcs at a node changes no call on a sheet that the
-- narrower limit did not refuse as 10.
use Prim.Native.Nat.{ℕ, ◌≤◌}
use mathlib.Core.List.{List}
use mathlib.Core.Logic.{◌≢◌}
use mathlib.Core.Path.{◌≡◌, sym, ap, ◌∙◌}
use native.Mathlib.Omega.{arith}
use Rattle.sheet.specs.Limits.{most_arcs_each_way, most_arcs_before}
use Rattle.answer.specs.Answer.{input, Answer, accepted, refused, lowest}
use Rattle.answer.proofs.Lowest.{lowest_append, refused≢accepted}
use Rattle.judgement.specs.Judgement.{refusals_under, judgement_under, judgement_by, judgement, Accepted}
use Rattle.judgement.proofs.Wider.{same_lowest}
use Rattle.calls.specs.Calls.{Call, call_answer, lent_after}
use Rattle.calls.specs.Runs.{run_call, run_answer, table_after}
use Rattle.calls.specs.Routes.{route_call, route_answer, buffer_after}
use Rattle.calls.specs.AsBefore.{SameUnder}
use Rattle.listing.specs.Printed.{printed_by, printed, words_by, words_after}

module _ (few most : ℕ) (wider : few ≤ most) (b : List ℕ) (other : judgement_under few b ≢ refused (input 10)) where
  same_call : (call : Call) → call_answer (refusals_under most b) call ≡ call_answer (refusals_under few b) call
  same_call call =
      let rest = lowest call.later call.good in
      lowest_append (refusals_under most b) call.later call.good
      ∙ same_lowest few most wider b other rest
      ∙ sym (lowest_append (refusals_under few b) call.later call.good)

  pub same_under : SameUnder few most b
  same_under = record { judged = same_lowest few most wider b other accepted; answers = same_call; words = λ call. ap call.leaves (same_call call) }

-- A sheet that was not refused as 10 when a node might have two arcs each way
module _ (b : List ℕ) (other : judgement_under most_arcs_before b ≢ refused (input 10)) where
  pub as_before : SameUnder most_arcs_before most_arcs_each_way b
  as_before = same_under most_arcs_before most_arcs_each_way (omega arith) b other

  -- and so for the judge, a run of any number of rounds and the route reader
  pub judged_as_before : judgement b ≡ judgement_under most_arcs_before b
  unfolding judgement_by
  judged_as_before = as_before.judged

  pub run_as_before : (k : ℕ) (table : List ℕ) → let call = run_call b k table in
      (run_answer b k table ≡ call_answer (refusals_under most_arcs_before b) call)
      × (table_after b k table ≡ lent_after (refusals_under most_arcs_before b) call)
  unfolding run_answer table_after
  run_as_before k table = (as_before.answers (run_call b k table), as_before.words (run_call b k table))

  pub route_as_before : (table : List ℕ) (node : ℕ) (buffer : List ℕ) → let call = route_call b table node buffer in
      (route_answer b table node buffer ≡ call_answer (refusals_under most_arcs_before b) call)
      × (buffer_after b table node buffer ≡ lent_after (refusals_under most_arcs_before b) call)
  unfolding route_answer buffer_after
  route_as_before table node buffer = (as_before.answers (route_call b table node buffer), as_before.words (route_call b table node buffer))

  -- for what is printed, and the words that a report leaves
  pub printed_as_before : printed b ≡ printed_by (judgement_under most_arcs_before b) b
  unfolding printed
  printed_as_before = ap (λ (judged : Answer). printed_by judged b) judged_as_before

  pub words_as_before : (table : List ℕ) → words_after b table ≡ words_by (judgement_under most_arcs_before b) b table
  unfolding words_after
  words_as_before table = ap (λ (judged : Answer). words_by judged b table) judged_as_before

-- A sheet that was accepted is accepted, and "gets the same table as before"
module _ (b : List ℕ) (was : judgement_under most_arcs_before b ≡ accepted) where
  not_ten : judgement_under most_arcs_before b ≢ refused (input 10)
  not_ten ten = refused≢accepted (input 10) (sym ten ∙ was)

  pub accepted_before : Accepted b
  accepted_before = record { judged = judged_as_before b not_ten ∙ was }

  pub table_as_before : (k : ℕ) (table : List ℕ) → table_after b k table ≡ lent_after (refusals_under most_arcs_before b) (run_call b k table)
  table_as_before k table = (run_as_before b not_ten k table).1
