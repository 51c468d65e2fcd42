-- 24 as it is computed agrees with the paper's, and what the route reader's answer says of the table follows.
use Rattle.std.specs.Prelude.{if◌then◌else◌}
use Prim.Native.Nat.{ℕ, ◌<◌}
use native.Mathlib.Omega.{arith}
use mathlib.Core.Bool.{Bool, true, false, cond, true≢false, not}
use mathlib.Core.Path.{◌≡◌, refl, sym, ap, ◌∙◌}
use mathlib.Core.Logic.{◌≢◌, ◌↔◌}
use mathlib.Core.List.{List, ◌∷◌}
use borrow.Author.Tests.{not-false}
use lib.ListN.{length}
use lib.Dec.{ltb, eqb}
use Rattle.sheet.specs.Words.{top}
use Rattle.sheet.specs.Sections.{node_count}
use Rattle.answer.specs.Answer.{Refusal, number_of, input, state, ◌when◌, is_refused, lowest}
use Rattle.answer.specs.Answer.{Answer, accepted, ended, paused, route, no_route, written, refused}
use Rattle.answer.proofs.Lowest.{lowest_append, lowest_clear, lowest_stop}
use Rattle.judgement.specs.Judgement.{refusals, judgement_by, judgement, Accepted}
use Rattle.procedure.specs.OfSheet.{graph_of}
use Rattle.theory_shortest.proofs.WellFormed.{accepted_well_formed}
use Rattle.theory_shortest.proofs.TableTest.{test_shortest, shortest_test}
use Rattle.theory_shortest.proofs.Travel.{for_sheet}
use Rattle.calls.specs.Tables.{wrong_length, label_in, labels_in, predecessors_in}
use Rattle.calls.specs.Routes.{node_outside, malformed, is_paused, ShortestTable, not_shortest, table_refusals, route_to, found_route, route_call, route_answer}
use Rattle.calls.specs.Routes.{TableKnown}
use Rattle.calls.proofs.Inputs.{by_input, answered_not, sheet_accepted}

-- the number of a refusal; other answers come after all of them
abbrev rank : Answer → ℕ
rank (refused r) = number_of r
rank accepted = 26
rank ended = 26
rank paused = 26
rank (route n) = 26
rank no_route = 26
rank (written n) = 26

answered_rank : (a : Answer) → is_refused a ≡ false → 24 < rank a
answered_rank accepted e = omega arith
answered_rank ended e = omega arith
answered_rank paused e = omega arith
answered_rank (route n) e = omega arith
answered_rank no_route e = omega arith
answered_rank (written n) e = omega arith
answered_rank (refused r) e = absurd (true≢false e)

-- the refusals of a route, those of the sheet left out
unfoldable later : Bool → Bool → Bool → Bool → Bool → Answer → Answer
later outside long bad unfinished wrong a =
    cond outside (refused (input 15))
    (cond long (refused (state 21)) (cond bad (refused (state 22)) (cond unfinished (refused (state 23)) (cond wrong (refused (state 24)) a))))

-- 24 is answered, and not by what follows: it applies
later_24 : (o l m u w : Bool) (a : Answer) → rank (later o l m u w a) ≡ 24 → rank a ≢ 24 → w ≡ true
unfolding later
later_24 true l m u w a e n = absurd (omega arith)
later_24 false true m u w a e n = absurd (omega arith)
later_24 false false true u w a e n = absurd (omega arith)
later_24 false false false true w a e n = absurd (omega arith)
later_24 false false false false true a e n = refl
later_24 false false false false false a e n = absurd (n e)

-- an answer past 24: it does not apply
later_past : (o l m u w : Bool) (a : Answer) → 24 < rank (later o l m u w a) → w ≡ false
unfolding later
later_past true l m u w a p = absurd (omega arith)
later_past false true m u w a p = absurd (omega arith)
later_past false false true u w a p = absurd (omega arith)
later_past false false false true w a p = absurd (omega arith)
later_past false false false false true a p = absurd (omega arith)
later_past false false false false false a p = refl

module _ (b table : List ℕ) where
  -- For an accepted sheet 24 does not apply just where the table is shortest.
  pub shortest_agrees : Accepted b → (not_shortest b table ≡ false) ↔ ShortestTable b table
  unfolding not_shortest
  shortest_agrees ok =
      let good = (accepted_well_formed b ok).graph in (
        λ e. (for_sheet b).0 (test_shortest (graph_of b) good (labels_in (node_count b) table) (predecessors_in (node_count b) table) (not-false _ e)),
        λ s. ap not (shortest_test (graph_of b) good (labels_in (node_count b) table) (predecessors_in (node_count b) table) ((for_sheet b).1 s)),
      )

  module _ (node : ℕ) (buffer : List ℕ) where
    -- the answer is the sheet's refusal, or the later ones decide
    answer_staged : route_answer b table node buffer
        ≡ lowest (refusals b)
        (lowest (input 15 when node_outside b node ∷ state 21 when wrong_length b table ∷ table_refusals b table) (found_route b table node buffer))
    unfolding route_answer
    answer_staged = lowest_append (refusals b) _ (found_route b table node buffer)

    pub sheet_stops : (r : Refusal) → judgement b ≡ refused r → route_answer b table node buffer ≡ refused r
    unfolding judgement_by
    sheet_stops r e = answer_staged ∙ lowest_stop (refusals b) _ r e

    pub after_sheet : Accepted b → route_answer b table node buffer
        ≡ lowest (input 15 when node_outside b node ∷ state 21 when wrong_length b table ∷ table_refusals b table) (found_route b table node buffer)
    unfolding judgement_by
    after_sheet ok = answer_staged ∙ lowest_clear (refusals b) _ ok.judged

    as_later : Accepted b → route_answer b table node buffer
        ≡ later (node_outside b node) (wrong_length b table) (malformed b table) (is_paused table) (not_shortest b table) (found_route b table node buffer)
    unfolding table_refusals later
    as_later ok = after_sheet ok

    -- a search for a route does not answer 24
    found_past : rank (found_route b table node buffer) ≢ 24
    unfolding found_route
    found_past = by (eqb (label_in table node) top) (ltb (length buffer) (length (route_to b table node)))
      where
        by : (u s : Bool) → rank (if u then no_route else cond s (refused (state 25)) (route (length (route_to b table node)))) ≢ 24
        by true s e = omega arith
        by false true e = omega arith
        by false false e = omega arith

    -- the answer does not blame the input: the sheet is accepted
    accepted_sheet : by_input (route_answer b table node buffer) ≡ false → Accepted b
    unfolding route_answer
    accepted_sheet p = sheet_accepted b (route_call b table node buffer) p

    past_right : by_input (route_answer b table node buffer) ≡ false → 24 < rank (route_answer b table node buffer) → ShortestTable b table
    past_right i p =
        let ok = accepted_sheet i in
        (shortest_agrees ok).0 (later_past _ _ _ _ _ _ (rw (as_later ok) at p))

    -- What the answer says of the table holds of it.
    pub table_known : TableKnown b table (route_answer b table node buffer)
    table_known = record {
      wrong = λ e s.
          let ok = accepted_sheet (ap by_input e) in
          let applies = later_24 _ _ _ _ _ _ (ap rank (sym (as_later ok) ∙ e)) found_past in
          true≢false (sym applies ∙ (shortest_agrees ok).1 s);
      right = λ e. past_right (answered_not (route_answer b table node buffer) e) (answered_rank (route_answer b table node buffer) e);
      right_too = λ e. past_right (ap by_input e) (rw e (omega arith));
    }
