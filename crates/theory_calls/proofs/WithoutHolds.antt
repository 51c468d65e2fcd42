-- Request 2026-08: a sheet without holds is answered in every call as before. No hold is charged, so an arc takes its length and the graph is the one of
-- before; 34 applies only where 9 does, and 2 just where the sections are out of order.
use Rattle.std.specs.Prelude.{if◌then◌else◌}
use Prim.Native.Nat.{ℕ, ◌%◌}
use mathlib.Core.Bool.{true, false, not, or-false}
use mathlib.Core.List.{List, [], ◌∷◌, ◌++◌}
use mathlib.Core.Path.{◌≡◌, refl, sym, ap, ◌∙◌}
use native.Mathlib.Omega.{arith}
use borrow.Author.Tests.{eq-eqb, eqb-true, ltb-true, not-false}
use lib.ListN.{length, drop}
use lib.Dec.{ltb, eqb}
use Rattle.indices.proofs.Columns.{column_ext}
use Rattle.indices.proofs.Tests.{or_left, or_then, any_ext}
use Rattle.sheet.specs.Limits.{most_bytes_before, most_length, most_arcs_each_way}
use Rattle.sheet.specs.Sections.{node_count, span_count, hold_count, arc_count, region_words}
use Rattle.sheet.specs.Arcs.{arc_length, taken_length}
use Rattle.sheet.proofs.Bounds.{region_words_lem, regions_inside}
use Rattle.sheet.proofs.Holds.{taken_none}
use Rattle.answer.specs.Answer.{input, Answer, accepted, refused, ◌when◌, is_refused, lowest}
use Rattle.answer.proofs.Lowest.{lowest_append, lowest_twice}
use Rattle.judgement.specs.Form.{wrong_size, wrong_size_under, wrong_sections, wrong_holds, out_of_order, bit_set}
use Rattle.judgement.specs.Arcs.{ends_outside, too_long, lengths_outside, too_long_held, holds_outside, too_many_at_node, self_arcs}
use Rattle.judgement.specs.Judgement.{form_refusals, count_refusals, arc_refusals, division_refusals, refusals_by, refusals, judgement_by, judgement, Accepted}
use Rattle.judgement.proofs.Accepted.{front_there, few_spans, few_arcs, few_region_words}
use Rattle.procedure.specs.Graph.{Graph}
use Rattle.procedure.specs.OfSheet.{graph_of}
use Rattle.procedure.specs.Procedure.{enough_rounds}
use Rattle.theory_shortest.proofs.Travel.{without_holds}
use Rattle.calls.specs.Calls.{Call, call_answer, lent_after}
use Rattle.calls.specs.Tables.{table_length}
use Rattle.calls.specs.Runs.{run_table, long_run_table, filled_table, run_call, run_answer, table_after}
use Rattle.calls.specs.Routes.{not_shortest, table_refusals, route_call, route_answer, buffer_after}
use Rattle.calls.specs.Canonical.{canonical_call, canonical_answer, out_after}
use Rattle.calls.specs.Resume.{not_possible, resumed, resumed_table, resume_call, resume_answer, resume_table}
use Rattle.calls.specs.AsBefore.{
  refusals_unheld,
  graph_unheld,
  run_table_on,
  run_call_on,
  route_call_on,
  resume_call_on,
  answer_unheld,
  left_unheld,
  SameUnheld,
  Unheld,
}
use Rattle.listing.specs.Listing.{listing_of}
use Rattle.listing.specs.Printed.{text_of, end_table, printed, words_after}

-- TODAY'S CALLS are those on the graph of the sheet
module _ (b : List ℕ) where
  pub run_on : (k : ℕ) (table : List ℕ) → run_call b k table ≡ run_call_on (graph_of b) b k table
  unfolding run_table long_run_table filled_table
  run_on k table = refl

  pub route_on : (table : List ℕ) (node : ℕ) (buffer : List ℕ) → route_call b table node buffer ≡ route_call_on (graph_of b) b table node buffer
  unfolding not_shortest table_refusals
  route_on table node buffer = refl

  pub resume_on : (table : List ℕ) (k : ℕ) → resume_call b table k ≡ resume_call_on (graph_of b) b table k
  unfolding not_possible resumed resumed_table
  resume_on table k = refl

-- WITHOUT HOLDS
module _ (b : List ℕ) (none : hold_count b ≡ 0) where
  -- the number of holds is right, so 2 is a matter of the sections
  same_order : out_of_order b ≡ wrong_sections b
  unfolding out_of_order wrong_holds
  same_order = rw (eq-eqb (hold_count b) 0 none) (or-false (wrong_sections b))

  -- 34 applies just where 9 does
  same_lengths : holds_outside b ≡ lengths_outside b
  unfolding holds_outside lengths_outside
  same_lengths = any_ext (too_long_held b) (too_long b) (arc_count b) (λ a l. ap (ltb most_length) (taken_none b none a))

  same_graph : graph_of b ≡ graph_unheld b
  unfolding graph_of
  same_graph = ap (λ (lengths : List ℕ). record {
    nodes = (graph_unheld b).nodes;
    source = (graph_unheld b).source;
    tails = (graph_unheld b).tails;
    heads = (graph_unheld b).heads;
    lengths = lengths;
  }) (column_ext (arc_count b) (taken_length b) (arc_length b) (λ a l. taken_none b none a))

  -- so, where 1 applies as before, does the lowest of all
  module _ (size : wrong_size b ≡ wrong_size_under most_bytes_before b) where
    same_lowest : (answer : Answer) → lowest (refusals b) answer ≡ lowest (refusals_unheld b) answer
    unfolding refusals_by refusals_unheld form_refusals count_refusals arc_refusals
    same_lowest answer =
        rw (size, same_order, same_lengths)
        (lowest_twice
        (input 10 when too_many_at_node most_arcs_each_way b ∷ input 35 when self_arcs b ∷ division_refusals (region_words b) (arc_count b) (span_count b))
        (input 9)
        (input 34) (lengths_outside b) answer
        (input 1 when wrong_size_under most_bytes_before b ∷ input 2 when wrong_sections b ∷ input 3 when bit_set b ∷ count_refusals b
        ++ (input 8 when ends_outside b ∷ [])))

    same_call : (call : Call) → call_answer (refusals b) call ≡ answer_unheld b call
    same_call call =
        let rest = lowest call.later call.good in
        lowest_append (refusals b) call.later call.good ∙ same_lowest rest ∙ sym (lowest_append (refusals_unheld b) call.later call.good)

    -- a call of today, as a function of the graph that it works on
    same_on : (call : Graph → Call) {today : Call} → today ≡ call (graph_of b)
        → (call_answer (refusals b) today ≡ answer_unheld b (call (graph_unheld b))) × (lent_after (refusals b) today ≡ left_unheld b (call (graph_unheld b)))
    same_on call e =
        let before = call (graph_unheld b) in
        let same = e ∙ ap call same_graph in
        (ap (call_answer (refusals b)) same ∙ same_call before, ap (lent_after (refusals b)) same ∙ ap before.leaves (same_call before))

    runs : (k : ℕ) (table : List ℕ) → let call = run_call_on (graph_unheld b) b k table in
        (run_answer b k table ≡ answer_unheld b call) × (table_after b k table ≡ left_unheld b call)
    unfolding run_answer table_after
    runs k table = same_on (λ g. run_call_on g b k table) (run_on b k table)

    routes : (table : List ℕ) (node : ℕ) (buffer : List ℕ) → let call = route_call_on (graph_unheld b) b table node buffer in
        (route_answer b table node buffer ≡ answer_unheld b call) × (buffer_after b table node buffer ≡ left_unheld b call)
    unfolding route_answer buffer_after
    routes table node buffer = same_on (λ g. route_call_on g b table node buffer) (route_on b table node buffer)

    resumes : (table : List ℕ) (k : ℕ) → let call = resume_call_on (graph_unheld b) b table k in
        (resume_answer b table k ≡ answer_unheld b call) × (resume_table b table k ≡ left_unheld b call)
    unfolding resume_answer resume_table
    resumes table k = same_on (λ g. resume_call_on g b table k) (resume_on b table k)

    copies : (out : List ℕ) → let call = canonical_call b out in (canonical_answer b out ≡ answer_unheld b call) × (out_after b out ≡ left_unheld b call)
    unfolding canonical_answer out_after
    copies out = same_on (λ g. canonical_call b out) refl

    judged : judgement b ≡ lowest (refusals_unheld b) accepted
    unfolding judgement_by
    judged = same_lowest accepted

    same_unheld : SameUnheld b
    same_unheld = record { judged = judged; runs = runs; routes = routes; resumes = resumes; copies = copies }

    -- what is printed, and the words that a report leaves, by the table of before
    same_table : end_table b ≡ run_table_on (graph_unheld b) b enough_rounds
    unfolding run_table
    same_table = ap (λ (g : Graph). run_table_on g b enough_rounds) same_graph

    pub printed_unheld : printed b
        ≡ text_of (lowest (refusals_unheld b) accepted) (listing_of (run_table_on (graph_unheld b) b enough_rounds) (span_count b) (node_count b))
    unfolding printed
    printed_unheld = rw (judged, same_table)

    pub words_unheld : (table : List ℕ) → words_after b table
        ≡ (if is_refused (lowest (refusals_unheld b) accepted) then table
        else run_table_on (graph_unheld b) b enough_rounds ++ drop (table_length (node_count b)) table)
    unfolding words_after
    words_unheld table = rw (judged, same_table)

  -- whose byte count the old limit alone refuses: 1 is the first that is looked at, and whole words without holds are at most 8,207 where the sheet is accepted
  none_between : wrong_size b ≡ false → wrong_size_under most_bytes_before b ≡ true → (lowest (refusals_unheld b) accepted ≡ refused (input 1))
      × (Accepted b → ⊥)
  unfolding wrong_size refusals_unheld
  none_between fits over = (
    rw over,
    λ ok.
        let two = front_there b ok in
        let part = not (eqb (length b % 4) 0) in
        let whole = eqb-true (length b % 4) 0 (not-false _ (or_left part _ fits)) in
        let long = ltb-true most_bytes_before (length b) (or_then part _ over (or_left part _ fits)) in
        omega (arith, none, long, whole, region_words_lem b two, regions_inside b two, few_spans b ok, few_arcs b ok, few_region_words b ok),
  )

  -- Every call on it answers and leaves what it did before.
  pub unheld : Unheld b
  unheld = record {
    place = omega arith;
    lengths = without_holds b none;
    same = same_unheld;
    between = none_between;
  }
