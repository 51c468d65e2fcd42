-- Every table that a run of an accepted sheet leaves, in either form, says what its rounds have reached, with small counts and labels, and where it is left as
-- ended it is shortest, and shows as much work as request 2026-03 says; and the run to its end has ended. So every run that answers 'ended' leaves a table that
-- is shortest.
use Prim.Native.Nat.{ℕ, ◌^◌, ◌<◌}
use mathlib.Core.Bool.{Bool, true, false}
use mathlib.Core.Path.{◌≡◌, refl, sym, ap, subst, ◌∙◌}
use mathlib.Core.Logic.{⊎_elim}
use mathlib.Core.List.{List}
use native.Mathlib.Omega.{arith}
use lib.ListN.{length}
use Rattle.indices.specs.Columns.{at}
use Rattle.indices.proofs.Steps.{by_truth}
use Rattle.sheet.specs.Limits.{most_arcs_each_way}
use Rattle.sheet.specs.Sections.{node_count, arc_count}
use Rattle.answer.specs.Answer.{ended}
use Rattle.answer.specs.Codes.{code_of}
use Rattle.judgement.specs.Judgement.{AcceptedBy, Accepted}
use Rattle.procedure.specs.OfSheet.{graph_of, division_of, spans_of}
use Rattle.procedure.specs.Procedure.{enough_rounds, final}
use Rattle.procedure.specs.Table.{key_words}
use Rattle.theory_shortest.specs.WellFormed.{WellFormed}
use Rattle.theory_shortest.proofs.WellFormed.{accepted_well_formed}
use Rattle.theory.proofs.Levels.{after_levels}
use Rattle.theory.proofs.Final.{few_each_way, after_shape, after_sound, after_small, final_ended}
use Rattle.theory.proofs.SpansOne.{spans_one_work}
use Rattle.theory.proofs.Flat.{flat_work}
use Rattle.calls.specs.Tables.{table_length, wrong_length}
use Rattle.calls.specs.Runs.{state_after, ended_after, run_answer, run_table, long_run_table, filled_table, table_after, Delivered, DeliveredLong}
use Rattle.calls.specs.Routes.{ShortestTable}
use Rattle.calls.proofs.LongReading.{in_front, key_in}
use Rattle.calls.proofs.Work.{shows_work}
use Rattle.calls.proofs.Outcome.{says_ended, right_length, refused_table, made, filled_usual, filled_long}
use Rattle.theory_calls.specs.Tabled.{Tabled}
use Rattle.theory_calls.proofs.Formed.{each_count, usual_long, said_status, said_counts, said_levels, said_updates, said_unused}
use Rattle.theory_calls.proofs.Formed.{said_labels, said_predecessors, said_bounded, said_shortest}

module _ (b : List ℕ) {retired : Bool} (ok : AcceptedBy retired b) where
  pub well : WellFormed most_arcs_each_way (graph_of b) (division_of b) (spans_of b)
  well = accepted_well_formed b ok

  module _ (k : ℕ) where
    pub run_tabled : Tabled b (state_after b k)
    run_tabled = record {
      shape = after_shape well k;
      sound = after_sound well k;
      levelled = after_levels (graph_of b) well.division (spans_of b) k;
      small = after_small well few_each_way k;
    }

    -- A TABLE with the usual words of the run's delivers.
    pub usual_delivered : (table : List ℕ) → ((i : ℕ) → i < table_length (node_count b) → at table i ≡ at (run_table b k) i) → Delivered b k table
    unfolding run_table
    usual_delivered table same =
        let s = state_after b k in
        let counted = said_counts b ok s run_tabled table same in
        let labelled = said_labels b ok s run_tabled table same in
        let bounded = said_bounded b ok s run_tabled table same in
        let status = said_status b ok s run_tabled table same in
        record {
          status = status;
          halves = counted;
          levels = said_levels b ok s run_tabled table same;
          updates = said_updates b ok s run_tabled table same;
          labels = labelled;
          predecessors = said_predecessors b ok s run_tabled table same;
          small = each_count s run_tabled.levelled.fifteen (2 ^ 56) run_tabled.small;
          unused = said_unused b ok s run_tabled table same;
          bounded = bounded;
          shortest = said_shortest b ok s run_tabled table same;
          work = shows_work b ok table s counted labelled bounded (ended_after b k) status
              (λ over one. spans_one_work well one k over) (λ over leaves. flat_work well leaves k over);
        }

    pub delivered : Delivered b k (run_table b k)
    delivered = usual_delivered (run_table b k) (λ i l. refl)

    pub run_long : length (run_table b k) ≡ table_length (node_count b)
    unfolding run_table
    run_long = usual_long b ok (state_after b k) run_tabled

    -- request 2026-06: the longer table has the usual words in front, and behind them a word for each arc
    pub long_usual : (i : ℕ) → i < table_length (node_count b) → at (long_run_table b k) i ≡ at (run_table b k) i
    unfolding long_run_table
    long_usual = in_front (node_count b) (run_table b k) run_long (key_words (state_after b k).queues.own (arc_count b))

    pub delivered_long : DeliveredLong b k (long_run_table b k)
    unfolding long_run_table
    delivered_long = record {
      usual = usual_delivered (long_run_table b k) long_usual;
      keys = key_in (node_count b) (run_table b k) run_long (state_after b k).queues.own (arc_count b);
    }

  -- the run to its end has ended
  pub run_ends : ended_after b enough_rounds ≡ true
  unfolding final
  run_ends = final_ended well few_each_way

  -- SHORTEST: the table that the run to its end leaves, and that of every run that answers 'ended'
  pub run_shortest : ShortestTable b (run_table b enough_rounds)
  run_shortest = (delivered enough_rounds).shortest ((delivered enough_rounds).status ∙ rw run_ends)

module _ (b : List ℕ) (ok : Accepted b) (k : ℕ) (lent : List ℕ) where
  form_shortest : ended_after b k ≡ true → wrong_length b lent ≡ false → ShortestTable b (filled_table b k lent)
  form_shortest over right =
      ⊎_elim
      (λ usual. subst (ShortestTable b) (sym (filled_usual b k lent usual)) ((delivered b ok k).shortest ((delivered b ok k).status ∙ rw over)))
      (λ long.
      let told = (delivered_long b ok k).usual in
      subst (ShortestTable b) (sym (filled_long b k lent long)) (told.shortest (told.status ∙ rw over)))
      (right_length b lent right)

  pub ended_shortest : run_answer b k lent ≡ ended → ShortestTable b (table_after b k lent)
  ended_shortest e =
      by_truth (wrong_length b lent)
      (λ wrong. absurd (let codes = ap code_of ((refused_table b k lent ok wrong).0 ∙ e) in omega (arith, codes)))
      (λ right.
      let done = made b k lent ok right in
      subst (ShortestTable b) done.1 (form_shortest (says_ended (ended_after b k) (done.0 ∙ e)) right))
