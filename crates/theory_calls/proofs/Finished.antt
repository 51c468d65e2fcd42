-- A table that a run has left as ended, in either form, is never refused with 21 to 24: the route reader answers by its search for the route.
use Prim.Native.Nat.{ℕ, ◌<◌}
use mathlib.Core.Bool.{true, false}
use mathlib.Core.Path.{◌≡◌, refl, ◌∙◌}
use mathlib.Core.List.{List}
use borrow.Author.Tests.{lt-leb}
use Rattle.indices.specs.Columns.{at}
use Rattle.sheet.specs.Sections.{node_count, arc_count}
use Rattle.judgement.specs.Judgement.{Accepted}
use Rattle.calls.specs.Tables.{table_length, wrong_length, status_in}
use Rattle.calls.specs.Runs.{state_after, ended_after, run_table, long_run_table}
use Rattle.calls.specs.Routes.{node_outside, wrong_keys, malformed, is_paused, not_shortest, table_refusals, found_route, route_answer}
use Rattle.calls.proofs.LongReading.{long_length_lem, keys_right, no_keys_right}
use Rattle.calls.proofs.Outcome.{usual_right, long_right}
use Rattle.calls.proofs.Routes.{shortest_agrees, after_sheet}
use Rattle.theory_calls.proofs.Formed.{well_formed_table}
use Rattle.theory_calls.proofs.Delivered.{run_tabled, usual_delivered, run_long, long_usual}

module _ (b : List ℕ) (ok : Accepted b) (k : ℕ) (over : ended_after b k ≡ true) where
  -- what the route reader answers for each node of the sheet is what its search for the route gives
  abbrev Read : List ℕ → Type 0
  Read table = (node : ℕ) (buffer : List ℕ) → node < node_count b → route_answer b table node buffer ≡ found_route b table node buffer

  -- A TABLE with the usual words of the run's, and no wrong length or key word
  module _ (table : List ℕ) (same : (i : ℕ) → i < table_length (node_count b) → at table i ≡ at (run_table b k) i) (room : wrong_length b table ≡ false)
      (keys : wrong_keys b table ≡ false) where
    right_form : malformed b table ≡ false
    unfolding run_table
    right_form = well_formed_table b ok (state_after b k) (run_tabled b ok k) table same keys

    status_one : status_in table ≡ 1
    status_one = (usual_delivered b ok k table same).status ∙ rw over

    not_paused : is_paused table ≡ false
    unfolding is_paused
    not_paused = rw status_one

    is_shortest : not_shortest b table ≡ false
    is_shortest = (shortest_agrees b table ok).1 ((usual_delivered b ok k table same).shortest status_one)

    -- "22", "23" and "24" do not apply, nor does 21
    either_read : Read table
    unfolding table_refusals node_outside
    either_read node buffer l =
        after_sheet b table node buffer ok ∙ rw (lt-leb (node_count b) node l, room, right_form, not_paused, is_shortest)

  pub finished_read : Read (run_table b k)
  finished_read =
      let long = run_long b ok k in
      either_read (run_table b k) (λ i l. refl) (usual_right b (run_table b k) long) (no_keys_right b (run_table b k) long)

  -- request 2026-06: "the route reader takes either"
  pub finished_read_long : Read (long_run_table b k)
  unfolding long_run_table
  finished_read_long =
      let own = (state_after b k).queues.own in
      let long = run_long b ok k in
      either_read (long_run_table b k) (long_usual b ok k)
      (long_right b (long_run_table b k) (long_length_lem (node_count b) (run_table b k) long own (arc_count b)))
      (keys_right b (run_table b k) long own (arc_count b))
