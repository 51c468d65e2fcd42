-- Tables that rounds more leave: they are possible states again, their counts stay bounded, and with unchanged spans rounds done in parts equal rounds done
-- together, since the state read back is the state that was written.
use Rattle.std.specs.Prelude.{if◌then◌else◌}
use Prim.Native.Nat.{ℕ, ◌+◌, ◌^◌}
use mathlib.Core.Bool.{true, false}
use mathlib.Core.Path.{◌≡◌, sym, ap, ◌∙◌}
use mathlib.Core.Logic.{◌↔◌}
use mathlib.Core.List.{List}
use native.Mathlib.Omega.{arith}
use lib.ListN.{get_or-eq_default}
use Rattle.indices.specs.Columns.{column}
use Rattle.indices.proofs.Columns.{length_column, at_column}
use Rattle.indices.proofs.Steps.{by_order}
use Rattle.sheet.specs.Limits.{most_spans, most_arcs_each_way}
use Rattle.sheet.specs.Sections.{span_count}
use Rattle.answer.specs.Answer.{ended as isEnded, paused as is_paused, is_refused}
use Rattle.judgement.specs.Judgement.{Accepted}
use Rattle.procedure.specs.Division.{height}
use Rattle.procedure.specs.OfSheet.{graph_of, division_of, spans_of}
use Rattle.procedure.specs.State.{State}
use Rattle.procedure.specs.Procedure.{ended, more}
use Rattle.procedure.specs.Table.{inner_place, updates_place}
use Rattle.procedure.proofs.OfSheet.{spans_count}
use Rattle.theory_shortest.specs.WellFormed.{WellFormed}
use Rattle.theory_shortest.proofs.WellFormed.{accepted_well_formed}
use Rattle.theory.specs.Counts.{Below, Small}
use Rattle.theory.proofs.Levels.{more_levels}
use Rattle.theory.proofs.Counts.{more_held}
use Rattle.theory.proofs.Grows.{below_wider}
use Rattle.theory.proofs.Final.{few_each_way, more_in_parts, rounds_in_parts, more_below, after_low}
use Rattle.theory_shortest.proofs.Travel.{for_sheet}
use Rattle.theory.proofs.Distances.{sound_shortest}
use Rattle.calls.specs.Tables.{status_in, count_in}
use Rattle.calls.specs.Runs.{state_after, long_run_table}
use Rattle.calls.specs.LongTables.{long_table, state_in}
use Rattle.calls.specs.Possible.{Possible}
use Rattle.calls.specs.Resume.{resumed, resumed_table, resume_answer, resume_table, EndedShortest, Carried}
use Rattle.calls.specs.InParts.{Standing, CountsBelow}
use Rattle.calls.proofs.LongReading.{long_run, long_status}
use Rattle.calls.proofs.Possible.{test_possible}
use Rattle.calls.proofs.Resume.{standing_made, answered_standing}
use Rattle.theory_calls.specs.Tabled.{Tabled}
use Rattle.theory_calls.proofs.Formed.{each_count}
use Rattle.theory_calls.proofs.Delivered.{run_tabled}
use Rattle.theory_resume.proofs.Sounded.{possible_shape, possible_sound, possible_levels, possible_status}
use Rattle.theory_resume.proofs.ReadBack.{state_counts, count_said, read_back, tabled_standing, tabled_shortest}

-- a sheet has a span for each height
pub spans_heights : (b : List ℕ) → Accepted b → span_count b ≡ height (division_of b) 0
spans_heights b ok = sym (spans_count b) ∙ (accepted_well_formed b ok).attention.each_height

-- the counts of a table and those of the state that it stands for
module _ (b table : List ℕ) (n : ℕ) where
  pub counts_state : CountsBelow n table → Below n (state_in (graph_of b) (division_of b) table)
  unfolding state_in
  counts_state small =
      let f : ℕ → ℕ = λ i. count_in table (inner_place + i) in
      record {
        rounds = small 0 (omega arith);
        leaves = small 1 (omega arith);
        inner = λ i. by_order i most_spans
            (λ l. rw (at_column most_spans f i l) (small (inner_place + i) (omega arith)))
            (λ l. rw (get_or-eq_default (column most_spans f) 0 {n = i} (omega (arith, length_column most_spans f))) (omega (arith, small 0 (omega arith))));
        updates = small updates_place (omega arith);
      }

  pub state_small : Below n (state_in (graph_of b) (division_of b) table) → CountsBelow n table
  unfolding state_in
  state_small low i l =
      rw (← state_counts (graph_of b) (division_of b) table i l)
      (each_count (state_in (graph_of b) (division_of b) table) (length_column most_spans (λ i. count_in table (inner_place + i))) n low i l)

-- A TABLE THAT STANDS
module _ (b table : List ℕ) (S : Standing b table) where
  pub well : WellFormed most_arcs_each_way (graph_of b) (division_of b) (spans_of b)
  well = accepted_well_formed b S.accepted

  heights : span_count b ≡ height (division_of b) 0
  heights = spans_heights b S.accepted

  pub possible : Possible (graph_of b) (span_count b) table
  possible = test_possible well.graph (span_count b) table S.possible

  -- the state that it stands for
  abbrev pub before : State
  before = state_in (graph_of b) (division_of b) table

  -- "each count is below 2 to the power 55"
  pub before_tabled : Tabled b before
  before_tabled = record {
    shape = possible_shape well heights table possible;
    sound = possible_sound well heights table possible;
    levelled = possible_levels well heights table possible;
    small = below_wider (omega arith) (counts_state b table (2 ^ 55) possible.counts);
  }

  pub before_ended : (status_in table ≡ 1) ↔ (ended (graph_of b) (division_of b) before ≡ true)
  before_ended = possible_status well heights table possible

  -- in an ended table distances are shortest
  pub standing_shortest : EndedShortest b table
  unfolding state_in
  standing_shortest e = (for_sheet b).0 (sound_shortest well before before_tabled.shape before_tabled.sound (before_ended.0 e))

  module _ (k : ℕ) where
    -- THE STATE AFTER k ROUNDS MORE is sound, and its counts have grown by less than 2^54
    pub resumed_below : (n : ℕ) → CountsBelow n table → Below (n + 2 ^ 54) (resumed b table k)
    unfolding resumed
    resumed_below n small = more_below well few_each_way before before_tabled.shape before_tabled.sound k n (counts_state b table n small)

    -- so every count fits
    pub resumed_fits : Small (resumed b table k)
    resumed_fits = below_wider (omega arith) (resumed_below (2 ^ 55) possible.counts)

    pub resumed_tabled : Tabled b (resumed b table k)
    unfolding resumed
    resumed_tabled =
        let held = more_held well before before_tabled.shape before_tabled.sound k in
        record {
          shape = held.shape;
          sound = held.sound;
          levelled = more_levels (graph_of b) well.division (spans_of b) k before before_tabled.levelled;
          small = resumed_fits;
        }

    -- THE TABLE LEFT is its longer table,
    pub table_left : resume_table b table k ≡ long_table (graph_of b) (division_of b) (resumed b table k)
    unfolding resumed_table
    table_left = sym (standing_made b table k S).1

    -- stands for it,
    pub resumed_read : state_in (graph_of b) (division_of b) (resume_table b table k) ≡ resumed b table k
    resumed_read = ap (state_in (graph_of b) (division_of b)) table_left ∙ read_back b S.accepted (resumed b table k) resumed_tabled

    -- and can be resumed where its counts are below 2^55
    pub resumed_standing : Below (2 ^ 55) (resumed b table k) → Standing b (resume_table b table k)
    resumed_standing small = rw table_left (tabled_standing b S.accepted (resumed b table k) resumed_tabled small)

    pub carried : Carried b table k
    carried = record {
      status = ap status_in table_left ∙ long_status (graph_of b) (division_of b) (resumed b table k);
      state_left = resumed_read;
      small = each_count (resumed b table k) resumed_tabled.levelled.fifteen (2 ^ 56) resumed_fits;
      halves = rw table_left (count_said b S.accepted (resumed b table k) resumed_tabled);
      shortest = rw table_left (tabled_shortest b S.accepted (resumed b table k) resumed_tabled);
    }

    module _ (small : CountsBelow (2 ^ 54) table) where
      pub left_standing : Standing b (resume_table b table k)
      left_standing = resumed_standing (below_wider (omega arith) (resumed_below (2 ^ 54) small))

      -- ROUNDS DONE IN PARTS equal rounds done together, with unchanged spans
      resumed_again : (m : ℕ) → resumed b (resume_table b table k) m ≡ resumed b table (k + m)
      unfolding resumed
      resumed_again m =
          ap (more (graph_of b) (division_of b) (spans_of b) m) resumed_read ∙ sym (more_in_parts (graph_of b) (division_of b) (spans_of b) k m before)

      pub table_in_parts : (m : ℕ) → resume_table b (resume_table b table k) m ≡ resume_table b table (k + m)
      unfolding resumed_table
      table_in_parts m =
          sym (standing_made b (resume_table b table k) m left_standing).1
          ∙ ap (long_table (graph_of b) (division_of b)) (resumed_again m)
          ∙ (standing_made b table (k + m) S).1

      pub answer_in_parts : (m : ℕ) → resume_answer b (resume_table b table k) m ≡ resume_answer b table (k + m)
      answer_in_parts m =
          sym (standing_made b (resume_table b table k) m left_standing).0
          ∙ ap (λ (s : State). if ended (graph_of b) (division_of b) s then isEnded else is_paused) (resumed_again m)
          ∙ (standing_made b table (k + m) S).0

-- EVERY CALL that is not refused carries on.
pub answered_carried : (b table : List ℕ) (k : ℕ) → is_refused (resume_answer b table k) ≡ false → Carried b table k
answered_carried b table k e = carried b table (answered_standing b table k e) k

-- RUNS: every longer table of a run can be resumed, its counts are below 2^54, and the run goes on where it stopped
module _ (b : List ℕ) (ok : Accepted b) (k : ℕ) where
  low : Below (2 ^ 54) (state_after b k)
  low = after_low (accepted_well_formed b ok) few_each_way k

  pub run_standing : Standing b (long_run_table b k)
  run_standing = rw (long_run b k) (tabled_standing b ok (state_after b k) (run_tabled b ok k) (below_wider (omega arith) low))

  pub run_counts : CountsBelow (2 ^ 54) (long_run_table b k)
  run_counts i l =
      rw (long_run b k, count_said b ok (state_after b k) (run_tabled b ok k) i l)
      (each_count (state_after b k) (run_tabled b ok k).levelled.fifteen (2 ^ 54) low i l)

  -- the state read back from a run's table is the run's state
  run_read : state_in (graph_of b) (division_of b) (long_run_table b k) ≡ state_after b k
  run_read = rw (long_run b k) (read_back b ok (state_after b k) (run_tabled b ok k))

  pub run_resumed : (m : ℕ) → resume_table b (long_run_table b k) m ≡ long_run_table b (k + m)
  unfolding resumed
  run_resumed m =
      table_left b (long_run_table b k) run_standing m
      ∙ ap (λ (s : State). long_table (graph_of b) (division_of b) (more (graph_of b) (division_of b) (spans_of b) m s)) run_read
      ∙ ap (long_table (graph_of b) (division_of b)) (sym (rounds_in_parts (graph_of b) (division_of b) (spans_of b) k m))
      ∙ sym (long_run b (k + m))
