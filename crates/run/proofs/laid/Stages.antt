-- From the start to the table: so many rounds from the start are the state after them, a table can hold it, and it is left in the form lent.
use Prim.Native.Nat.{ℕ, ◌≤◌}
use mathlib.Core.Bool.{Bool, false}
use mathlib.Core.Path.{◌≡◌, sym, subst, ◌∙◌}
use mathlib.Core.List.{List}
use mathlib.Core.Logic.{⊎_elim}
use native.Mathlib.Omega.{arith}
use lib.ListN.{length}
use Rattle.sheet.specs.Sections.{node_count, arc_count}
use Rattle.judgement.specs.Judgement.{Accepted}
use Rattle.procedure.specs.OfSheet.{graph_of, division_of, spans_of}
use Rattle.procedure.specs.State.{State}
use Rattle.procedure.specs.Procedure.{start, more}
use Rattle.calls.specs.Tables.{table_length, long_length, wrong_length}
use Rattle.calls.specs.Runs.{run_table}
use Rattle.calls.proofs.Outcome.{right_length, right_room, filled_words}
use Rattle.theory_calls.specs.Tabled.{Tabled}
use Rattle.theory_calls.proofs.Delivered.{run_tabled}
use Rattle.run_arrays.specs.declared.arrays.Layout.{Layout}
use Rattle.run_arrays.specs.declared.arrays.Run.{Run}
use Rattle.run_arrays.specs.States.{Represents}
use Rattle.run_engine.proofs.rounds.Runs.{after_start}
use Rattle.run_table.specs.Finish.{Finishing, Finished}
use Rattle.run.specs.Outcome.{Outcome}

module _ (b : List ℕ) (ok : Accepted b) {n : ℕ} (all : n ≡ node_count b) (table : List ℕ) (right : wrong_length b table ≡ false) where
  no_longer : length table ≤ long_length (node_count b) (arc_count b)
  no_longer =
      ⊎_elim (λ (u : length table ≡ table_length (node_count b)). omega arith)
      (λ (l : length table ≡ long_length (node_count b) (arc_count b)). omega arith) (right_length b table right)

  module _ (limit : ℕ) where
    -- the start, and what it leads to
    pub finishing : {layout : Layout} {run : Run}
        → Represents (graph_of b) (division_of b) (spans_of b) (start (graph_of b) (division_of b)) layout run
        → Finishing b (start (graph_of b) (division_of b)) layout run limit n (length table)
    finishing R = record {
      accepted = ok;
      represents = R;
      tabled = subst (Tabled b) (sym (after_start (graph_of b) (division_of b) (spans_of b) limit)) (run_tabled b ok limit);
      all = all;
      room = omega (arith, right_room b table right, all);
      few = omega (arith, no_longer, all);
    }

    pub outcome : {hasEnded : Bool} {table' : List ℕ}
        → Finished b (more (graph_of b) (division_of b) (spans_of b) limit (start (graph_of b) (division_of b))) (length table) hasEnded table'
        → Outcome b limit table hasEnded table'
    unfolding run_table
    outcome {hasEnded} {table'} F =
        let G = subst (λ (s : State). Finished b s (length table) hasEnded table') (after_start (graph_of b) (division_of b) (spans_of b) limit) F in
        record { status = G.status; words = G.written ∙ filled_words b limit table right }
