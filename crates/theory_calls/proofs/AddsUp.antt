-- Request 2026-02: "The table's inner count gives way to fifteen". Of every run the fifteen add up to the single count that its table had, and all other words
-- are the same: the procedure with one count is today's with the fifteen added up, and their sum has two words as each of them has.
use Prim.Native.Nat.{ℕ, ◌+◌, ◌^◌, ◌≤◌, ◌<◌}
use mathlib.Core.Path.{◌≡◌, refl, sym, ◌∙◌}
use mathlib.Core.List.{List, [], ◌∷◌}
use native.Mathlib.Omega.{arith}
use lib.ListN.{length, drop}
use Rattle.indices.specs.Columns.{at}
use Rattle.indices.specs.Tests.{total}
use Rattle.indices.proofs.Totals.{total_same, total_le}
use Rattle.sheet.specs.Limits.{most_spans}
use Rattle.sheet.specs.Sections.{node_count}
use Rattle.judgement.specs.Judgement.{Accepted}
use Rattle.procedure.specs.Division.{height}
use Rattle.procedure.specs.OfSheet.{graph_of, division_of, spans_of}
use Rattle.procedure.specs.State.{State, counts}
use Rattle.procedure.specs.Procedure.{alive, ended}
use Rattle.procedure.specs.Table.{inner_place, updates_place, header_length, node_words, table_of}
use Rattle.theory.proofs.Final.{few_each_way, after_inner_low}
use Rattle.theory.proofs.Joined.{joined, after_joined}
use Rattle.calls.specs.Tables.{count_in}
use Rattle.calls.specs.Runs.{state_after, ended_after, run_table}
use Rattle.calls.specs.AsBefore.{state_before, table_before, AddsUp}
use Rattle.calls.proofs.Reading.{words_all, behind_header, count_in_lem}
use Rattle.calls.proofs.Counts.{counts_length_lem, update_count}
use Rattle.theory_calls.proofs.Delivered.{well, run_tabled, delivered}

module _ (b : List ℕ) (ok : Accepted b) (k : ℕ) where
  abbrev s : State
  s = state_after b k

  fifteen : length s.inner ≡ most_spans
  fifteen = (run_tabled b ok k).levelled.fifteen

  abbrev sum : ℕ
  sum = total (at s.inner) most_spans

  before : state_before b k ≡ joined s
  before =
      let few : height (division_of b) 0 ≤ most_spans = omega (arith, (well b ok).attention.few, (well b ok).attention.each_height) in
      after_joined (graph_of b) (well b ok).division (spans_of b) few k

  same_ended : ended (graph_of b) (division_of b) (joined s) ≡ ended_after b k
  unfolding ended alive
  same_ended = refl

  -- the old table's counts, by today's state, and the old table
  abbrev four : List ℕ
  four = s.rounds ∷ s.leaves ∷ sum ∷ s.queues.updates ∷ []

  old_table : table_before b k ≡ table_of (ended_after b k) four s.labels s.predecessors (node_count b)
  unfolding table_before
  old_table = rw (before, same_ended)

  old_count : (i : ℕ) → i < 4 → at four i < 2 ^ 56 → count_in (table_before b k) i ≡ at four i
  old_count i l small = rw old_table (count_in_lem (ended_after b k) four s.labels s.predecessors (node_count b) i l small)

  sum_small : sum < 2 ^ 56
  sum_small =
      let each = after_inner_low (well b ok) few_each_way k in
      omega (arith, total_le (at s.inner) most_spans (2 ^ 50) (λ i _. let l : at s.inner i ≤ 2 ^ 50 = omega (arith, each i) in l))

  -- the fifteen of the table
  summed : total (λ i. count_in (run_table b k) (inner_place + i)) most_spans ≡ sum
  summed = total_same (at s.inner) (λ i. count_in (run_table b k) (inner_place + i)) most_spans (delivered b ok k).levels

  first_word : at (table_before b k) 0 ≡ at (run_table b k) 0
  unfolding run_table table_of
  first_word = rw old_table

  node_words_lem : drop header_length (run_table b k) ≡ node_words s.labels s.predecessors (node_count b)
  unfolding run_table
  node_words_lem = rw (counts_length_lem s fifteen) at (behind_header (ended_after b k) (counts s) s.labels s.predecessors (node_count b))

  pub adds_up : AddsUp b k
  adds_up =
      let D = delivered b ok k in
      let small = D.small in
      let same = D.halves in
      let updated = update_count s fifteen in
      record {
        long = rw old_table (words_all (ended_after b k) four s.labels s.predecessors (node_count b));
        status = first_word;
        rounds = old_count 0 (omega arith) (small 0 (omega arith)) ∙ sym (same 0 (omega arith));
        leaves = old_count 1 (omega arith) (small 1 (omega arith)) ∙ sym (same 1 (omega arith));
        inner = old_count 2 (omega arith) sum_small ∙ sym summed;
        updates =
            old_count 3 (omega arith) (rw updated at (small updates_place (omega arith))) ∙ sym updated ∙ sym (same updates_place (omega arith));
        nodes = rw old_table (behind_header (ended_after b k) four s.labels s.predecessors (node_count b)) ∙ sym node_words_lem;
      }
