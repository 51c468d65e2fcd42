-- From a run that represents a state to its table: counts, labels and predecessors fit the usual words, and the key words are made of the own keys.
use Prim.Native.Nat.{ℕ, ◌-◌, ◌≤◌}
use mathlib.Core.Bool.{Bool}
use mathlib.Core.Path.{◌≡◌, sym, ap, subst, ◌∙◌}
use mathlib.Core.List.{List, [], ◌++◌, append-nil}
use native.Mathlib.Omega.{arith}
use borrow.Rule.Slice.PartMut.{mid_of, post_of, put_mid}
use lib.ListN.{length, take, drop, length-drop, drop_of_length-le}
use lib.Seq.{get_or-take, length_front, length-take-le, take_at}
use Rattle.indices.specs.Columns.{at}
use Rattle.indices.proofs.Columns.{column_ext}
use Rattle.sheet.specs.Sections.{node_count, arc_count}
use Rattle.judgement.specs.Judgement.{Accepted}
use Rattle.judgement.proofs.Accepted.{few_nodes, few_arcs}
use Rattle.procedure.specs.Graph.{arcs}
use Rattle.procedure.specs.OfSheet.{graph_of, division_of, spans_of}
use Rattle.procedure.specs.State.{State, counts}
use Rattle.procedure.specs.Procedure.{ended}
use Rattle.procedure.specs.Table.{table_of, key_word, key_words}
use Rattle.procedure.proofs.OfSheet.{graph_nodes, graph_arcs}
use Rattle.calls.specs.Tables.{table_length, long_length}
use Rattle.calls.proofs.Counts.{counts_length_lem}
use Rattle.theory_calls.specs.Tabled.{Tabled}
use Rattle.theory_calls.proofs.Formed.{each_count, all_labels, all_predecessors, each_label, each_predecessor}
use Rattle.run_counts.specs.Figures.{figures_in, counts_of}
use Rattle.run_arrays.specs.declared.arrays.Layout.{Layout}
use Rattle.run_arrays.specs.declared.arrays.Run.{Run}
use Rattle.run_arrays.specs.States.{Represents}
use Rattle.table.specs.Countable.{Countable}
use Rattle.run_table.specs.Finish.{FormFits, Finished}

-- the key words of the first m arcs are made of their own keys alone
key_words_front : (own : List ℕ) (m n : ℕ) → m ≤ n → key_words (take m own) m ≡ key_words (take n own) m
unfolding key_words
key_words_front own m n l =
    column_ext m (λ a. key_word (at (take m own) a)) (λ a. key_word (at (take n own) a))
    (λ a la. ap key_word (get_or-take m own a 0 la ∙ sym (get_or-take n own a 0 (omega arith))))

-- THE TWO PARTS: the first n entries of a list come back as `front`, and then those behind them
module _ (n : ℕ) (table front : List ℕ) (room : n ≤ length table) (all : length front ≡ length (take n table)) where
  abbrev whole : List ℕ
  whole = front ++ drop n table

  front_long : length front ≡ n
  front_long = all ∙ length-take-le n table room

  pub whole_long : length whole ≡ length table
  whole_long = length_front table front n all

  pub rest_long : length (mid_of n (length whole - n) whole) ≡ length table - n
  rest_long =
      length-take-le (length whole - n) (drop n whole) (omega (arith, length-drop n whole)) ∙ ap (λ (k : ℕ). k - n) whole_long

  pub both_parts : (rest : List ℕ) → put_mid n (length whole - n) whole rest ≡ front ++ rest
  both_parts rest =
      let past : length (drop n whole) ≤ length whole - n = omega (arith, length-drop n whole) in
      let none : post_of n (length whole - n) whole ≡ [] = drop_of_length-le (drop n whole) past in
      rw (take_at front (drop n table) n front_long, none) (ap (λ (xs : List ℕ). front ++ xs) (append-nil rest))

  -- the usual words, and the key words of as many arcs as there is room for
  pub form_written : (keys : List ℕ) {t : ℕ} {usual rest own : List ℕ} → n ≡ t → front ≡ usual
      → rest ≡ key_words own (length (mid_of n (length whole - n) whole))
      → own ≡ take (length table - n) keys
      → put_mid n (length whole - n) whole rest ≡ usual ++ key_words (take (length table - t) keys) (length table - t)
  form_written keys {rest = rest} size words keyed owned = both_parts rest ∙ rw (words, keyed, rest_long, owned, size)

module _ {b : List ℕ} {s : State} {layout : Layout} {run : Run} {n : ℕ} (ok : Accepted b)
    (R : Represents (graph_of b) (division_of b) (spans_of b) s layout run) (T : Tabled b s) (all : n ≡ node_count b) where
  is_front : n ≡ (graph_of b).nodes
  is_front = all ∙ sym (graph_nodes b)

  same_labels : take n run.labels ≡ s.labels
  same_labels = ap (λ (m : ℕ). take m run.labels) is_front ∙ R.labels

  same_predecessors : take n run.predecessors ≡ s.predecessors
  same_predecessors = ap (λ (m : ℕ). take m run.predecessors) is_front ∙ R.predecessors

  same_counts : counts_of (figures_in run.counts) ≡ counts s
  same_counts = rw (R.rounds, R.leaves, R.inner, R.queues.held.counted)

  same_own : take (arcs (graph_of b)) run.keys.own ≡ s.queues.own
  same_own = R.queues.own

  labelled : length (take n run.labels) ≡ n
  labelled = ap length same_labels ∙ all_labels b ok s T ∙ sym all

  fed : length (take n run.predecessors) ≡ n
  fed = ap length same_predecessors ∙ all_predecessors b ok s T ∙ sym all

  countable : Countable (counts s)
  countable = record { all = counts_length_lem s T.levelled.fifteen; small = each_count s T.levelled.fifteen _ T.small }

  -- what the writing of the table asks
  pub form_fits : {words : ℕ} → table_length n ≤ words → words ≤ long_length n (arc_count b) → FormFits run n words
  form_fits room few = record {
    nodes = record {
      few = omega (arith, all, few_nodes b ok);
      writable = record {
        counts = subst Countable (sym same_counts) countable;
        nodes = record {
          room = rw labelled;
          fed = fed ∙ sym labelled;
          label = λ v l. rw same_labels (each_label b ok s T v (omega (arith, labelled)));
          predecessor = λ v l. rw same_predecessors (each_predecessor b ok s T v (omega (arith, labelled)));
        };
      };
    };
    room = room;
    few = omega (arith, few_arcs b ok);
  }

  -- and what is then in it
  pub finished : {words : ℕ} {hasEnded : Bool} {table : List ℕ} → words ≤ long_length n (arc_count b) → hasEnded ≡ ended (graph_of b) (division_of b) s
      → table
      ≡ table_of hasEnded (counts_of (figures_in run.counts)) (take n run.labels) (take n run.predecessors) (length (take n run.labels))
      ++ key_words (take (words - table_length n) run.keys.own) (words - table_length n)
      → Finished b s words hasEnded table
  finished {words} few he written =
      let m = words - table_length n in
      let keyed : key_words (take m run.keys.own) m ≡ key_words s.queues.own m =
      key_words_front run.keys.own m (arcs (graph_of b)) (omega (arith, graph_arcs b)) ∙ ap (λ (own : List ℕ). key_words own m) same_own in
      record { status = he; written = written ∙ rw (keyed, labelled, he, same_counts, same_labels, same_predecessors, all) }
