-- The longer table of the state that a possible table stands for is that table: it has the same kinds and says the same, word by word. So no round more, and
-- any number of them once it has ended, leave it as it is.
use Prim.Native.Nat.{ℕ, ◌+◌, ◌-◌, ◌*◌, ◌/◌, ◌≤◌, ◌<◌}
use mathlib.Core.Bool.{not, true≢false}
use mathlib.Core.Path.{◌≡◌, sym, ap, ◌∙◌}
use mathlib.Core.Logic.{◌≢◌, ◌⊎◌, inl, inr}
use mathlib.Core.List.{List}
use native.Mathlib.Omega.{arith}
use borrow.Author.Tests.{eqb-true, eqb-false, lt-ltb, le-ltb}
use lib.Seq.{ext_get_or}
use lib.Dec.{eqb}
use Rattle.indices.specs.Columns.{at}
use Rattle.indices.proofs.Steps.{by_order, by_equal, by_truth, times_none}
use Rattle.sheet.specs.Words.{kind_of, payload_of, top}
use Rattle.sheet.specs.Sections.{node_count, arc_count}
use Rattle.procedure.specs.Graph.{arcs, tail}
use Rattle.procedure.specs.OfSheet.{graph_of, division_of, spans_of}
use Rattle.procedure.specs.State.{State}
use Rattle.procedure.specs.Procedure.{ended, round}
use Rattle.procedure.specs.Table.{header_length, counts_length}
use Rattle.procedure.proofs.OfSheet.{graph_nodes, graph_arcs}
use Rattle.theory.proofs.Stages.{more_ended_stays}
use Rattle.calls.specs.Tables.{table_length, long_length, payload_in, status_in, count_in, label_in, predecessor_in, key_place}
use Rattle.calls.specs.LongTables.{long_table, has_key, own_in, state_in}
use Rattle.calls.specs.Possible.{table_labels}
use Rattle.calls.specs.Resume.{resumed, resume_table}
use Rattle.calls.specs.InParts.{Standing}
use Rattle.calls.proofs.Tables.{labels_at, predecessors_at_lem}
use Rattle.calls.proofs.Formed.{Formed, formed}
use Rattle.calls.proofs.LongReading.{long_status, has_key_lem}
use Rattle.theory_resume.proofs.Sounded.{own_keyed, own_keyless}
use Rattle.theory_resume.proofs.ReadBack.{state_counts, long_formed, count_said, labels_said, predecessors_said, keyed_said}
use Rattle.theory_resume.proofs.Resumed.{well, possible, before_tabled, before_ended, table_left}

-- a word is its kind and its payload
same_word : (x y : ℕ) → kind_of x ≡ kind_of y → payload_of x ≡ payload_of y → x ≡ y
same_word x y k p = omega arith

-- TWO TABLES of the longer form that say the same
record SaysSame (b T U : List ℕ) : Type 0 where
  status : status_in T ≡ status_in U
  count : (i : ℕ) → i < counts_length → count_in T i ≡ count_in U i
  label : (v : ℕ) → v < node_count b → label_in T v ≡ label_in U v
  predecessor : (v : ℕ) → v < node_count b → predecessor_in T v ≡ predecessor_in U v
  key : (a : ℕ) → a < arc_count b → payload_in T (key_place (node_count b) a) ≡ payload_in U (key_place (node_count b) a)

module _ (b T U : List ℕ) (form : Formed b T) (form' : Formed b U) (says : SaysSame b T U) where
  -- the two halves of a count
  half : (j i : ℕ) → j < counts_length → (i ≡ 1 + 2 * j) ⊎ (i ≡ 2 + 2 * j) → payload_in T i ≡ payload_in U i
  half j i l (inl e) = rw e (omega (arith, says.count j l))
  half j i l (inr e) = rw e (omega (arith, says.count j l))

  count_word : (i : ℕ) → i < 2 * counts_length → at T (1 + i) ≡ at U (1 + i)
  count_word i l =
      let j = i / 2 in
      same_word (at T (1 + i)) (at U (1 + i)) (form.count i l ∙ sym (form'.count i l))
      (half j (1 + i) (omega arith) (by_equal (1 + i) (1 + 2 * j) (λ e. inl e) (λ n. inr (omega arith))))

  label_word : (v : ℕ) → v < node_count b → at T (header_length + 2 * v) ≡ at U (header_length + 2 * v)
  label_word v l = same_word _ _ (form.label v l ∙ sym (form'.label v l)) (says.label v l)

  predecessor_word : (v : ℕ) → v < node_count b → at T (header_length + 2 * v + 1) ≡ at U (header_length + 2 * v + 1)
  predecessor_word v l = same_word _ _ (form.predecessor v l ∙ sym (form'.predecessor v l)) (says.predecessor v l)

  key_word_lem : (a : ℕ) → a < arc_count b → at T (key_place (node_count b) a) ≡ at U (key_place (node_count b) a)
  key_word_lem a la = same_word _ _ (form.key a la ∙ sym (form'.key a la)) (says.key a la)

  -- at a place
  abbrev Same : ℕ → Type 0
  Same i = at T i ≡ at U i

  header_same : (i : ℕ) → i < header_length → Same i
  header_same i l =
      by_equal i 0
      (λ e. rw e (same_word (at T 0) (at U 0) (form.first ∙ sym form'.first) says.status))
      (λ n. let e : i ≡ 1 + (i - 1) = omega arith in rw e (count_word (i - 1) (omega arith)))

  node_same : (i : ℕ) → header_length ≤ i → i < table_length (node_count b) → Same i
  node_same i le l =
      let v = (i - header_length) / 2 in
      let inside : v < node_count b = omega arith in
      by_equal i (header_length + 2 * v)
      (λ e. rw e (label_word v inside)) (λ n. let e : i ≡ header_length + 2 * v + 1 = omega arith in rw e (predecessor_word v inside))

  key_same : (i : ℕ) → table_length (node_count b) ≤ i → i < long_length (node_count b) (arc_count b) → Same i
  key_same i le l =
      let a = i - table_length (node_count b) in
      let e : i ≡ key_place (node_count b) a = omega arith in
      rw e (key_word_lem a (omega arith))

  same_tables : T ≡ U
  same_tables =
      ext_get_or 0 T U (form.long ∙ sym form'.long)
      (λ i l.
      by_order i header_length (header_same i)
      (λ h. by_order i (table_length (node_count b)) (node_same i h) (λ w. key_same i w (omega (arith, form.long)))))

-- a key word of 0 or 1, by its flag
flag_same : (x y : ℕ) → x ≤ 1 → y ≤ 1 → eqb x 1 ≡ eqb y 1 → x ≡ y
flag_same x y lx ly e =
    by_truth (eqb x 1)
    (λ t. eqb-true x 1 t ∙ sym (eqb-true y 1 (sym e ∙ t)))
    (λ t. let nx : x ≢ 1 = eqb-false x 1 t in let ny : y ≢ 1 = eqb-false y 1 (sym e ∙ t) in omega arith)

-- THE TABLE OF THE STATE that a table stands for is the table.
module _ (b T : List ℕ) (S : Standing b T) where
  abbrev stood : State
  stood = state_in (graph_of b) (division_of b) T

  abbrev U : List ℕ
  U = long_table (graph_of b) (division_of b) stood

  form_said : Formed b U
  form_said = formed b U (long_formed b S.accepted stood (before_tabled b T S))

  form_had : Formed b T
  form_had = formed b T S.formed

  status_kept : status_in U ≡ status_in T
  status_kept =
      let low = form_had.status in
      long_status (graph_of b) (division_of b) stood
      ∙ by_truth (ended (graph_of b) (division_of b) stood)
      (λ e. rw e (sym ((before_ended b T S).1 e)))
      (λ e. let n : status_in T ≢ 1 = λ one. true≢false (sym ((before_ended b T S).0 one) ∙ e) in let z : 0 ≡ status_in T = omega arith in rw e z)

  -- an arc has a key in the state just where its word is 1
  key_kept : (a : ℕ) → a < arcs (graph_of b) → has_key (graph_of b) U a ≡ has_key (graph_of b) T a
  unfolding state_in
  key_kept a la =
      let lt = (well b T S).graph.tail_in_lem a la in
      keyed_said b S.accepted stood (before_tabled b T S) a la
      ∙ by_truth (has_key (graph_of b) T a)
      (λ k.
      let reached : at (table_labels (graph_of b) T) (tail (graph_of b) a) ≢ top = λ e. true≢false (sym k ∙ (possible b T S).keyless a la e) in
      let own = own_keyed (graph_of b) T a la lt k in
      lt-ltb (at (own_in (graph_of b) T) a) top (omega (arith, (before_tabled b T S).shape.capped (tail (graph_of b) a) lt)) ∙ sym k)
      (λ k. let own = own_keyless (graph_of b) T a la k in le-ltb (at (own_in (graph_of b) T) a) top (omega arith) ∙ sym k)

  says_same : SaysSame b U T
  unfolding state_in
  says_same =
      let g = graph_of b in
      let ok = S.accepted in
      let held = before_tabled b T S in
      let node : (v : ℕ) → v < node_count b → v < g.nodes = λ v l. rw (graph_nodes b) l in
      record {
        status = status_kept;
        count = λ i l. count_said b ok stood held i l ∙ state_counts g (division_of b) T i l;
        label = λ v l.
            sym (labels_at g.nodes U v (node v l))
            ∙ ap (λ (c : List ℕ). at c v) (labels_said b ok stood held)
            ∙ labels_at g.nodes T v (node v l);
        predecessor = λ v l.
            sym (predecessors_at_lem g.nodes U v (node v l))
            ∙ ap (λ (c : List ℕ). at c v) (predecessors_said b ok stood held)
            ∙ predecessors_at_lem g.nodes T v (node v l);
        key = λ a la. flag_same _ _ (form_said.flag a la) (form_had.flag a la)
            (sym (has_key_lem b U a) ∙ key_kept a (rw (graph_arcs b) la) ∙ has_key_lem b T a);
      }

  pub written_back : long_table (graph_of b) (division_of b) (state_in (graph_of b) (division_of b) T) ≡ T
  written_back = same_tables b U T form_said form_had says_same

  -- what rounds that change nothing leave
  left_as_it_was : (k : ℕ) → resumed b T k ≡ stood → resume_table b T k ≡ T
  left_as_it_was k e = table_left b T S k ∙ ap (long_table (graph_of b) (division_of b)) e ∙ written_back

  -- no round more leaves the table as it is; so does any number, once it has ended
  pub none_more : resume_table b T 0 ≡ T
  unfolding resumed
  none_more = left_as_it_was 0 (times_none (λ s. not (ended (graph_of b) (division_of b) s)) (round (graph_of b) (division_of b) (spans_of b)) stood)

  pub ended_more : status_in T ≡ 1 → (k : ℕ) → resume_table b T k ≡ T
  unfolding resumed
  ended_more one k = left_as_it_was k (more_ended_stays (graph_of b) (division_of b) (spans_of b) k stood ((before_ended b T S).0 one))
