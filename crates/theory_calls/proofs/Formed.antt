-- The table of any sound state of an accepted sheet whose counts fit, and every table with the same usual words: what is read out of it is the state, where it
-- has ended it is shortest, and "22" does not apply to it but for key words.
use Rattle.std.specs.Prelude.{if◌then◌else◌}
use Prim.Native.Nat.{ℕ, ◌+◌, ◌*◌, ◌^◌, ◌≤◌, ◌<◌}
use mathlib.Core.Bool.{Bool, true, false, not, ◌||◌}
use mathlib.Core.Path.{◌≡◌, refl, sym, ap, ◌∙◌}
use mathlib.Core.Logic.{◌⊎◌, ⊎_elim}
use mathlib.Core.List.{List}
use native.Mathlib.Omega.{arith}
use borrow.Author.Tests.{eq-eqb, lt-ltb}
use lib.ListN.{length}
use lib.Dec.{ltb, eqb}
use Rattle.indices.specs.Columns.{at}
use Rattle.indices.specs.Tests.{any}
use Rattle.indices.proofs.Tests.{neither, or_if, right_kind, any_false}
use Rattle.sheet.specs.Limits.{most_spans, most_arcs_each_way}
use Rattle.sheet.specs.Words.{top}
use Rattle.sheet.specs.Sections.{node_count, arc_count, span_count}
use Rattle.judgement.specs.Judgement.{AcceptedBy}
use Rattle.procedure.specs.Graph.{arcs}
use Rattle.procedure.specs.OfSheet.{graph_of, division_of, spans_of}
use Rattle.procedure.specs.State.{State, counts}
use Rattle.procedure.specs.Procedure.{ended}
use Rattle.procedure.specs.Travel.{ShortestFor}
use Rattle.procedure.specs.Table.{largest_label, inner_place, updates_place, counts_length, table_of}
use Rattle.procedure.proofs.OfSheet.{graph_nodes, graph_arcs, spans_count}
use Rattle.theory_shortest.specs.WellFormed.{WellFormed}
use Rattle.theory_shortest.proofs.WellFormed.{accepted_well_formed}
use Rattle.theory.specs.Counts.{Below}
use Rattle.theory.proofs.Final.{sound_label, sound_label_word, sound_predecessor, sound_predecessor_word}
use Rattle.theory_shortest.proofs.Travel.{for_sheet}
use Rattle.theory.proofs.Distances.{sound_shortest}
use Rattle.theory_calls.specs.Tabled.{Tabled}
use Rattle.calls.specs.Tables.{table_length, status_in, count_in, label_in, labels_in, predecessors_in}
use Rattle.calls.specs.Routes.{wrong_kind, wrong_count, wrong_node, wrong_keys, malformed}
use Rattle.calls.proofs.Tables.{labels_at}
use Rattle.calls.proofs.Counts.{counts_length_lem, level_count, update_count, each_place}
use Rattle.calls.proofs.Outcome.{status_ended}
use Rattle.calls.proofs.Reading.{
  status_in_lem,
  status_kind,
  count_kind,
  count_in_lem,
  label_in_lem,
  predecessor_in_lem,
  table_long,
  labels_in_lem,
  predecessors_in_lem,
}
use Rattle.calls.proofs.LongReading.{same_status, same_count, same_labels, same_predecessors, same_form, no_keys_right}

-- every count of a state, where each is below n
pub each_count : (s : State) → length s.inner ≡ most_spans → (n : ℕ) → Below n s → (i : ℕ) → i < counts_length → at (counts s) i < n
each_count s fifteen n below = each_place s fifteen (λ _ c. c < n) below.rounds below.leaves (λ i _. below.inner i) below.updates

module _ (b : List ℕ) {retired : Bool} (ok : AcceptedBy retired b) (s : State) (T : Tabled b s) where
  abbrev well : WellFormed most_arcs_each_way (graph_of b) (division_of b) (spans_of b)
  well = accepted_well_formed b ok

  abbrev over : Bool
  over = ended (graph_of b) (division_of b) s

  -- the usual words
  abbrev pub usual : List ℕ
  usual = table_of over (counts s) s.labels s.predecessors (node_count b)

  -- a label and a predecessor for each node, each of 28 bits
  pub all_labels : length s.labels ≡ node_count b
  all_labels = T.shape.labelled ∙ graph_nodes b

  pub all_predecessors : length s.predecessors ≡ node_count b
  all_predecessors = T.shape.fed ∙ graph_nodes b

  pub each_label : (v : ℕ) → v < node_count b → at s.labels v < 268435456
  each_label v l = sound_label_word well s T.shape T.sound v (rw (graph_nodes b) l)

  pub each_predecessor : (v : ℕ) → v < node_count b → at s.predecessors v < 268435456
  each_predecessor v l = sound_predecessor_word well s T.shape T.sound v (rw (graph_nodes b) l)

  all_counts : length (counts s) ≡ counts_length
  all_counts = counts_length_lem s T.levelled.fifteen

  small_counts : (i : ℕ) → i < counts_length → at (counts s) i < 2 ^ 56
  small_counts = each_count s T.levelled.fifteen (2 ^ 56) T.small

  pub usual_long : length usual ≡ table_length (node_count b)
  usual_long = table_long over (counts s) s.labels s.predecessors (node_count b) all_counts

  -- each predecessor is an arc of the sheet, or none
  arc_or_none : (v : ℕ) → v < node_count b → ltb (at s.predecessors v) (arc_count b) || eqb (at s.predecessors v) top ≡ true
  arc_or_none v l =
      let p = at s.predecessors v in
      ⊎_elim
      (λ (none : p ≡ top). or_if (ltb p (arc_count b)) (eqb p top) (λ _. eq-eqb p top none))
      (λ (arc : p < arcs (graph_of b)). rw (lt-ltb p (arc_count b) (rw (graph_arcs b) at arc)) refl)
      (sound_predecessor well s T.shape T.sound v (rw (graph_nodes b) l))

  -- ITS FORM
  right_header : wrong_kind usual 0 8 || any (wrong_count usual) (2 * counts_length) ≡ false
  right_header =
      neither _ _ (right_kind _ 8 (status_kind over (counts s) s.labels s.predecessors (node_count b)))
      (any_false _ (2 * counts_length) (λ i l. right_kind _ 11
      (count_kind over (counts s) s.labels s.predecessors (node_count b) (λ j lj. small_counts j (rw all_counts at lj)) i (rw all_counts l))))

  right_status : ltb 1 (status_in usual) ≡ false
  right_status = rw (status_in_lem over (counts s) s.labels s.predecessors (node_count b)) (low over)
    where
      low : (e : Bool) → ltb 1 (if e then 1 else 0) ≡ false
      low true = refl
      low false = refl

  right_node : (v : ℕ) → v < node_count b → wrong_node usual (arc_count b) v ≡ false
  unfolding wrong_node
  right_node v l =
      let label = label_in_lem over (counts s) s.labels s.predecessors (node_count b) all_counts v l (each_label v l) in
      let predecessor = predecessor_in_lem over (counts s) s.labels s.predecessors (node_count b) all_counts v l (each_predecessor v l) in
      neither _ _ (neither _ _ (right_kind _ 9 label.0) (right_kind _ 10 predecessor.0)) (rw predecessor.1 (ap not (arc_or_none v l)))

  usual_form : malformed b usual ≡ false
  unfolding malformed
  usual_form = neither _ _ right_header (neither _ _ right_status (neither _ _ (any_false _ (node_count b) right_node) (no_keys_right b usual usual_long)))

  -- EVERY TABLE with these usual words
  module _ (table : List ℕ) (same : (i : ℕ) → i < table_length (node_count b) → at table i ≡ at usual i) where
    pub well_formed_table : wrong_keys b table ≡ false → malformed b table ≡ false
    well_formed_table keys = same_form b table usual same (keys ∙ sym (no_keys_right b usual usual_long)) ∙ usual_form

    -- what is read out of it
    pub said_status : status_in table ≡ (if over then 1 else 0)
    said_status = same_status (node_count b) table usual same ∙ status_in_lem over (counts s) s.labels s.predecessors (node_count b)

    pub said_counts : (i : ℕ) → i < counts_length → count_in table i ≡ at (counts s) i
    said_counts i l =
        same_count (node_count b) table usual same i l
        ∙ count_in_lem over (counts s) s.labels s.predecessors (node_count b) i (rw all_counts l) (small_counts i l)

    pub said_levels : (i : ℕ) → i < most_spans → count_in table (inner_place + i) ≡ at s.inner i
    said_levels i l = said_counts (inner_place + i) (omega arith) ∙ level_count s T.levelled.fifteen i l

    pub said_updates : count_in table updates_place ≡ s.queues.updates
    said_updates = said_counts updates_place (omega arith) ∙ update_count s T.levelled.fifteen

    -- no region has such a height: there is a span for each height up to region 0's
    pub said_unused : (i : ℕ) → span_count b ≤ i → i < most_spans → count_in table (inner_place + i) ≡ 0
    said_unused i none l = said_levels i l ∙ T.levelled.unused i (omega (arith, well.attention.each_height, spans_count b))

    pub said_labels : labels_in (node_count b) table ≡ s.labels
    said_labels =
        same_labels (node_count b) table usual same
        ∙ labels_in_lem over (counts s) s.labels s.predecessors (node_count b) all_counts all_labels each_label

    pub said_predecessors : predecessors_in (node_count b) table ≡ s.predecessors
    said_predecessors =
        same_predecessors (node_count b) table usual same
        ∙ predecessors_in_lem over (counts s) s.labels s.predecessors (node_count b) all_counts all_predecessors each_predecessor

    pub said_bounded : (v : ℕ) → v < node_count b → (label_in table v ≡ top) ⊎ (label_in table v ≤ largest_label)
    said_bounded v l =
        rw (sym (labels_at (node_count b) table v l) ∙ ap (λ (c : List ℕ). at c v) said_labels)
        (sound_label well s T.shape T.sound v (rw (graph_nodes b) l))

    -- where the state has ended, the table is shortest
    pub said_shortest : status_in table ≡ 1 → ShortestFor b (labels_in (node_count b) table) (predecessors_in (node_count b) table)
    said_shortest e =
        rw (said_labels, said_predecessors) ((for_sheet b).0 (sound_shortest well s T.shape T.sound (status_ended over (sym said_status ∙ e))))
