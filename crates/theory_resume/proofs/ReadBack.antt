-- The longer table of a state that a table can hold has the form of one, the state read out of it is that state, since keys leave no choice, and where its
-- counts are small it is a possible state: sheet and table stand.
use Prim.Native.Nat.{ℕ, ◌+◌, ◌^◌, ◌<◌}
use mathlib.Core.Bool.{true, false, not}
use mathlib.Core.Path.{◌≡◌, refl, sym, ap, ◌∙◌}
use mathlib.Core.Logic.{◌≢◌, ◌↔◌}
use mathlib.Core.List.{List}
use native.Mathlib.Omega.{arith}
use borrow.Author.Tests.{lt-ltb, le-ltb, ltb-false}
use lib.ListN.{length}
use lib.Seq.{ext_get_or}
use lib.Dec.{eqb, ltb}
use Rattle.indices.specs.Columns.{at}
use Rattle.indices.proofs.Columns.{length_column, at_column, column_is}
use Rattle.indices.proofs.Steps.{by_order}
use Rattle.indices.proofs.Tests.{neither}
use Rattle.sheet.specs.Limits.{most_spans, most_arcs_each_way}
use Rattle.sheet.specs.Words.{top}
use Rattle.sheet.specs.Sections.{node_count, span_count, arc_count}
use Rattle.judgement.specs.Judgement.{Accepted}
use Rattle.procedure.specs.Graph.{Graph, arcs, tail}
use Rattle.procedure.specs.Division.{Division}
use Rattle.procedure.specs.OfSheet.{graph_of, division_of, spans_of}
use Rattle.procedure.specs.State.{State, counts}
use Rattle.procedure.specs.Procedure.{ended}
use Rattle.procedure.specs.Routes.{Route, chain_to}
use Rattle.procedure.specs.Table.{inner_place, counts_length, key_words}
use Rattle.procedure.proofs.OfSheet.{graph_arcs}
use Rattle.theory_shortest.specs.Settled.{LeadsBack, home, back}
use Rattle.theory_shortest.specs.WellFormed.{WellFormed}
use Rattle.theory_shortest.proofs.Depth.{led_depth}
use Rattle.theory_shortest.proofs.WellFormed.{accepted_well_formed}
use Rattle.theory.specs.Counts.{Below}
use Rattle.theory.proofs.Final.{sound_unkeyed, unkeyed_ended}
use Rattle.calls.specs.Tables.{table_length, is_long, payload_in, status_in, count_in, key_place}
use Rattle.calls.specs.Routes.{wrong_keys}
use Rattle.calls.specs.LongTables.{long_table, has_key, own_in, keys_of, state_in}
use Rattle.calls.specs.Possible.{table_labels, table_predecessors, Possible}
use Rattle.calls.specs.Resume.{not_long, EndedShortest}
use Rattle.calls.specs.InParts.{Standing}
use Rattle.calls.proofs.Counts.{each_place}
use Rattle.calls.proofs.Outcome.{status_ended, length_long}
use Rattle.calls.proofs.LongReading.{in_front, long_length_lem, key_said, has_key_lem, keys_right, long_status, long_words, sheet_labels, sheet_predecessors}
use Rattle.calls.proofs.Formed.{formed}
use Rattle.calls.proofs.Possible.{Allowed, depth_chain, possible_test}
use Rattle.theory_calls.specs.Tabled.{Tabled}
use Rattle.theory_calls.proofs.Formed.{each_count, usual, usual_long, well_formed_table, said_counts, said_levels, said_updates, said_unused}
use Rattle.theory_calls.proofs.Formed.{said_labels, said_predecessors, said_shortest}
use Rattle.theory_resume.proofs.Keys.{keys_of_length, keys_of_root, keys_of_valued, same_keys}
use Rattle.theory_resume.proofs.Sounded.{own_length, own_keyed, own_keyless}

-- the counts of the state that a table stands for are the table's
pub state_counts : (g : Graph) (d : Division) (table : List ℕ) (i : ℕ) → i < counts_length → at (counts (state_in g d table)) i ≡ count_in table i
unfolding state_in
state_counts g d table =
    each_place (state_in g d table) (length_column most_spans (λ i. count_in table (inner_place + i))) (λ i c. c ≡ count_in table i) refl refl
    (λ i l. at_column most_spans (λ i. count_in table (inner_place + i)) i l) refl

-- two states with the same parts are the same
abbrev whole : List ℕ → List ℕ → List ℕ → List ℕ → ℕ → ℕ → ℕ → List ℕ → State
whole labels predecessors own keys updates rounds leaves inner = record {
  labels = labels;
  predecessors = predecessors;
  queues = record { own = own; keys = keys; updates = updates };
  rounds = rounds;
  leaves = leaves;
  inner = inner;
}

same_whole : (l l' p p' o o' k k' : List ℕ) (u u' r r' v v' : ℕ) (i i' : List ℕ) → l ≡ l' → p ≡ p' → o ≡ o' → k ≡ k' → u ≡ u' → r ≡ r' → v ≡ v' → i ≡ i'
    → whole l p o k u r v i ≡ whole l' p' o' k' u' r' v' i'
same_whole l l' p p' o o' k k' u u' r r' v v' i i' e₁ e₂ e₃ e₄ e₅ e₆ e₇ e₈ = cc

-- THE LONGER TABLE of a state that a table can hold
module _ (b : List ℕ) (ok : Accepted b) (s : State) (T : Tabled b s) where
  abbrev g : Graph
  g = graph_of b

  abbrev d : Division
  d = division_of b

  abbrev table : List ℕ
  table = long_table g d s

  abbrev well : WellFormed most_arcs_each_way g d (spans_of b)
  well = accepted_well_formed b ok

  usual_words : (i : ℕ) → i < table_length (node_count b) → at table i ≡ at (usual b ok s T) i
  usual_words i l =
      ap (λ (t : List ℕ). at t i) (long_words b s)
      ∙ in_front (node_count b) (usual b ok s T) (usual_long b ok s T) (key_words s.queues.own (arc_count b)) i l

  -- ITS FORM: "32" does not apply
  is_long_lem : is_long b table ≡ true
  is_long_lem =
      length_long b table
      (ap length (long_words b s) ∙ long_length_lem (node_count b) (usual b ok s T) (usual_long b ok s T) s.queues.own (arc_count b))

  keys_there : wrong_keys b table ≡ false
  keys_there = ap (wrong_keys b) (long_words b s) ∙ keys_right b (usual b ok s T) (usual_long b ok s T) s.queues.own (arc_count b)

  pub long_formed : not_long b table ≡ false
  unfolding not_long
  long_formed = neither _ _ (ap not is_long_lem) (well_formed_table b ok s T table usual_words keys_there)

  -- WHAT IS READ OUT of it
  pub count_said : (i : ℕ) → i < counts_length → count_in table i ≡ at (counts s) i
  count_said = said_counts b ok s T table usual_words

  pub labels_said : table_labels g table ≡ s.labels
  labels_said = sheet_labels b table ∙ said_labels b ok s T table usual_words

  pub predecessors_said : table_predecessors g table ≡ s.predecessors
  predecessors_said = sheet_predecessors b table ∙ said_predecessors b ok s T table usual_words

  -- an arc has a key word of 1 just where it has a key
  pub keyed_said : (a : ℕ) → a < arcs g → has_key g table a ≡ ltb (at s.queues.own a) top
  keyed_said a la =
      has_key_lem b table a
      ∙ ap (λ (t : List ℕ). eqb (payload_in t (key_place (node_count b) a)) 1) (long_words b s)
      ∙ key_said (node_count b) (usual b ok s T) (usual_long b ok s T) s.queues.own (arc_count b) a (rw (graph_arcs b) at la)

  -- "a keyed leaf's key being its tail's label"
  own_said : own_in g table ≡ s.queues.own
  own_said =
      ext_get_or 0 (own_in g table) s.queues.own (own_length g table ∙ sym T.shape.queued.own)
      (λ a l.
      let la : a < arcs g = omega (arith, own_length g table) in
      by_order (at s.queues.own a) top
      (λ r. own_keyed g table a la (well.graph.tail_in_lem a la) (keyed_said a la ∙ lt-ltb _ _ r) ∙ rw labels_said (sym (T.sound.keyed a la r)))
      (λ r. own_keyless g table a la (keyed_said a la ∙ le-ltb _ _ r)
      ∙ (let e : top ≡ at s.queues.own a = omega (arith, T.shape.queued.capped a la) in e)))

  -- "an inner region's keys its children's smallest"
  keys_said : keys_of d (own_in g table) ≡ s.queues.keys
  keys_said =
      let own = own_in g table in
      same_keys well.division s.queues (record { own = own; keys = keys_of d own; updates = 0 }) own_said T.sound.valued
      (keys_of_valued well.division own 0) (keys_of_root well.division own ∙ sym T.shape.queued.root) T.shape.queued.keys
      (keys_of_length well.division own)

  -- THE STATE READ BACK is the state.
  pub read_back : state_in g d table ≡ s
  unfolding state_in
  read_back =
      same_whole _ _ _ _ _ _ _ _ _ _ _ _ _ _ _ _ labels_said predecessors_said own_said keys_said (said_updates b ok s T table usual_words)
      (count_said 0 (omega arith)) (count_said 1 (omega arith))
      (column_is most_spans (λ i. count_in table (inner_place + i)) s.inner T.levelled.fifteen (said_levels b ok s T table usual_words))

  -- IT IS A POSSIBLE STATE
  -- a reached label
  below : (v : ℕ) → v < g.nodes → at s.labels v ≢ top → at s.labels v < top
  below v l r = omega (arith, T.shape.capped v l)

  led_allowed : {v : ℕ} → LeadsBack g s.labels s.predecessors v → at s.labels v < top → v ≢ g.source → Allowed g s.labels s.predecessors v
  led_allowed (home e) r n = absurd (n e)
  led_allowed (back a la e to down rest) r n = record { is_arc_lem = rw e la; to_node = rw e to; from_reached = rw e (omega arith); allows = rw e down }

  fed : (v : ℕ) → v < g.nodes → at s.labels v ≢ top → v ≢ g.source → Allowed g s.labels s.predecessors v
  fed v l r = led_allowed (T.sound.led v l (below v l r)) (below v l r)

  chain_there : (v : ℕ) → v < g.nodes → at s.labels v ≢ top → Route g g.source (chain_to g s.predecessors v) v
  chain_there v l r =
      depth_chain well.graph s.labels s.predecessors fed (led_depth well.graph (T.sound.led v l (below v l r)) l).1 (l, r)

  -- an arc without a key word has no key, and the other way round
  unsaid : (a : ℕ) → a < arcs g → has_key g table a ≡ false → at s.queues.own a ≡ top
  unsaid a la k = omega (arith, ltb-false (at s.queues.own a) top (sym (keyed_said a la) ∙ k), T.shape.queued.capped a la)

  none_said : (a : ℕ) → a < arcs g → at s.queues.own a ≡ top → has_key g table a ≡ false
  none_said a la e = keyed_said a la ∙ le-ltb (at s.queues.own a) top (omega arith)

  status_right : (status_in table ≡ 1) ↔ ((a : ℕ) → a < arcs g → has_key g table a ≡ false)
  status_right = (
    λ one a la. none_said a la (sound_unkeyed well s T.shape T.sound (status_ended (ended g d s) (sym (long_status g d s) ∙ one)) a la),
    λ none. long_status g d s ∙ rw (unkeyed_ended well s T.shape T.sound (λ a la. unsaid a la (none a la))),
  )

  tabled_possible : Below (2 ^ 55) s → Possible g (span_count b) table
  tabled_possible small = record {
    source_label = rw labels_said T.sound.source_label;
    source_unfed = rw predecessors_said T.sound.source_unfed;
    chain = rw (labels_said, predecessors_said) chain_there;
    feeder_reached = rw (labels_said, predecessors_said) (λ v l r n. (fed v l r n).from_reached);
    feeder = rw (labels_said, predecessors_said) (λ v l r n. (fed v l r n).allows);
    unfed = rw (labels_said, predecessors_said) T.sound.unfed;
    keyless = rw labels_said (λ a la e. none_said a la (T.sound.unkeyed a la e));
    relaxed = rw labels_said (λ a la k r. T.sound.relaxed a la (below (tail g a) (well.graph.tail_in_lem a la) r) (unsaid a la k));
    bounded = rw labels_said (λ v l r. T.sound.bounded v l (below v l r));
    counts = λ i l. rw (count_said i l) (each_count s T.levelled.fifteen (2 ^ 55) small i l);
    unused = said_unused b ok s T table usual_words;
    status = status_right;
  }

  pub tabled_standing : Below (2 ^ 55) s → Standing b table
  tabled_standing small = record {
    accepted = ok;
    formed = long_formed;
    possible = possible_test well.graph (span_count b) table (formed b table long_formed).status (tabled_possible small);
  }

  -- where it has ended its distances are shortest
  pub tabled_shortest : EndedShortest b table
  tabled_shortest one = rw (sheet_labels b table, sheet_predecessors b table) (said_shortest b ok s T table usual_words one)
