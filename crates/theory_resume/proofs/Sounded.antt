-- The state that a possible table stands for has the invariant of a run between rounds: what the table says is the invariant but for the keys, and these are
-- built as it asks.
use Rattle.std.specs.Prelude.{if◌then◌else◌}
use Prim.Native.Nat.{ℕ, ◌+◌, ◌≤◌, ◌<◌}
use mathlib.Core.Bool.{true, false, true≢false}
use mathlib.Core.Path.{◌≡◌, refl, sym, ◌∙◌}
use mathlib.Core.Logic.{◌≢◌, ◌↔◌}
use mathlib.Core.List.{List}
use native.Mathlib.Nat.{le_refl}
use native.Mathlib.Omega.{arith}
use lib.ListN.{length, get_or-eq_default}
use Rattle.indices.specs.Columns.{at, column}
use Rattle.indices.proofs.Columns.{length_column, at_column}
use Rattle.indices.proofs.Steps.{by_order, by_truth}
use Rattle.sheet.specs.Limits.{most_spans}
use Rattle.sheet.specs.Words.{top}
use Rattle.procedure.specs.Graph.{Graph, arcs, tail}
use Rattle.procedure.specs.Division.{Division, height}
use Rattle.procedure.specs.Procedure.{ended}
use Rattle.procedure.specs.Table.{inner_place}
use Rattle.theory_shortest.specs.Settled.{LeadsBack, home, back}
use Rattle.theory_shortest.specs.WellFormed.{WellFormed}
use Rattle.theory_shortest.proofs.Depth.{Depth, home as depth-home, back as depth_back, followed_depth}
use Rattle.theory.specs.Sound.{Shape, Sound, Root}
use Rattle.theory.specs.Counts.{Levelled}
use Rattle.theory.proofs.Final.{sound_unkeyed, unkeyed_ended}
use Rattle.calls.specs.Tables.{status_in, count_in, label_in}
use Rattle.calls.specs.LongTables.{has_key, own_in, state_in}
use Rattle.calls.specs.Possible.{table_labels, table_predecessors, Possible}
use Rattle.calls.proofs.Tables.{labels_at, labels_length, predecessors_length}
use Rattle.calls.proofs.Possible.{Allowed, label_capped, possible_allowed}
use Rattle.theory_resume.proofs.Keys.{keys_of_length, keys_of_root, keys_of_valued}

-- THE OWN KEYS that a table gives
module _ (g : Graph) (table : List ℕ) where
  pub own_length : length (own_in g table) ≡ arcs g
  unfolding own_in
  own_length = length_column (arcs g) _

  own_at : (a : ℕ) → a < arcs g → at (own_in g table) a ≡ (if has_key g table a then label_in table (tail g a) else top)
  unfolding own_in
  own_at a la = at_column (arcs g) _ a la

  -- a keyed arc's is its tail's label
  pub own_keyed : (a : ℕ) → a < arcs g → tail g a < g.nodes → has_key g table a ≡ true → at (own_in g table) a ≡ at (table_labels g table) (tail g a)
  own_keyed a la lt k = own_at a la ∙ rw k (sym (labels_at g.nodes table (tail g a) lt))

  -- a keyless arc's is none
  pub own_keyless : (a : ℕ) → a < arcs g → has_key g table a ≡ false → at (own_in g table) a ≡ top
  own_keyless a la k = own_at a la ∙ rw k

-- what is below 'unreached' is not it
below : {x : ℕ} → x < top → x ≢ top
below l e = omega arith

-- a node with a depth is led back, where what feeds each reached node allows for it
depth_led : {g : Graph} {L P : List ℕ} → ((v : ℕ) → v < g.nodes → at L v ≢ top → v ≢ g.source → Allowed g L P v)
    → {v n : ℕ} → Depth g P v n → at L v < top → LeadsBack g L P v
depth_led fed (depth-home l e) r = home e
depth_led {P = P} fed (depth_back {v = v} l n q) r =
    let f = fed v l (below r) n in
    back (at P v) f.is_arc_lem refl f.to_node f.allows (depth_led fed q (omega (arith, f.allows)))

-- OF A POSSIBLE TABLE, with a span for each height
module _ {most : ℕ} {g : Graph} {d : Division} {spans : List ℕ} (ok : WellFormed most g d spans) {n : ℕ} (all : n ≡ height d 0) (table : List ℕ)
    (p : Possible g n table) where
  -- by whether arc a has a key
  keyed_or : (P : ℕ → Type 0) (a : ℕ) → a < arcs g → (has_key g table a ≡ true → P (at (table_labels g table) (tail g a)))
      → (has_key g table a ≡ false → P top) → P (at (own_in g table) a)
  keyed_or P a la some none =
      by_truth (has_key g table a)
      (λ k. rw (own_keyed g table a la (ok.graph.tail_in_lem a la) k) (some k)) (λ k. rw (own_keyless g table a la k) (none k))

  -- no own key is above 'none'
  pub own_capped : (a : ℕ) → a < arcs g → at (own_in g table) a ≤ top
  own_capped a la = keyed_or (λ k. k ≤ top) a la (λ _. label_capped g table (tail g a) (ok.graph.tail_in_lem a la)) (λ _. le_refl top)

  -- THE SIZES of the state are right.
  pub possible_shape : Shape g d (state_in g d table)
  unfolding state_in
  possible_shape = record {
    labelled = labels_length g.nodes table;
    fed = predecessors_length g.nodes table;
    queued = record {
      own = own_length g table;
      keys = keys_of_length ok.division (own_in g table);
      capped = own_capped;
      root = keys_of_root ok.division (own_in g table);
    };
    capped = label_capped g table;
  }

  -- an arc from a reached node whose own key is none has no key word
  unkeyed_arc : (a : ℕ) → a < arcs g → at (table_labels g table) (tail g a) < top → at (own_in g table) a ≡ top → has_key g table a ≡ false
  unkeyed_arc a la r none =
      by_truth (has_key g table a) (λ k. absurd (omega (arith, own_keyed g table a la (ok.graph.tail_in_lem a la) k))) (λ k. k)

  -- THE INVARIANT holds of it.
  pub possible_sound : Sound g d Root (state_in g d table)
  unfolding state_in
  possible_sound = record {
    source_label = p.source_label;
    source_unfed = p.source_unfed;
    led = λ v l r. depth_led (possible_allowed p) (followed_depth ok.graph (table_predecessors g table) g.nodes v l (p.chain v l (below r))).1 r;
    unfed = p.unfed;
    unkeyed = λ a la e. own_keyless g table a la (p.keyless a la e);
    relaxed = λ a la r none. p.relaxed a la (unkeyed_arc a la r none) (below r);
    bounded = λ v l r. p.bounded v l (below r);
    keyed = λ a la. keyed_or (λ k. k < top → k ≡ at (table_labels g table) (tail g a)) a la (λ _ _. refl) (λ _ l. absurd (omega arith));
    valued = keys_of_valued ok.division (own_in g table) _;
  }

  -- "0 at unused heights"
  pub possible_levels : Levelled d (state_in g d table)
  unfolding state_in
  possible_levels =
      let inner = column most_spans (λ i. count_in table (inner_place + i)) in
      let fifteen = length_column most_spans (λ i. count_in table (inner_place + i)) in
      record {
        fifteen = fifteen;
        unused = λ i h. by_order i most_spans
            (λ l. at_column most_spans (λ i. count_in table (inner_place + i)) i l ∙ p.unused i (omega (arith, all)) l)
            (λ l. get_or-eq_default inner 0 (omega (arith, fifteen)));
      }

  -- ITS STATUS is what the table says.
  pub possible_status : (status_in table ≡ 1) ↔ (ended g d (state_in g d table) ≡ true)
  unfolding state_in
  possible_status = (
    λ one. unkeyed_ended ok (state_in g d table) possible_shape possible_sound (λ a la. own_keyless g table a la (p.status.0 one a la)),
    λ e. p.status.1 (λ a la. by_truth (has_key g table a)
        (λ k.
        let none = sound_unkeyed ok (state_in g d table) possible_shape possible_sound e a la in
        absurd (true≢false (sym k ∙ p.keyless a la (sym (own_keyed g table a la (ok.graph.tail_in_lem a la) k) ∙ none))))
        (λ k. k)),
  )
