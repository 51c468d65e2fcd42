-- The rebuilding of the queues, arc by arc: an arc whose word says that it has a key is updated with its tail's label, and the queues after all arcs are those
-- of the state that the table stands for.
use Prim.Native.Nat.{ℕ, ◌+◌, ◌^◌, ◌≤◌, ◌<◌}
use mathlib.Core.Bool.{true, false, true≢false}
use mathlib.Core.Path.{◌≡◌, refl, sym, ap, ◌∙◌}
use mathlib.Core.Logic.{◌≢◌}
use mathlib.Core.List.{List}
use native.Mathlib.Nat.{mul-le-mul}
use native.Mathlib.Omega.{arith}
use lib.ListN.{replicate, length-replicate}
use lib.Seq.{get_or-take}
use Rattle.indices.specs.Columns.{at}
use Rattle.sheet.specs.Words.{top}
use Rattle.sheet.specs.Limits.{most_arcs_each_way}
use Rattle.procedure.specs.Graph.{Graph, arcs, tail}
use Rattle.procedure.specs.Division.{Division, regions}
use Rattle.procedure.specs.OfSheet.{graph_of, division_of, spans_of}
use Rattle.procedure.specs.Queues.{update_arc}
use Rattle.procedure.specs.Table.{updates_place}
use Rattle.theory_shortest.specs.WellFormed.{WellFormed}
use Rattle.theory.specs.Sound.{no_keys}
use Rattle.calls.specs.Tables.{count_in}
use Rattle.calls.specs.LongTables.{has_key, own_in, state_in}
use Rattle.calls.specs.Possible.{table_labels}
use Rattle.calls.proofs.Possible.{label_capped}
use Rattle.theory_resume.proofs.Rebuilt.{rebuilt_none, rebuilt_hit, rebuilt_miss, rebuilt_own, rebuilt_keys, rebuilt_few}
use Rattle.theory_resume.proofs.Sounded.{own_length, own_keyed, own_keyless, own_capped}
use Rattle.theory_resume.proofs.Resumed.{spans_heights, well, possible}
use Rattle.run_arrays.specs.declared.arrays.Layout.{Layout}
use Rattle.run_arrays.specs.declared.arrays.Keys.{Keys}
use Rattle.run_arrays.specs.declared.arrays.Run.{Run}
use Rattle.run_arrays.specs.Trees.{QueuesOk}
use Rattle.run_arrays.specs.States.{HoldsQueues, UpdatingArc}
use Rattle.resume.specs.Keys.{Relaid, Keyless, queues_up_to, KeysUpTo, KeyNext, LeavesQueues}

module _ {b : List ℕ} {layout : Layout} {table : List ℕ} {run : Run} (R : Relaid b layout table run) where
  abbrev g : Graph
  g = graph_of b

  abbrev d : Division
  d = division_of b

  abbrev own : List ℕ
  own = own_in g table

  abbrev ok : WellFormed most_arcs_each_way g d (spans_of b)
  ok = well b table R.standing

  capped : (a : ℕ) → a < arcs g → at own a ≤ top
  capped = own_capped ok (spans_heights b R.standing.accepted) table (possible b table R.standing)

  -- the labels in the array are the table's
  label_there : (v : ℕ) → v < g.nodes → at run.labels v ≡ at (table_labels g table) v
  label_there v l = sym (get_or-take g.nodes run.labels v 0 l) ∙ ap (λ (labels : List ℕ). at labels v) R.labels

  -- so a keyed arc's own key is what is read there
  pub key_read : (a : ℕ) → a < arcs g → has_key g table a ≡ true → at run.labels (tail g a) ≡ at own a
  key_read a la keyed =
      let lt = ok.graph.tail_in_lem a la in
      label_there (tail g a) lt ∙ sym (own_keyed g table a la lt keyed)

  -- and it is one: a keyed arc leaves a reached node
  key_low : (a : ℕ) → a < arcs g → has_key g table a ≡ true → at own a < top
  key_low a la keyed =
      let lt = ok.graph.tail_in_lem a la in
      let reached : at (table_labels g table) (tail g a) ≢ top = λ e. true≢false (sym keyed ∙ (possible b table R.standing).keyless a la e) in
      omega (arith, own_keyed g table a la lt keyed, label_capped g table (tail g a) lt, reached)

  -- the updates made so far are few
  few_updates : (a : ℕ) → a ≤ arcs g → (queues_up_to b table a).updates < 2 ^ 56
  few_updates a la =
      omega (
        arith,
        rebuilt_few ok own (own_length g table) capped a la,
        mul-le-mul la ok.division.few_regions,
        ok.graph.few_arcs,
      )

-- ARC a IS NEXT
module _ {b : List ℕ} {layout : Layout} {table : List ℕ} {run : Run} {a count : ℕ} (K : KeyNext b layout table run a count) where
  -- a keyless arc is passed
  pub key_passed : has_key (graph_of b) table a ≡ false
      → LeavesQueues (graph_of b) (division_of b) (queues_up_to b table (a + 1)) layout run run count
  key_passed none = record {
    alone = record { labels = refl; predecessors = refl; counts = refl };
    queues =
        rw (rebuilt_miss (division_of b) (own_in (graph_of b) table) (no_keys (graph_of b) (division_of b)) a
        (own_keyless (graph_of b) table a K.in_range none)) K.sofar.holds;
  }

  module _ (keyed : has_key (graph_of b) table a ≡ true) {key : ℕ} (e : key ≡ at (own_in (graph_of b) table) a) where
    next : queues_up_to b table (a + 1) ≡ update_arc (division_of b) a key (queues_up_to b table a)
    next =
        rebuilt_hit (division_of b) (own_in (graph_of b) table) (no_keys (graph_of b) (division_of b)) a (key_low K.sofar.relaid a K.in_range keyed)
        ∙ ap (λ (k : ℕ). update_arc (division_of b) a k (queues_up_to b table a)) (sym e)

    -- what the update asks, and what it leaves
    pub key_asks : UpdatingArc (graph_of b) (division_of b) (queues_up_to b table a) layout a key
    key_asks = record {
      updatable = record {
        graph = (ok K.sofar.relaid).graph;
        division = (ok K.sofar.relaid).division;
        arc_rows = K.sofar.relaid.laid.fixed_ok.arc_rows;
      };
      in_range = K.in_range;
      small = rw (← next) (few_updates K.sofar.relaid (a + 1) (omega (arith, K.in_range)));
    }

    pub key_entered : {keys : Keys} {n : ℕ}
        → HoldsQueues (graph_of b) (division_of b) (update_arc (division_of b) a key (queues_up_to b table a)) layout keys n
        → LeavesQueues (graph_of b) (division_of b) (queues_up_to b table (a + 1)) layout run
        (record { labels = run.labels; predecessors = run.predecessors; keys = keys; counts = run.counts }) n
    key_entered H = rw next (record { alone = record { labels = refl; predecessors = refl; counts = refl }; queues = H })

-- THE LOOP: the keys of the first a arcs are entered, and all else stays
pub record Entering (b : List ℕ) (layout : Layout) (table : List ℕ) (run₀ run : Run) (a count : ℕ) : Type 0 where
  pub within : a ≤ arcs (graph_of b)
  pub relaid : Relaid b layout table run₀
  pub leaves : LeavesQueues (graph_of b) (division_of b) (queues_up_to b table a) layout run₀ run count

-- THE WHOLE: cleared trees hold no key, and all keys entered are those of the table's state
module _ {b : List ℕ} {layout : Layout} {table : List ℕ} {run : Run} {count : ℕ} (K : Keyless b layout table run count) (winners : List ℕ) where
  abbrev cleared : Run
  cleared = record {
    labels = run.labels;
    predecessors = run.predecessors;
    keys = record { own = run.keys.own; winners = winners };
    counts = run.counts;
  }

  pub keys_cleared : QueuesOk (division_of b) layout.rows (replicate (regions (division_of b)) top) winners → KeysUpTo b layout table cleared 0 0
  keys_cleared valid = record {
    relaid = record { standing = K.relaid.standing; laid = K.relaid.laid; labels = K.relaid.labels };
    holds = rw (rebuilt_none (division_of b) (own_in (graph_of b) table) (no_keys (graph_of b) (division_of b)))
        (record { own = K.none; owned = length-replicate (arcs (graph_of b)) top; held = record { valid = valid; counted = refl } });
  }

  pub keys_rebuilt : {run' : Run} {n : ℕ} → LeavesQueues (graph_of b) (division_of b) (queues_up_to b table (arcs (graph_of b))) layout cleared run' n
      → LeavesQueues (graph_of b) (division_of b) (state_in (graph_of b) (division_of b) table).queues layout run run' (count_in table updates_place)
  unfolding state_in
  keys_rebuilt L =
      let R = K.relaid in
      let long = own_length (graph_of b) table in
      record {
        alone = record { labels = L.alone.labels; predecessors = L.alone.predecessors; counts = L.alone.counts };
        queues = record {
          own = L.queues.own ∙ rebuilt_own (ok R) (own R) long (capped R);
          owned = long;
          held = record { valid = rw (rebuilt_keys (ok R) (own R) long (capped R)) at L.queues.held.valid; counted = refl };
        };
      }
