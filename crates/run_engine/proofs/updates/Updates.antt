-- What the code of the updates rests on: an update of an item writes and counts, and stops or climbs as the smallest keys say; that of an arc begins at
-- its own key; those of a node's outgoing arcs are a walk along links.
use Rattle.std.specs.Prelude.{if◌then◌else◌}
use Prim.Native.Nat.{ℕ, suc, ◌+◌, ◌-◌, ◌≤◌, ◌<◌}
use mathlib.Core.Bool.{true, false, true≢false}
use mathlib.Core.Path.{◌≡◌, refl, sym, ap, ◌∙◌}
use mathlib.Core.List.{List}
use native.Mathlib.Omega.{arith}
use lib.ListN.{length, set, length-set}
use lib.Seq.{get_or-set_same, get_or-take, take-set-lt}
use lib.Dec.{eqb}
use Rattle.indices.specs.Columns.{at}
use Rattle.indices.specs.Steps.{up_to}
use Rattle.indices.proofs.Steps.{up_to_cong, by_equal}
use Rattle.sheet.specs.Limits.{most_arcs}
use Rattle.sheet.specs.Words.{top}
use Rattle.procedure.specs.Graph.{Graph, arcs}
use Rattle.procedure.specs.Division.{Division, regions, parent, arc_of, is_leaf, leaf_of}
use Rattle.procedure.specs.State.{Queues}
use Rattle.procedure.specs.Queues.{min_key, write, update, update_arc, update_outgoing}
use Rattle.theory_shortest.specs.WellFormed.{DivisionOk}
use Rattle.theory.proofs.Chosen.{min_key_leaf}
use Rattle.theory.proofs.Update.{write_leaf, write_inner, write_counts, update_grows, update_rises, update_stops, update_elim}
use Rattle.theory.proofs.Outgoing.{arc_leaf_test, arc_updated}
use Rattle.run_arrays.specs.Rows.{row_tail, row_leaf, row_next}
use Rattle.run_arrays.specs.Trees.{IsMinKey, QueuesOk}
use Rattle.run_arrays.specs.Links.{step_from}
use Rattle.run_arrays.proofs.rows.Links.{Walk, walk_start, walk_step, walk_end, walk_part, walk_falls}
use Rattle.run_arrays.specs.Fixed.{ArcRows}
use Rattle.run_arrays.specs.States.{HoldsKeys, HoldsQueues, Updating, Updatable, UpdatingArc, UpdatingOutgoing}
use Rattle.run_arrays.specs.declared.arrays.Layout.{Layout}
use Rattle.run_arrays.specs.declared.arrays.Keys.{Keys}

-- every update is counted
update_counts : {m : ℕ} {d : Division} → DivisionOk m d → (r x k : ℕ) (q : Queues) → r < regions d → suc q.updates ≤ (update d r x k q).updates
update_counts {d = d} ok r x k q lr =
    let once = write_counts d r x k q in
    update_elim ok (λ q'. suc q.updates ≤ q'.updates) r x k q lr (λ pos fell. omega (arith, once, update_grows d (parent d r) r k (write d r x k q)))
    (λ pos stays. omega (arith, once)) (λ root. omega (arith, once))

-- an own key is stored, and the places hold the keys: the queues with it are held
pub own_held : {g : Graph} {d : Division} {q : Queues} {layout : Layout} {keys : Keys} {n a : ℕ} (k : ℕ) → HoldsQueues g d q layout keys n → a < arcs g
    → {q' : Queues} {winners' : List ℕ} {n' : ℕ} → q'.own ≡ set q.own a k → HoldsKeys d q' layout.rows winners' n'
    → HoldsQueues g d q' layout (record { own = set keys.own a k; winners = winners' }) n'
own_held {g} {q = q} {keys = keys} {a = a} k H l own held = record {
  own = take-set-lt (arcs g) keys.own a k l ∙ ap (λ (front : List ℕ). set front a k) H.own ∙ sym own;
  owned = ap length own ∙ length-set q.own a k ∙ H.owned;
  held = held;
}

-- AN ITEM OF AN INNER REGION

-- the queues with key k of item x, as `min_key` reads them
abbrev pub with_key : ℕ → ℕ → Queues → Queues
with_key x k q = record { own = q.own; keys = set q.keys x k; updates = suc q.updates }

-- the key is written, in valid queues; the smallest key of region r is `old` before and `new` after
pub record Rekeyed (d : Division) (q : Queues) (rows : List ℕ) (r x k : ℕ) (winners : List ℕ) (old new : ℕ) : Type 0 where
  pub valid : QueuesOk d rows (set q.keys x k) winners
  pub before : old ≡ min_key d q r
  pub after : new ≡ min_key d (with_key x k q) r

module _ {d : Division} {q : Queues} {rows winners : List ℕ} {count : ℕ} (H : HoldsKeys d q rows winners count) {r x k : ℕ} (U : Updating d q r x k) where
  pub region_in : r < regions d
  region_in = omega (arith, U.under, U.in_range, U.division.nesting.lower x U.positive U.in_range)

  pub region_inner : is_leaf d r ≡ false
  region_inner = ap (is_leaf d) (sym U.under) ∙ U.division.nesting.inner x U.positive U.in_range

  -- the count fits
  pub count_fits : count + 1 < 18446744073709551616
  count_fits = omega (arith, H.counted, update_counts U.division r x k q region_in, U.small)

  -- a parent has a lower number
  pub up_lower : 0 < r → {up : ℕ} → up ≡ parent d r → up < r
  up_lower positive up_parent = omega (arith, up_parent, U.division.nesting.lower r positive region_in)

  -- what is read before and after
  pub rekeyed : {winners' : List ℕ} {old new : ℕ} → ((keys : List ℕ) → QueuesOk d rows keys winners → r < regions d → IsMinKey d keys r old)
      → ((keys : List ℕ) → QueuesOk d rows keys winners → x < regions d → QueuesOk d rows (set keys x k) winners')
      → ((keys : List ℕ) → QueuesOk d rows keys winners' → r < regions d → IsMinKey d keys r new) → Rekeyed d q rows r x k winners' old new
  rekeyed before writes after =
      let valid = writes q.keys H.valid U.in_range in
      record {
        valid = valid;
        before = before q.keys H.valid region_in region_inner q.own q.updates;
        after = after (set q.keys x k) valid region_in region_inner q.own (suc q.updates);
      }

  wrote : write d r x k q ≡ with_key x k q
  wrote = write_inner d r x k q region_inner

  -- the key is written and counted
  pub item_held : {winners' : List ℕ} → QueuesOk d rows (set q.keys x k) winners' → HoldsKeys d (write d r x k q) rows winners' (count + 1)
  item_held valid = rw wrote (record { valid = valid; counted = omega (arith, H.counted) })

  -- at region 0 the update stops
  pub root_stops : {winners' : List ℕ} → QueuesOk d rows (set q.keys x k) winners' → r ≡ 0 → HoldsKeys d (update d r x k q) rows winners' (count + 1)
  root_stops valid z = rw (update_stops U.division r x k q region_in (λ l. absurd (omega arith))) (item_held valid)

  module _ {winners' : List ℕ} {old new : ℕ} (K : Rekeyed d q rows r x k winners' old new) where
    after_write : min_key d (write d r x k q) r ≡ new
    after_write = ap (λ (w : Queues). min_key d w r) wrote ∙ sym K.after

    -- where the smallest key did not fall, the update stops
    pub not_fallen : old ≤ new → HoldsKeys d (update d r x k q) rows winners' (count + 1)
    not_fallen l = rw (update_stops U.division r x k q region_in (λ _. omega (arith, after_write, K.before))) (item_held K.valid)

    -- where it fell, the update goes on at the parent
    module _ (positive : 0 < r) (fell : new < old) {up : ℕ} (up_parent : up ≡ parent d r) where
      goes_on : update d up r k (write d r x k q) ≡ update d r x k q
      goes_on = rw up_parent (sym (update_rises U.division r x k q region_in positive (omega (arith, after_write, K.before, fell))))

      pub climb_asks : Updating d (write d r x k q) up r k
      climb_asks = record {
        division = rw wrote U.division;
        positive = positive;
        in_range = region_in;
        under = sym up_parent;
        small = rw goes_on U.small;
      }

      pub climbed : {winners'' : List ℕ} {n : ℕ} → HoldsKeys d (update d up r k (write d r x k q)) rows winners'' n
          → HoldsKeys d (update d r x k q) rows winners'' n
      climbed done = rw goes_on at done

-- AN ARC
arcs_below_none : {g : Graph} {d : Division} {layout : Layout} → Updatable g d layout → arcs g ≤ top
unfolding top
arcs_below_none A = omega (arith, A.graph.few_arcs)

module _ {g : Graph} {d : Division} {q : Queues} {layout : Layout} {a k : ℕ} (U : UpdatingArc g d q layout a k) where
  pub arc_fits : a < most_arcs
  arc_fits = omega (arith, U.in_range, U.updatable.graph.few_arcs)

  leaf_in : leaf_of d a < regions d
  leaf_in = (U.updatable.division.arc_leaf a U.in_range).0

  leaf_arc_lem : arc_of d (leaf_of d a) ≡ a
  leaf_arc_lem = (U.updatable.division.arc_leaf a U.in_range).1

  leaf_test : is_leaf d (leaf_of d a) ≡ true
  leaf_test = arc_leaf_test d g.tails U.updatable.division (arcs_below_none U.updatable) a U.in_range

  -- region 0 is inner, so a leaf is another region
  leaf_positive : 0 < leaf_of d a
  leaf_positive =
      by_equal (leaf_of d a) 0 (λ root. absurd (true≢false (sym leaf_test ∙ ap (is_leaf d) root ∙ U.updatable.division.root_inner))) (λ other. omega arith)

  by_leaf : update_arc d a k q ≡ update d (leaf_of d a) (leaf_of d a) k q
  unfolding update_arc
  by_leaf = refl

  pub arc_count_fits : {count : ℕ} → count ≡ q.updates → count + 1 < 18446744073709551616
  arc_count_fits counted =
      let counts = update_counts U.updatable.division (leaf_of d a) (leaf_of d a) k q leaf_in in
      omega (arith, ap (λ (q : Queues). q.updates) by_leaf, counts, U.small)

  module _ {leaf : ℕ} (leaf-row : leaf ≡ row_leaf layout.arc_rows a) where
    is_leaf_lem : leaf ≡ leaf_of d a
    is_leaf_lem = leaf-row ∙ U.updatable.arc_rows.leaves a U.in_range

    -- the leaf is a region with a parent
    pub leaf_region : leaf < regions d
    leaf_region = rw is_leaf_lem leaf_in

    pub leaf_below : 0 < leaf
    leaf_below = rw is_leaf_lem leaf_positive

  -- its leaf, written
  abbrev leaf_written : Queues
  leaf_written = write d (leaf_of d a) (leaf_of d a) k q

  leaf_wrote : leaf_written ≡ record { own = set q.own a k; keys = q.keys; updates = suc q.updates }
  leaf_wrote =
      write_leaf d (leaf_of d a) (leaf_of d a) k q leaf_test
      ∙ ap (λ (b : ℕ). record { own = set q.own b k; keys = q.keys; updates = suc q.updates }) leaf_arc_lem

  -- the own keys, of which a's is stored
  module _ {keys keys' : Keys} {count : ℕ} (H : HoldsQueues g d q layout keys count) (K : keys' ≡ record { own = set keys.own a k; winners = keys.winners })
    where
      -- its leaf's smallest key is the arc's own key, before and after
      key_before : min_key d q (leaf_of d a) ≡ at keys.own a
      key_before =
          min_key_leaf d q (leaf_of d a) leaf_test
          ∙ ap (at q.own) leaf_arc_lem
          ∙ ap (λ (own : List ℕ). at own a) (sym H.own)
          ∙ get_or-take (arcs g) keys.own a 0 U.in_range

      key_after : min_key d leaf_written (leaf_of d a) ≡ k
      key_after =
          ap (λ (w : Queues). min_key d w (leaf_of d a)) leaf_wrote
          ∙ min_key_leaf d _ (leaf_of d a) leaf_test
          ∙ ap (at (set q.own a k)) leaf_arc_lem
          ∙ get_or-set_same q.own a k 0 (omega (arith, U.in_range, H.owned))

      -- what holds the keys afterwards holds the queues
      arc_left : {winners' : List ℕ} {n : ℕ} → HoldsKeys d (update_arc d a k q) layout.rows winners' n
          → HoldsQueues g d (update_arc d a k q) layout (record { own = keys'.own; winners = winners' }) n
      arc_left held =
          let own = (arc_updated d g.tails U.updatable.division (arcs_below_none U.updatable) a k q U.in_range).own in
          rw K (own_held k H U.in_range own held)

      pub leaf_held : HoldsKeys d leaf_written layout.rows keys'.winners (count + 1)
      leaf_held = rw (K, leaf_wrote) (record { valid = H.held.valid; counted = omega (arith, H.held.counted) })

      -- where the key is not below the arc's own, the update stops at the leaf
      pub arc_stops : at keys.own a ≤ k → HoldsQueues g d (update_arc d a k q) layout keys' (count + 1)
      arc_stops l =
          let stops = update_stops U.updatable.division (leaf_of d a) (leaf_of d a) k q leaf_in (λ _. omega (arith, key_before, key_after)) in
          arc_left (rw (by_leaf, stops) leaf_held)

      -- where it is, the update goes on at the leaf's parent
      module _ (fell : k < at keys.own a) {leaf up : ℕ} (leaf-row : leaf ≡ row_leaf layout.arc_rows a) (up_parent : up ≡ parent d leaf) where
        arc_goes_on : update d up leaf k leaf_written ≡ update_arc d a k q
        arc_goes_on =
            rw (up_parent, is_leaf_lem leaf-row)
            (sym
            (by_leaf
            ∙ update_rises U.updatable.division (leaf_of d a) (leaf_of d a) k q leaf_in leaf_positive (omega (arith, key_before, key_after))))

        pub arc_climb_asks : Updating d leaf_written up leaf k
        arc_climb_asks = record {
          division = rw (leaf_wrote, length-set q.own a k, H.owned) U.updatable.division;
          positive = leaf_below leaf-row;
          in_range = leaf_region leaf-row;
          under = sym up_parent;
          small = rw arc_goes_on U.small;
        }

        pub arc_climbed : {winners' : List ℕ} {n : ℕ} → HoldsKeys d (update d up leaf k leaf_written) layout.rows winners' n
            → HoldsQueues g d (update_arc d a k q) layout (record { own = keys'.own; winners = winners' }) n
        arc_climbed done = arc_left (rw arc_goes_on at done)

-- A NODE'S OUTGOING ARCS
update_arc_grows : (d : Division) (k a : ℕ) (q : Queues) → q.updates ≤ (update_arc d a k q).updates
unfolding update_arc
update_arc_grows d k a q = update_grows d (leaf_of d a) (leaf_of d a) k q

-- what is done for each of them
abbrev update_by : Division → ℕ → ℕ → Queues → Queues
update_by d k a q = update_arc d a k q

-- the rows have the graph's tails
outgoing_by_rows : {g : Graph} {d : Division} {arcRows : List ℕ} → ArcRows g d arcRows → (v k : ℕ) (q : Queues)
    → up_to (arcs g) (step_from (row_tail arcRows) v (update_by d k)) q ≡ update_outgoing d g.tails v k q
unfolding update_outgoing
outgoing_by_rows {g} {d} R v k q =
    up_to_cong _ _ q (arcs g) (λ a t l. ap (λ (u : ℕ). if eqb u v then update_arc d a k t else t) (R.tails a l))

-- the walk along the links of v has come to arc a, where the queues are q
pub record Spread (g : Graph) (d : Division) (layout : Layout) (v k : ℕ) (q₀ q : Queues) (keys : Keys) (n a : ℕ) : Type 0 where
  pub updating : UpdatingOutgoing g d q₀ layout v k
  pub left : HoldsQueues g d q layout keys n
  pub walk : Walk (row_tail layout.arc_rows) (update_by d k) v q₀ (arcs g) a q

pub spread_start : {g : Graph} {d : Division} {q : Queues} {layout : Layout} {keys : Keys} {count v k a : ℕ} → HoldsQueues g d q layout keys count
    → UpdatingOutgoing g d q layout v k → a ≡ at layout.firsts v → Spread g d layout v k q q keys count a
spread_start {d = d} {q} {layout} {v = v} {k} H U e = rw e (record {
  updating = U;
  left = H;
  walk = walk_start (row_tail layout.arc_rows) (update_by d k) v q U.links.linked U.in_range;
})

module _ {g : Graph} {d : Division} {layout : Layout} {v k : ℕ} {q₀ q : Queues} {keys : Keys} {n a : ℕ} (S : Spread g d layout v k q₀ q keys n a) where
  module _ (inside : a < layout.arcs) where
    arc_in : a < arcs g
    arc_in = omega (arith, S.updating.arc_count_lem)

    pub spread_asks : UpdatingArc g d q layout a k
    spread_asks =
        let part = walk_part (row_tail layout.arc_rows) (update_by d k) v q₀ (λ q. q.updates) (update_arc_grows d k) S.walk arc_in in
        record {
          updatable = S.updating.updatable;
          in_range = arc_in;
          small = omega (arith, rw (outgoing_by_rows S.updating.updatable.arc_rows v k q₀) at part, S.updating.small);
        }

    module _ {next : ℕ} (row : next ≡ row_next layout.arc_rows a) where
      pub spread_falls : layout.arcs - next < layout.arcs - a
      spread_falls = rw (S.updating.arc_count_lem, row) (walk_falls (row_tail layout.arc_rows) S.updating.links.linked a arc_in)

      pub spread_step : {keys' : Keys} {n' : ℕ} → HoldsQueues g d (update_arc d a k q) layout keys' n'
          → Spread g d layout v k q₀ (update_arc d a k q) keys' n' next
      spread_step L = record {
        updating = S.updating;
        left = L;
        walk = rw row (walk_step (row_tail layout.arc_rows) (update_by d k) v q₀ S.updating.links.linked a _ _ S.walk arc_in refl);
      }

  pub spread_end : layout.arcs ≤ a → HoldsQueues g d (update_outgoing d g.tails v k q₀) layout keys n
  spread_end l =
      let end : arcs g ≤ a = omega (arith, S.updating.arc_count_lem) in
      let all : q ≡ update_outgoing d g.tails v k q₀ =
      walk_end (row_tail layout.arc_rows) (update_by d k) v q₀ S.walk end ∙ outgoing_by_rows S.updating.updatable.arc_rows v k q₀ in
      rw (← all) S.left
