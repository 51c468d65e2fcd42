-- A repair from a place up: the place above is decided again, until it does not change.
use Prim.Native.Nat.{ℕ, min, ◌+◌, ◌*◌, ◌/◌, ◌≤◌, ◌<◌}
use mathlib.Core.Path.{◌≡◌, refl, sym, ap, ◌∙◌}
use mathlib.Core.Logic.{inr}
use mathlib.Core.List.{List}
use native.Mathlib.Omega.{arith}
use lib.ListN.{length, set}
use Rattle.indices.specs.Columns.{at}
use Rattle.indices.proofs.Steps.{by_equal}
use Rattle.procedure.specs.Division.{Division, regions, parent}
use Rattle.theory.proofs.Chosen.{parent_child}
use Rattle.run_arrays.specs.Rows.{field}
use Rattle.run_arrays.specs.Trees.{entry_of, entry_rank, rank, entry, Siblings, child_count, tree_start, place, QueuesOk}
use Rattle.run_arrays.proofs.trees.Seats.{tree_room, seat_low, seat_high}
use Rattle.run_queue.proofs.Entries.{rank_in}
use Rattle.run_queue.proofs.Trees.{Lies, seat_at, begins, place_same, seat_elim, ValidBut, valid_all, decided, written}

-- what reading place q of the tree that begins at `start` asks for
pub record PlaceBounds (winners : List ℕ) (start q : ℕ) : Type 0 where
  pub inside : start + q < length winners
  pub fits : start + q < 65536

-- the repair has come to place a of r's tree, which begins at `start`, and a holds `best`: the place above it is open
pub record Repairing (d : Division) (r : ℕ) (rows keys winners : List ℕ) (start a best : ℕ) : Type 0 where
  pub row : start ≡ field rows r 2
  pub valid : ValidBut d rows keys winners (λ r' q. (r' ≡ r) × (q ≡ a / 2))
  pub low : 0 < a
  pub high : a < 2 * child_count d r
  pub held : place d winners r a ≡ best

-- it begins at the place of c, where its key k was written, beside the rank that stood there
pub repair_start : {d : Division} {rows keys winners : List ℕ} {c up start p below best : ℕ} (k : ℕ) → QueuesOk d rows keys winners → Lies d rows c up start p
    → 0 < c → c < regions d → k < 4294967296 → below ≡ entry_rank (at winners (start + p)) → best ≡ entry_of k below
    → Repairing d (parent d c) rows (set keys c k) (set winners (start + p) best) start p best
repair_start {d} {rows} {keys} {winners} {c} {start = start} {p = p} k Q L pos inside small stood is =
    let h = parent_child d c pos inside in
    let P = Q.seated.laid.planned in
    let there : at winners (start + p) ≡ entry d keys c = rw (seat_at P L pos inside) (Q.seated.stands c pos inside) in
    rw (seat_at P L pos inside, is, stood ∙ rank_in P.counted.numbered keys c inside there, L.own ∙ P.seats c pos inside) (record {
      row = rw L.over at L.row;
      valid = written c k Q pos inside small;
      low = omega (arith, seat_low d h, seat_high d h);
      high = seat_high d h;
      held =
          let x = entry_of k (rank d c) in
          seat_elim d winners Q.seated.laid.room c x pos inside (λ y. y ≡ x) c pos inside (λ _. refl) (λ n. absurd (n refl));
    })

module _ {d : Division} {r : ℕ} {rows keys winners : List ℕ} {start a best : ℕ} (R : Repairing d r rows keys winners start a best) where
  from : start ≡ tree_start d r
  from = begins r start R.valid.seated.laid.planned R.row (omega (arith, R.high))

  pub repair_small : a < 65536
  repair_small = omega (arith, R.high, tree_room d r, R.valid.seated.laid.planned.counted.numbered.few)

  -- the places beside this one and above it
  pub repair_bounds : (q : ℕ) → q / 2 ≤ a / 2 → PlaceBounds winners start q
  repair_bounds q l = record {
    inside = omega (arith, from, R.high, tree_room d r, R.valid.seated.laid.room);
    fits = omega (arith, from, R.high, tree_room d r, R.valid.seated.laid.planned.counted.numbered.few);
  }

  -- x is the lower of this place and its sibling s
  module _ {s x : ℕ} (big : 1 < a) (beside : Siblings a s) (lowest : x ≡ min best (at winners (start + s))) where
    above_lowest : x ≡ min (place d winners r (2 * (a / 2))) (place d winners r (2 * (a / 2) + 1))
    above_lowest =
        let seen : at winners (start + s) ≡ place d winners r s = rw from in
        by_equal a (2 * (a / 2))
        (λ e.
        let f : s ≡ 2 * (a / 2) + 1 = omega (arith, beside.above, beside.other) in
        omega (arith, lowest, seen, R.held, ap (place d winners r) e, ap (place d winners r) f))
        (λ n.
        let e : a ≡ 2 * (a / 2) + 1 = omega arith in
        let f : s ≡ 2 * (a / 2) = omega (arith, beside.above, beside.other) in
        omega (arith, lowest, seen, R.held, ap (place d winners r) e, ap (place d winners r) f))

    -- the place above holds it already: the queues are valid
    pub repair_done : at winners (start + a / 2) ≡ x → QueuesOk d rows keys winners
    repair_done e = valid_all R.valid (λ r' q pos l o. rw (o.0, o.1) ((rw from at e) ∙ above_lowest))

    -- it is stored there
    pub repair_step : Repairing d r rows keys (set winners (start + a / 2) x) start (a / 2) x
    repair_step = rw from (record {
      row = sym from ∙ R.row;
      valid =
          decided R.valid r (a / 2) x (omega arith) (omega (arith, R.high)) above_lowest (λ r' q. (r' ≡ r) × (q ≡ a / 2 / 2)) (λ r' q o. inr o)
          (λ _. (refl, refl));
      low = omega arith;
      high = omega (arith, R.high);
      held = place_same d winners R.valid.seated.laid.room r (a / 2) x (omega (arith, R.high));
    })

-- and ends with valid queues
pub repair_end : {d : Division} {r : ℕ} {rows keys winners : List ℕ} {start a best : ℕ} → Repairing d r rows keys winners start a best → a ≤ 1
    → QueuesOk d rows keys winners
repair_end R l = valid_all R.valid (λ r' q pos m o. absurd (omega arith))
