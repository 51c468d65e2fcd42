-- The children entered one by one, and a tree built from its last place down.
use Prim.Native.Nat.{ℕ, ◌+◌, ◌*◌, ◌-◌, ◌≤◌, ◌<◌}
use mathlib.Core.Path.{◌≡◌, refl, sym, ap, ◌∙◌}
use mathlib.Core.Logic.{◌⊎◌, inl, inr, ⊎_elim}
use mathlib.Core.List.{List}
use native.Mathlib.Omega.{arith}
use lib.ListN.{length, set, replicate, length-replicate, get_or-replicate, get_or-eq_default}
use Rattle.indices.specs.Columns.{at}
use Rattle.indices.proofs.Steps.{by_order, by_equal}
use Rattle.sheet.specs.Words.{top}
use Rattle.procedure.specs.Division.{Division, regions, parent}
use Rattle.run_arrays.specs.Rows.{field}
use Rattle.run_arrays.specs.Trees.{entry_of, rank, entry, child_count, tree_start, seat, place, Decided, LaidOut, QueuesOk, Seated, ValidBelow}
use Rattle.run_arrays.proofs.trees.Seats.{tree_room, parent_in}
use Rattle.run_queue.proofs.Trees.{Lies, seat_at, begins, seat_elim, ValidBut, laid_set, decided}

-- CHILDREN ENTERED

none_fits : (n c : ℕ) → at (replicate n top) c < 4294967296
unfolding top
none_fits n c =
    by_order c n (λ l. omega (arith, get_or-replicate n c top 0 l))
    (λ l. let e : length (replicate n top) ≤ c = rw (length-replicate n top) l in omega (arith, get_or-eq_default (replicate n top) 0 e))

-- the regions below c stand at their places with key none
pub record Entering (d : Division) (rows winners : List ℕ) (c : ℕ) : Type 0 where
  pub above : 0 < c
  pub within : c ≤ regions d
  pub laid : LaidOut d rows winners
  pub stands : (b : ℕ) → 0 < b → b < c → place d winners (parent d b) (seat d b) ≡ entry d (replicate (regions d) top) b

pub entering_start : {d : Division} {rows winners : List ℕ} → LaidOut d rows winners → Entering d rows winners 1
entering_start L = record { above = omega arith; within = L.planned.counted.numbered.root; laid = L; stands = λ b pos m. absurd (omega arith) }

pub entering_step : {d : Division} {rows winners : List ℕ} {c up start p below x : ℕ} → Entering d rows winners c → c < regions d → Lies d rows c up start p
    → below ≡ rank d c → x ≡ entry_of top below → Entering d rows (set winners (start + p) x) (c + 1)
entering_step {d} {rows} {winners} {c} {x = x} E l L own is = rw (seat_at E.laid.planned L E.above l) (record {
  above = omega arith;
  within = omega arith;
  laid = laid_set (tree_start d (parent d c) + seat d c) x E.laid;
  stands =
      λ b pos m.
      seat_elim d winners E.laid.room c x E.above l (λ y. y ≡ entry d (replicate (regions d) top) b) b pos (omega arith)
      (λ e. rw (get_or-replicate (regions d) b top 0 (omega arith), e) (rw own at is)) (λ n. E.stands b pos (omega arith));
})

pub entering_end : {d : Division} {rows winners : List ℕ} {c : ℕ} → Entering d rows winners c → regions d ≤ c
    → Seated d rows (replicate (regions d) top) winners
entering_end {d} E l = record {
  laid = E.laid;
  keyed = length-replicate (regions d) top;
  fit = none_fits (regions d);
  stands = λ b pos m. E.stands b pos (omega arith);
}

-- A TREE BUILT

-- the trees of the regions above r are open, and r's places below a
abbrev OpenBelow : ℕ → ℕ → ℕ → ℕ → Type 0
OpenBelow r a r' q = (r < r') ⊎ ((r' ≡ r) × (q < a))

-- r's tree, which begins at `start`, is built from place a on
pub record Building (d : Division) (r : ℕ) (rows keys winners : List ℕ) (start a : ℕ) : Type 0 where
  pub row : start ≡ field rows r 2
  pub valid : ValidBut d rows keys winners (OpenBelow r a)
  pub high : a ≤ child_count d r

pub building_start : {d : Division} {rows keys winners : List ℕ} {r start a : ℕ} → ValidBelow d rows keys winners r → r < regions d → start ≡ field rows r 2
    → a ≡ field rows r 1 → Building d r rows keys winners start a
building_start {d} {rows} {keys} {winners} {r} {start} {a} B inside row e =
    let count : a ≡ child_count d r = e ∙ B.seated.laid.planned.counted.counts r inside in
    record {
      row = row;
      valid =
          record {
            seated = B.seated;
            rest =
                λ r' q pos l.
                by_order r' r (λ m. inl (B.wins r' q m pos l))
                (λ m. inr (by_equal r' r (λ s. inr (s, omega (arith, ap (child_count d) s))) (λ n. inl (omega arith))));
          };
      high = omega arith;
    }

module _ {d : Division} {r : ℕ} {rows keys winners : List ℕ} {start a : ℕ} (B : Building d r rows keys winners start a) (big : 1 < a) where
  starts : start ≡ tree_start d r
  starts = begins r start B.valid.seated.laid.planned B.row (omega (arith, B.high))

  pub building_in : start + (2 * (a - 1) + 1) < length winners
  building_in = omega (arith, starts, B.high, tree_room d r, B.valid.seated.laid.room)

  pub building_step : {winners' : List ℕ} → Decided start (a - 1) winners winners' → Building d r rows keys winners' start (a - 1)
  building_step e = rw (e, starts) (record {
    row = sym starts ∙ B.row;
    valid =
        decided B.valid r (a - 1) _ (omega arith) (omega (arith, B.high)) refl (OpenBelow r (a - 1))
        (λ r' q o. ⊎_elim (λ m. inl (inl m)) (λ m. last r' q m) o) (λ _. inr (refl, omega arith));
    high = omega (arith, B.high);
  })
    where
      last : (r' q : ℕ) → (r' ≡ r) × (q < a) → OpenBelow r (a - 1) r' q ⊎ ((r' ≡ r) × (q ≡ a - 1))
      last r' q m = by_equal q (a - 1) (λ e. inr (m.0, e)) (λ n. inl (inr (m.0, omega arith)))

pub building_end : {d : Division} {r : ℕ} {rows keys winners : List ℕ} {start a : ℕ} → Building d r rows keys winners start a → a ≤ 1
    → ValidBelow d rows keys winners (r + 1)
building_end {d} {r} {rows} {keys} {winners} {start} {a} B l = record {
  seated = B.valid.seated;
  wins = λ r' q m pos h. ⊎_elim (λ w. w) (λ o. absurd (⊎_elim (λ (n : r < r'). omega arith) (λ n. omega arith) o)) (B.valid.rest r' q pos h);
}

-- ALL TREES BUILT

pub valid_none : {d : Division} {rows keys winners : List ℕ} → Seated d rows keys winners → ValidBelow d rows keys winners 0
valid_none E = record { seated = E; wins = λ r p l. absurd (omega arith) }

pub valid_regions : {d : Division} {rows keys winners : List ℕ} {n : ℕ} → ValidBelow d rows keys winners n → regions d ≤ n → QueuesOk d rows keys winners
valid_regions {d} B l = record {
  seated = B.seated;
  wins = λ r p pos h. B.wins r p (omega (arith, parent_in d B.seated.laid.planned.counted.numbered.lower r (omega arith))) pos h;
}
