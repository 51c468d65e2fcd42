-- Winner trees: a store at a place leaves open only the place above it; where none is open, place 1 holds the first-chosen child.
use Prim.Native.Nat.{ℕ, zero, suc, min, ◌+◌, ◌*◌, ◌/◌, ◌≤◌, ◌<◌}
use mathlib.Core.Path.{◌≡◌, refl, sym, ap, ◌∙◌}
use mathlib.Core.Logic.{◌≢◌, ◌⊎◌, inl, inr, ⊎_elim}
use mathlib.Core.List.{List}
use native.Mathlib.Omega.{arith, min_cases}
use lib.ListN.{length, set, length-set}
use lib.Seq.{get_or-set_same, get_or-set_other}
use Rattle.indices.proofs.Steps.{by_order, by_equal, set_elim}
use Rattle.procedure.specs.Division.{Division, regions, parent}
use Rattle.procedure.specs.Queues.{min_item}
use Rattle.procedure.proofs.Choice.{min_item_first, first_one}
use Rattle.theory.proofs.Chosen.{Child, parent_child}
use Rattle.run_arrays.specs.Rows.{field, row_count}
use Rattle.run_arrays.specs.Trees.{entry_of, rank, entry, child_count, tree_start, seat, place, Wins, Planned, LaidOut, QueuesOk, Seated}
use Rattle.run_arrays.proofs.trees.Seats.{tree_room, trees_apart, seat_low, seat_high, seat_one, place_child, parent_in}
use Rattle.run_arrays.proofs.trees.RegionRows.{row_in}
use Rattle.run_queue.proofs.Entries.{entry_behind}

-- a store at place p of r's tree
module _ (d : Division) (winners : List ℕ) (room : 2 * regions d ≤ length winners) (r p x : ℕ) (hp : p < 2 * child_count d r) where
  pub place_in : tree_start d r + p < length winners
  place_in = omega (arith, tree_room d r)

  pub place_same : place d (set winners (tree_start d r + p) x) r p ≡ x
  place_same = get_or-set_same winners (tree_start d r + p) x 0 place_in

  -- no other place of a tree changes
  place_other : (r' q : ℕ) → q < 2 * child_count d r' → (r' ≡ r → q ≢ p) → place d (set winners (tree_start d r + p) x) r' q ≡ place d winners r' q
  place_other r' q hq ne = get_or-set_other winners (tree_start d r + p) (tree_start d r' + q) x 0 apart
    where
      apart : tree_start d r' + q ≢ tree_start d r + p
      apart e =
          by_equal r' r (λ s. ne s (omega (arith, ap (tree_start d) s)))
          (λ s. by_order r' r (λ l. omega (arith, trees_apart d r' r l)) (λ l. omega (arith, trees_apart d r r' (omega arith))))

  win_kept : (r' q : ℕ) → 0 < q → q < child_count d r' → (r' ≡ r → q ≢ p) → (r' ≡ r → q ≢ p / 2) → Wins d winners r' q
      → Wins d (set winners (tree_start d r + p) x) r' q
  win_kept r' q pos l n m w =
      rw (
        place_other r' q (omega arith) n,
        place_other r' (2 * q) (omega arith) (λ e f. m e (omega arith)),
        place_other r' (2 * q + 1) (omega arith) (λ e f. m e (omega arith)),
      )
      w

  same : (r' q a : ℕ) → ((r' ≡ r) × (q ≡ a)) ⊎ (r' ≡ r → q ≢ a)
  same r' q a =
      by_equal r' r (λ e. by_equal q a (λ f. inl (e, f)) (λ n. inr (λ _. n))) (λ n. inr (λ e. absurd (n e)))

  -- what was open is open still, or is this place, which is decided now; the place above it is open
  rest_kept : (Open Open' : ℕ → ℕ → Type 0) → ((r' q : ℕ) → 0 < q → q < child_count d r' → Wins d winners r' q ⊎ Open r' q)
      → ((r' q : ℕ) → Open r' q → Open' r' q ⊎ ((r' ≡ r) × (q ≡ p))) → (p < child_count d r → Wins d (set winners (tree_start d r + p) x) r p)
      → (0 < p / 2 → Open' r (p / 2))
      → (r' q : ℕ) → 0 < q → q < child_count d r' → Wins d (set winners (tree_start d r + p) x) r' q ⊎ Open' r' q
  rest_kept Open Open' rest f here above r' q pos l = go r' q pos l (same r' q p) (same r' q (p / 2))
    where
      old : (r' q : ℕ) → 0 < q → q < child_count d r' → (r' ≡ r → q ≢ p) → (r' ≡ r → q ≢ p / 2) → Wins d winners r' q ⊎ Open r' q
          → Wins d (set winners (tree_start d r + p) x) r' q ⊎ Open' r' q
      old r' q pos l n m (inl w) = inl (win_kept r' q pos l n m w)
      old r' q pos l n m (inr o) = ⊎_elim (λ o'. inr o') (λ e. absurd (n e.0 e.1)) (f r' q o)

      go : (r' q : ℕ) → 0 < q → q < child_count d r' → ((r' ≡ r) × (q ≡ p)) ⊎ (r' ≡ r → q ≢ p) → ((r' ≡ r) × (q ≡ p / 2)) ⊎ (r' ≡ r → q ≢ p / 2)
          → Wins d (set winners (tree_start d r + p) x) r' q ⊎ Open' r' q
      go r' q pos l (inl e) m = inl (rw (e.0, e.1) (here (omega (arith, ap (child_count d) e.0))))
      go r' q pos l (inr n) (inl e) = inr (rw (e.0, e.1) (above (omega arith)))
      go r' q pos l (inr n) (inr m) = old r' q pos l n m (rest r' q pos l)

-- A REGION'S PLACE, BY THE ROWS

-- c's parent `up` has a row
module _ {d : Division} {rows : List ℕ} {c up : ℕ} (P : Planned d rows) (pos : 0 < c) (inside : c < regions d) (over : up ≡ parent d c) where
  up_in : up < regions d
  up_in = omega (arith, over, P.counted.numbered.lower c pos inside)

  pub up_row : up < row_count rows
  up_row = row_in up P.counted up_in

-- its row says where its tree begins, and c's row which place of it is c's
pub record Lies (d : Division) (rows : List ℕ) (c up start p : ℕ) : Type 0 where
  pub over : up ≡ parent d c
  pub row : start ≡ field rows up 2
  pub own : p ≡ field rows c 3

module _ {d : Division} {rows : List ℕ} {c up start p : ℕ} (P : Planned d rows) (L : Lies d rows c up start p) (pos : 0 < c) (inside : c < regions d) where
  pub seat_at : start + p ≡ tree_start d (parent d c) + seat d c
  seat_at = omega (arith, L.row, L.own, P.starts up (up_in P pos inside L.over), ap (tree_start d) L.over, P.seats c pos inside)

  pub seat_inside : {winners : List ℕ} → LaidOut d rows winners → start + p < length winners
  seat_inside {winners} W = rw seat_at (place_in d winners W.room (parent d c) (seat d c) 0 (seat_high d (parent_child d c pos inside)))

-- where r's tree begins, by its row, if r has a child
pub begins : {d : Division} {rows : List ℕ} (r start : ℕ) → Planned d rows → start ≡ field rows r 2 → 0 < child_count d r → start ≡ tree_start d r
begins {d} r start P row some = row ∙ P.starts r (parent_in d P.counted.numbered.lower r some)

-- a store at the place of c
module _ (d : Division) (winners : List ℕ) (room : 2 * regions d ≤ length winners) (c x : ℕ) (pos : 0 < c) (inside : c < regions d) where
  child : Child d (parent d c) c
  child = parent_child d c pos inside

  -- to prove P of what stands at the place of b, prove it of x for c, and of what stood there for the others
  pub seat_elim : (P : ℕ → Type 0) (b : ℕ) → 0 < b → b < regions d → (b ≡ c → P x) → (b ≢ c → P (place d winners (parent d b) (seat d b)))
      → P (place d (set winners (tree_start d (parent d c) + seat d c) x) (parent d b) (seat d b))
  seat_elim P b pb lb f g =
      by_equal b c (λ e. rw (e, place_same d winners room (parent d c) (seat d c) x (seat_high d child)) (f e))
      (λ n.
      let k = parent_child d b pb lb in
      let kept =
      place_other d winners room (parent d c) (seat d c) x (seat_high d child) (parent d b) (seat d b) (seat_high d k)
      (λ e s. n (seat_one d k (record { in_range = inside; positive = pos; under = sym e }) s)) in
      rw kept (g n))

-- VALID BUT FOR SOME PLACES

-- every place holds what it should, but for those in Open, by region and place
pub record ValidBut (d : Division) (rows keys winners : List ℕ) (Open : ℕ → ℕ → Type 0) : Type 0 where
  pub seated : Seated d rows keys winners
  pub rest : (r p : ℕ) → 0 < p → p < child_count d r → Wins d winners r p ⊎ Open r p

-- what was open is decided
pub valid_all : {d : Division} {rows keys winners : List ℕ} {Open : ℕ → ℕ → Type 0} → ValidBut d rows keys winners Open
    → ((r p : ℕ) → 0 < p → p < child_count d r → Open r p → Wins d winners r p) → QueuesOk d rows keys winners
valid_all B rest = record { seated = B.seated; wins = λ r p pos l. ⊎_elim (λ w. w) (λ o. rest r p pos l o) (B.rest r p pos l) }

-- winners that were stored to are laid out still
pub laid_set : {d : Division} {rows winners : List ℕ} (i x : ℕ) → LaidOut d rows winners → LaidOut d rows (set winners i x)
laid_set i x L = record { planned = L.planned; room = simp length-set L.room }

-- place p of r's tree is decided again
module _ {d : Division} {rows keys winners : List ℕ} {Open : ℕ → ℕ → Type 0} (B : ValidBut d rows keys winners Open)
    (r p x : ℕ) (pos : 0 < p) (hp : p < child_count d r) (lowest : x ≡ min (place d winners r (2 * p)) (place d winners r (2 * p + 1))) where
  other : (r' q : ℕ) → q < 2 * child_count d r' → (r' ≡ r → q ≢ p) → place d (set winners (tree_start d r + p) x) r' q ≡ place d winners r' q
  other = place_other d winners B.seated.laid.room r p x (omega arith)

  win_here : Wins d (set winners (tree_start d r + p) x) r p
  win_here =
      place_same d winners B.seated.laid.room r p x (omega arith) ∙ lowest
      ∙ sym (rw (other r (2 * p) (omega arith) (λ _. omega arith), other r (2 * p + 1) (omega arith) (λ _. omega arith)))

  -- what was open is open still, or is this place; the place above it is open
  pub decided : (Open' : ℕ → ℕ → Type 0) → ((r' q : ℕ) → Open r' q → Open' r' q ⊎ ((r' ≡ r) × (q ≡ p))) → (0 < p / 2 → Open' r (p / 2))
      → ValidBut d rows keys (set winners (tree_start d r + p) x) Open'
  decided Open' f above = record {
    seated =
        record {
          laid = laid_set (tree_start d r + p) x B.seated.laid;
          keyed = B.seated.keyed;
          fit = B.seated.fit;
          stands =
              λ c l h.
              let k = parent_child d c l h in
              other (parent d c) (seat d c) (seat_high d k) (λ e f. omega (arith, seat_low d k, ap (child_count d) e)) ∙ B.seated.stands c l h;
        };
    rest = rest_kept d winners B.seated.laid.room r p x (omega arith) Open Open' B.rest f (λ _. win_here) above;
  }

-- VALID QUEUES

-- a key written for c, and stored at its place, leaves open the place above
pub written : {d : Division} {rows keys winners : List ℕ} (c k : ℕ) → QueuesOk d rows keys winners → 0 < c → c < regions d → k < 4294967296
    → ValidBut d rows (set keys c k) (set winners (tree_start d (parent d c) + seat d c) (entry_of k (rank d c)))
    (λ r q. (r ≡ parent d c) × (q ≡ seat d c / 2))
written {d} {rows} {keys} {winners} c k Q pos inside small =
    let h = parent_child d c pos inside in
    let keyed : c < length keys = omega (arith, Q.seated.keyed) in
    let x = entry_of k (rank d c) in
    record {
      seated =
          record {
            laid = laid_set (tree_start d (parent d c) + seat d c) x Q.seated.laid;
            keyed = simp length-set Q.seated.keyed;
            fit = λ i. set_elim (λ y. y < 4294967296) keys c i k 0 keyed (λ _. small) (λ _. Q.seated.fit i);
            stands =
                λ b pb lb.
                seat_elim d winners Q.seated.laid.room c x pos inside (λ y. y ≡ entry d (set keys c k) b) b pb lb
                (λ e. rw (e, get_or-set_same keys c k 0 keyed)) (λ n. rw (get_or-set_other keys c b k 0 n) (Q.seated.stands b pb lb));
          };
      rest =
          rest_kept d winners Q.seated.laid.room (parent d c) (seat d c) x (seat_high d h) (λ _ _. ⊥)
          (λ r q. (r ≡ parent d c) × (q ≡ seat d c / 2)) (λ r q p l. inl (Q.wins r q p l)) (λ r q o. absurd o)
          (λ l. absurd (omega (arith, seat_low d h))) (λ _. (refl, refl));
    }

module _ {d : Division} {rows keys winners : List ℕ} (Q : QueuesOk d rows keys winners) where
  -- place q of r's tree holds the entry of a child of r
  abbrev Held : ℕ → ℕ → Type 0
  Held r q = (c : ℕ) × Child d r c × (place d winners r q ≡ entry d keys c)

  -- it is the entry of one of the two places below, or a child's own place
  held_step : (r q : ℕ) → 0 < q → q < 2 * child_count d r → (q < child_count d r → Held r (2 * q)) → (q < child_count d r → Held r (2 * q + 1)) → Held r q
  held_step r q pos l left right =
      by_order q (child_count d r)
      (λ h.
      let w = Q.wins r q pos h in
      min_cases (place d winners r (2 * q)) (place d winners r (2 * q + 1)) (Held r q)
      (λ _ e. let f = left h in (f.0, f.1, w ∙ e ∙ f.2)) (λ _ e. let f = right h in (f.0, f.1, w ∙ e ∙ f.2)))
      (λ h.
      let f = place_child d r q h l in
      let k = f.1 in
      (f.0, k, rw (k.under, f.2) at (Q.seated.stands f.0 k.positive k.in_range)))

  held : (r f q : ℕ) → 0 < q → q < 2 * child_count d r → 2 * child_count d r ≤ q + f → Held r q
  held r zero q pos l m = absurd (omega arith)
  held r (suc f) q pos l m =
      held_step r q pos l (λ h. held r f (2 * q) (omega arith) (omega arith) (omega arith))
      (λ h. held r f (2 * q + 1) (omega arith) (omega arith) (omega arith))

  -- no place is lower than the one above it
  no_lower : (r q : ℕ) → 1 < q → q < 2 * child_count d r → place d winners r (q / 2) ≤ place d winners r q
  no_lower r q big l =
      let w = Q.wins r (q / 2) (omega arith) (omega arith) in
      by_equal q (2 * (q / 2)) (λ e. omega (arith, w, ap (place d winners r) e))
      (λ n. let e : q ≡ 2 * (q / 2) + 1 = omega arith in omega (arith, w, ap (place d winners r) e))

  -- nor than place 1
  first_lowest : (r f q : ℕ) → q ≤ f → 0 < q → q < 2 * child_count d r → place d winners r 1 ≤ place d winners r q
  first_lowest r zero q m pos l = absurd (omega arith)
  first_lowest r (suc f) q m pos l =
      by_equal q 1 (λ e. omega (arith, ap (place d winners r) e))
      (λ n. omega (arith, first_lowest r f (q / 2) (omega arith) (omega arith) (omega arith), no_lower r q (omega arith) l))

  -- place 1 holds the entry of the first-chosen child
  pub min_item_place : (r : ℕ) → 0 < child_count d r → Child d r (min_item d keys r) × (place d winners r 1 ≡ entry d keys (min_item d keys r))
  min_item_place r some =
      let h = held r (2 * child_count d r) 1 (omega arith) (omega arith) (omega arith) in
      let k = h.1 in
      let e : min_item d keys r ≡ h.0 =
      first_one d keys r (regions d) (min_item d keys r) h.0 (min_item_first d keys r)
      (record {
        child = λ _. (k.in_range, k.under);
        some = λ _ _ _ _. k.positive;
        least =
            λ c l pos u.
            let b : Child d r c = record { in_range = l; positive = pos; under = u } in
            let at-seat : place d winners r (seat d c) ≡ entry d keys c = rw u at (Q.seated.stands c pos l) in
            let lowest = first_lowest r (seat d c) (seat d c) (omega arith) (omega (arith, seat_low d b)) (seat_high d b) in
            entry_behind Q.seated.laid.planned.counted.numbered keys c h.0 l k.in_range (omega (arith, lowest, at-seat, h.2));
      }) in
      rw e (k, h.2)

  -- a region without children has no first-chosen child
  pub min_item_childless : (r : ℕ) → child_count d r ≡ 0 → min_item d keys r ≡ 0
  min_item_childless r none =
      let f = min_item_first d keys r in
      by_equal (min_item d keys r) 0 (λ e. e)
      (λ n.
      let pos : 0 < min_item d keys r = omega arith in
      let k : Child d r (min_item d keys r) = record { in_range = (f.child pos).0; positive = pos; under = (f.child pos).1 } in
      absurd (omega (arith, seat_high d k)))
