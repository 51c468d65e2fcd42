-- The rows filled in three passes over the regions: children counted, trees laid one after the other, children seated.
use Prim.Native.Nat.{ℕ, suc, ◌+◌, ◌*◌, ◌≤◌, ◌<◌}
use mathlib.Core.Path.{◌≡◌, refl, sym, ap, ◌∙◌}
use mathlib.Core.Logic.{◌≢◌}
use mathlib.Core.List.{List}
use native.Mathlib.Nat.{le_refl}
use native.Mathlib.Numerals.{add-one}
use native.Mathlib.Omega.{arith}
use lib.ListN.{length, set, replicate, length-set}
use lib.Seq.{get_or-set_other}
use Rattle.indices.specs.Columns.{at}
use Rattle.indices.specs.Tests.{count}
use Rattle.indices.proofs.Tests.{count_none, count_in_lem, count_out, count_le}
use Rattle.indices.proofs.Steps.{set_elim}
use Rattle.procedure.specs.Division.{Division, regions, parent, is_child}
use Rattle.theory_shortest.specs.WellFormed.{DivisionOk}
use Rattle.theory.proofs.Chosen.{Child, parent_child}
use Rattle.run_arrays.specs.Rows.{field, row_count}
use Rattle.run_arrays.specs.Trees.{child_count, lower_siblings, tree_start, seat, ParentsOf, ChildrenCounted, Ranked, Started, Planned}
use Rattle.run_arrays.proofs.trees.Seats.{child_passes, other_fails, start_next, start_first, tree_room, seat_high}
use Rattle.run_arrays.proofs.rows.Filled.{filled_at, filled_length}

-- to prove P of an entry after a store in the same column, prove it of the value stored and of the entries of other rows
field_elim : (P : ℕ → Type 0) (rows : List ℕ) (i j k x : ℕ) → 4 * i + k < length rows → (j ≡ i → P x) → (j ≢ i → P (field rows j k))
    → P (field (set rows (4 * i + k) x) j k)
field_elim P rows i j k x l f g = set_elim P rows (4 * i + k) (4 * j + k) x 0 l (λ e. f (omega arith)) (λ n. g (λ e. n (omega arith)))

-- a store in one of the last two columns leaves parents and numbers of children as they were
counted_set : {d : Division} {rows : List ℕ} (i k x : ℕ) → 1 < k → k < 4 → ChildrenCounted d rows → ChildrenCounted d (set rows (4 * i + k) x)
counted_set {d} {rows} i k x l h C = record {
  numbered = C.numbered;
  all = simp length-set C.all;
  parents = λ c pos m. get_or-set_other rows (4 * i + k) (4 * c + 0) x 0 (omega arith) ∙ C.parents c pos m;
  counts = λ r m. get_or-set_other rows (4 * i + k) (4 * r + 1) x 0 (omega arith) ∙ C.counts r m;
}

-- CHILDREN COUNTED

-- the regions below c are counted
pub record Counting (d : Division) (rows : List ℕ) (c : ℕ) : Type 0 where
  pub above : 0 < c
  pub within : c ≤ regions d
  pub all : length rows ≡ 4 * regions d
  pub parents : (b : ℕ) → 0 < b → b < c → field rows b 0 ≡ parent d b
  pub counts : (r : ℕ) → r < regions d → field rows r 1 ≡ count (is_child d r) c
  pub ranks : (b : ℕ) → 0 < b → b < c → field rows b 3 ≡ lower_siblings d b

pub counting_start : {d : Division} {parents rows : List ℕ} (rows₀ : List ℕ) → ParentsOf d parents → length rows₀ ≡ 4 * regions d
    → rows ≡ replicate (length rows₀) 0 → Counting d rows 1
counting_start {d} {parents} {rows} rows₀ P e f = record {
  above = omega arith;
  within = P.numbered.root;
  all = filled_length rows₀ rows 0 f ∙ e;
  parents = λ b l m. absurd (omega arith);
  counts = λ r l. filled_at rows₀ rows 0 f (4 * r + 1) (omega arith) ∙ sym (count_out (is_child d r) 0 refl ∙ count_none (is_child d r));
  ranks = λ b l m. absurd (omega arith);
}

pub record CountBounds (rows : List ℕ) (c up lower : ℕ) : Type 0 where
  pub row : c < row_count rows
  pub row_parent : up < row_count rows
  pub fits : lower < 65535

-- region c is counted
module _ {d : Division} {parents rows : List ℕ} {c : ℕ} (P : ParentsOf d parents) (C : Counting d rows c) (given : c < length parents) where
  l : c < regions d
  l = omega (arith, P.all)

  up : ℕ
  up = at parents c

  up_is : up ≡ parent d c
  unfolding up
  up_is = P.same c C.above l

  up_in : up < regions d
  up_in = omega (arith, up_is, P.numbered.lower c C.above l)

  pub count_row : at parents c < row_count rows
  unfolding up
  count_row = omega (arith, up_in, C.all)

  -- its parent had so many children below c
  module _ {lower : ℕ} (el : lower ≡ field rows (at parents c) 1) where
    lower_is : lower ≡ lower_siblings d c
    unfolding up lower_siblings
    lower_is = el ∙ C.counts up up_in ∙ ap (λ (r : ℕ). count (is_child d r) c) up_is

    pub count_bounds : CountBounds rows c (at parents c) lower
    unfolding lower_siblings
    count_bounds = record {
      row = omega (arith, C.all);
      row_parent = count_row;
      fits = omega (arith, lower_is, count_le (is_child d (parent d c)) c, P.numbered.few);
    }

    rows1 : List ℕ
    rows1 = set rows (4 * c + 0) up

    rows2 : List ℕ
    rows2 = set rows1 (4 * c + 3) lower

    parents_after : (b : ℕ) → 0 < b → b < suc c → field (set rows2 (4 * up + 1) (lower + 1)) b 0 ≡ parent d b
    unfolding rows1 rows2
    parents_after b pos m =
        get_or-set_other rows2 (4 * up + 1) (4 * b + 0) (lower + 1) 0 (omega arith) ∙ get_or-set_other rows1 (4 * c + 3) (4 * b + 0) lower 0 (omega arith)
        ∙ field_elim (λ z. z ≡ parent d b) rows c b 0 up (omega (arith, C.all)) (λ s. up_is ∙ ap (parent d) (sym s))
        (λ n. C.parents b pos (omega arith))

    counts_after : (r : ℕ) → r < regions d → field (set rows2 (4 * up + 1) (lower + 1)) r 1 ≡ count (is_child d r) (suc c)
    unfolding up rows1 rows2
    counts_after r m =
        field_elim (λ z. z ≡ count (is_child d r) (suc c)) rows2 up r 1 (lower + 1) (simp length-set (omega (arith, C.all, up_in)))
        (λ s.
        let h : Child d r c = record { in_range = l; positive = C.above; under = sym up_is ∙ sym s } in
        let i : count (is_child d r) (suc c) ≡ count (is_child d r) c + 1 = rw (add-one c) at (count_in_lem (is_child d r) c (child_passes d h)) in
        omega (arith, el, ap (λ (z : ℕ). field rows z 1) s, C.counts r m))
        (λ n.
        get_or-set_other rows1 (4 * c + 3) (4 * r + 1) lower 0 (omega arith) ∙ get_or-set_other rows (4 * c + 0) (4 * r + 1) up 0 (omega arith)
        ∙ C.counts r m ∙ sym (rw (add-one c) at (count_out (is_child d r) c (other_fails d r c (λ s. n (sym s ∙ sym up_is))))))

    ranks_after : (b : ℕ) → 0 < b → b < suc c → field (set rows2 (4 * up + 1) (lower + 1)) b 3 ≡ lower_siblings d b
    unfolding rows1 rows2
    ranks_after b pos m =
        get_or-set_other rows2 (4 * up + 1) (4 * b + 3) (lower + 1) 0 (omega arith)
        ∙ field_elim (λ z. z ≡ lower_siblings d b) rows1 c b 3 lower (simp length-set (omega (arith, C.all))) (λ s. rw s lower_is)
        (λ n. get_or-set_other rows (4 * c + 0) (4 * b + 3) up 0 (omega arith) ∙ C.ranks b pos (omega arith))

    pub counting_step : Counting d (set (set (set rows (4 * c + 0) (at parents c)) (4 * c + 3) lower) (4 * at parents c + 1) (lower + 1)) (c + 1)
    unfolding up rows1 rows2
    counting_step = rw (add-one c) (record {
      above = omega arith;
      within = l;
      all = simp length-set C.all;
      parents = parents_after;
      counts = counts_after;
      ranks = ranks_after;
    })

pub counting_end : {d : Division} {parents rows : List ℕ} {c : ℕ} → ParentsOf d parents → Counting d rows c → length parents ≤ c → Ranked d rows
unfolding child_count
counting_end {d} {parents} {rows} {c} P C l =
    let e : c ≡ regions d = omega (arith, C.within, P.all) in
    record {
      counted =
          record {
            numbered = P.numbered;
            all = omega (arith, C.all);
            parents = λ b pos m. C.parents b pos (omega arith);
            counts = λ r m. C.counts r m ∙ ap (count (is_child d r)) e;
          };
      ranks = λ b pos m. C.ranks b pos (omega arith);
    }

-- TREES LAID

-- the trees of the regions below r are laid, and the next one begins at `start`
pub record Laying (d : Division) (rows : List ℕ) (start r : ℕ) : Type 0 where
  pub within : r ≤ regions d
  pub ranked : Ranked d rows
  pub next : start ≡ tree_start d r
  pub starts : (q : ℕ) → q < r → field rows q 2 ≡ tree_start d q

pub laying_start : {d : Division} {rows : List ℕ} → Ranked d rows → Laying d rows 0 0
laying_start {d} R = record { within = omega arith; ranked = R; next = sym (start_first d); starts = λ q l. absurd (omega arith) }

module _ {d : Division} {rows : List ℕ} {start r : ℕ} (L : Laying d rows start r) (l : r < regions d) where
  laying_next : {x : ℕ} → x ≡ field (set rows (4 * r + 2) start) r 1 → start + 2 * x ≡ tree_start d (suc r)
  laying_next e = omega (arith, e, (counted_set r 2 start (omega arith) (omega arith) L.ranked.counted).counts r l, start_next d r, L.next)

  pub laying_fits : {x : ℕ} → x ≡ field (set rows (4 * r + 2) start) r 1 → start + 2 * x < 65536
  laying_fits e = omega (arith, laying_next e, start_next d r, tree_room d r, L.ranked.counted.numbered.few)

  pub laying_step : {x : ℕ} → x ≡ field (set rows (4 * r + 2) start) r 1 → Laying d (set rows (4 * r + 2) start) (start + 2 * x) (r + 1)
  laying_step e = rw (add-one r) (record {
    within = l;
    ranked =
        record {
          counted = counted_set r 2 start (omega arith) (omega arith) L.ranked.counted;
          ranks = λ c pos m. get_or-set_other rows (4 * r + 2) (4 * c + 3) start 0 (omega arith) ∙ L.ranked.ranks c pos m;
        };
    next = laying_next e;
    starts =
        λ q m.
        field_elim (λ z. z ≡ tree_start d q) rows r q 2 start (omega (arith, L.ranked.counted.all)) (λ s. rw s L.next)
        (λ n. L.starts q (omega arith));
  })

pub laying_end : {d : Division} {rows : List ℕ} {start r : ℕ} → Laying d rows start r → regions d ≤ r → Started d rows
laying_end L l = record { ranked = L.ranked; starts = λ q m. L.starts q (omega arith) }

-- CHILDREN SEATED

-- the regions below c are seated
pub record Seating (d : Division) (rows : List ℕ) (c : ℕ) : Type 0 where
  pub above : 0 < c
  pub within : c ≤ regions d
  pub counted : ChildrenCounted d rows
  pub starts : (r : ℕ) → r < regions d → field rows r 2 ≡ tree_start d r
  pub seats : (b : ℕ) → 0 < b → b < c → field rows b 3 ≡ seat d b
  pub ranks : (b : ℕ) → c ≤ b → b < regions d → field rows b 3 ≡ lower_siblings d b

pub seating_start : {d : Division} {rows : List ℕ} → Started d rows → Seating d rows 1
seating_start S = record {
  above = omega arith;
  within = S.ranked.counted.numbered.root;
  counted = S.ranked.counted;
  starts = S.starts;
  seats = λ b pos m. absurd (omega arith);
  ranks = λ b l m. S.ranked.ranks b (omega arith) m;
}

-- region c is seated in the tree of its parent `up`
module _ {d : Division} {rows : List ℕ} {c : ℕ} (S : Seating d rows c) (l : c < regions d) {up : ℕ} (parent_is : up ≡ parent d c) where
  parent_low : parent d c < regions d
  parent_low = omega (arith, S.counted.numbered.lower c S.above l)

  pub seat_row : up < row_count rows
  seat_row = omega (arith, parent_is, parent_low, S.counted.all)

  -- at the number of the parent's children plus its rank
  module _ {children rank : ℕ} (ec : children ≡ field rows up 1) (er : rank ≡ field rows c 3) where
    p_is : children + rank ≡ seat d c
    unfolding seat
    p_is = omega (arith, ec, er, ap (λ (r : ℕ). field rows r 1) parent_is, S.counted.counts (parent d c) parent_low, S.ranks c (le_refl c) l)

    pub seat_fits : children + rank < 65536
    seat_fits = omega (arith, p_is, seat_high d (parent_child d c S.above l), tree_room d (parent d c), S.counted.numbered.few)

    pub seating_step : Seating d (set rows (4 * c + 3) (children + rank)) (c + 1)
    seating_step = rw (add-one c) (record {
      above = omega arith;
      within = l;
      counted = counted_set c 3 (children + rank) (omega arith) (omega arith) S.counted;
      starts = λ r m. get_or-set_other rows (4 * c + 3) (4 * r + 2) _ 0 (omega arith) ∙ S.starts r m;
      seats =
          λ b pos m.
          field_elim (λ z. z ≡ seat d b) rows c b 3 (children + rank) (omega (arith, S.counted.all)) (λ s. rw s p_is) (λ n. S.seats b pos (omega arith));
      ranks = λ b m h. get_or-set_other rows (4 * c + 3) (4 * b + 3) _ 0 (omega arith) ∙ S.ranks b (omega arith) h;
    })

pub seating_end : {d : Division} {rows : List ℕ} {c : ℕ} → Seating d rows c → regions d ≤ c → Planned d rows
seating_end S l = record { counted = S.counted; starts = S.starts; seats = λ b pos m. S.seats b pos (omega arith) }

-- the parents column of the division of an accepted sheet can be planned
pub division_parents : {m : ℕ} {d : Division} (parents : List ℕ) → DivisionOk m d → length parents ≡ regions d
    → ((c : ℕ) → 0 < c → c < regions d → at parents c ≡ parent d c) → ParentsOf d parents
division_parents parents ok all same =
    record {
      numbered = record { root = ok.nesting.root; few = omega (arith, ok.few_regions); lower = ok.nesting.lower };
      all = all;
      same = same;
    }
