-- The first-chosen child: the fold over the regions keeps the best child so far, by the order's laws alone; by the order itself this is the child of lowest
-- key, among those the one of lowest height, among those the one of lowest number.
use Rattle.std.specs.Prelude.{if◌then◌else◌}
use Prim.Native.Nat.{ℕ, suc, ◌≤◌, ◌<◌}
use mathlib.Core.Bool.{Bool, true, false, ◌&&◌, ◌||◌, false≢true}
use mathlib.Core.Path.{◌≡◌, refl, sym, ap, ◌∙◌}
use mathlib.Core.Logic.{◌≢◌, inl, inr}
use mathlib.Core.List.{List}
use native.Mathlib.Omega.{arith}
use borrow.Author.Tests.{eq-eqb, ne_eqb, ltb-true, eqb-true, eqb-false}
use lib.Dec.{eqb}
use Rattle.indices.specs.Columns.{at}
use Rattle.indices.proofs.Steps.{below_suc, up_to_keeps, by_equal}
use Rattle.sheet.specs.Words.{top}
use Rattle.procedure.specs.Graph.{Graph}
use Rattle.procedure.specs.Division.{Division, regions, parent, is_leaf, is_child, height}
use Rattle.procedure.specs.State.{Queues, State}
use Rattle.procedure.specs.Queues.{before, choose, min_item_below, min_item, min_key}
use Rattle.procedure.specs.Procedure.{process_child, alive}
use Rattle.procedure.specs.Choice.{ChildOf, FirstChosen, Chooses}
use Rattle.procedure.proofs.Children.{child_later, child_parent, is_child_lem}
use Rattle.procedure.proofs.Order.{NoBetter, no_better, before_irreflexive, before_asymmetric, before_transitive, before_antisymmetric, before_key}

-- x is the first-chosen child of r among the regions below n, or 0 if there is none
pub record FirstBelow (d : Division) (keys : List ℕ) (r n x : ℕ) : Type 0 where
  pub child : 0 < x → (x < n) × (parent d x ≡ r)
  pub some : (c : ℕ) → c < n → 0 < c → parent d c ≡ r → 0 < x
  pub least : (c : ℕ) → c < n → 0 < c → parent d c ≡ r → before d keys c x ≡ false

-- THE FOLD

module _ (d : Division) where
  first_step : (keys : List ℕ) (r c best : ℕ) → FirstBelow d keys r c best → FirstBelow d keys r (suc c) (choose d keys r c best)
  unfolding choose
  first_step keys r c best p = go (is_child d r c) refl (eqb best 0) refl (before d keys c best) refl
    where
      kept : (0 < c → parent d c ≡ r → (0 < best) × (before d keys c best ≡ false)) → FirstBelow d keys r (suc c) best
      kept own = record {
        child = λ l. let f = p.child l in (omega (arith, f.0), f.1);
        some = below_suc (λ e. 0 < e → parent d e ≡ r → 0 < best) c p.some (λ l e. (own l e).0);
        least = below_suc (λ e. 0 < e → parent d e ≡ r → before d keys e best ≡ false) c p.least (λ l e. (own l e).1);
      }

      taken : is_child d r c ≡ true → ((e : ℕ) → e < c → 0 < e → parent d e ≡ r → before d keys e c ≡ false) → FirstBelow d keys r (suc c) c
      taken t others =
          record {
            child = λ _. (omega arith, child_parent d r c t);
            some = λ e l l' u. child_later d r c t;
            least = below_suc (λ e. 0 < e → parent d e ≡ r → before d keys e c ≡ false) c others (λ l e. before_irreflexive d keys c);
          }

      go : (x : Bool) → is_child d r c ≡ x → (y : Bool) → eqb best 0 ≡ y → (z : Bool) → before d keys c best ≡ z
          → FirstBelow d keys r (suc c) (if x && (y || z) then c else best)
      go false e y f z h = kept (λ l u. absurd (false≢true (sym e ∙ is_child_lem d r c l u)))
      go true e true f z h = taken e (λ b l l' u. absurd (omega (arith, eqb-true best 0 f, p.some b l l' u)))
      go true e false f true h =
          taken e (λ b l l' u. before_transitive d keys b best c (p.least b l l' u) (before_asymmetric d keys c best h))
      go true e false f false h = kept (λ l u. (let n : best ≢ 0 = eqb-false best 0 f in omega arith, h))

  -- min_item is the first-chosen child
  pub min_item_first : (keys : List ℕ) (r : ℕ) → FirstBelow d keys r (regions d) (min_item d keys r)
  unfolding min_item min_item_below
  min_item_first keys r =
      up_to_keeps (λ (n x : ℕ). FirstBelow d keys r n x) (choose d keys r) 0 (regions d)
      (record { child = λ l. absurd (omega arith); some = λ c l. absurd (omega arith); least = λ c l. absurd (omega arith) })
      (λ c best l p. first_step keys r c best p)

  -- there is only one first-chosen child
  pub first_one : (keys : List ℕ) (r n x y : ℕ) → FirstBelow d keys r n x → FirstBelow d keys r n y → x ≡ y
  first_one keys r n x y p q =
      by_equal x 0
      (λ z. by_equal y 0
      (λ w. omega arith)
      (λ w. let l : 0 < y = omega arith in let f = q.child l in absurd (omega (arith, p.some y f.0 l f.1))))
      (λ z.
      let l : 0 < x = omega arith in
      let f = p.child l in
      let l' = q.some x f.0 l f.1 in
      let f' = q.child l' in
      before_antisymmetric d keys x y (q.least x f.0 l f.1) (p.least y f'.0 l' f'.1))

-- THE SMALLEST KEY of an inner region

module _ (d : Division) (q : Queues) (r : ℕ) (inner : is_leaf d r ≡ false) where
  -- it is that of the first-chosen child
  pub min_key_item : 0 < min_item d q.keys r → at q.keys (min_item d q.keys r) ≡ min_key d q r
  unfolding min_key
  min_key_item l = rw (inner, ne_eqb (min_item d q.keys r) 0 (omega arith))

  -- a childless region's is none
  pub min_key_none : min_item d q.keys r ≡ 0 → min_key d q r ≡ top
  unfolding min_key
  min_key_none e = rw (inner, eq-eqb (min_item d q.keys r) 0 e)

  -- so a region whose smallest key isn't none has a first-chosen child
  pub min_key_some : min_key d q r < top → 0 < min_item d q.keys r
  min_key_some l = by_equal (min_item d q.keys r) 0 (λ e. absurd (omega (arith, min_key_none e))) (λ n. omega arith)

-- IN THE WORDS OF THE REQUEST

module _ (d : Division) (keys : List ℕ) (r : ℕ) where
  child_of_lem : (c : ℕ) → c < regions d → 0 < c → parent d c ≡ r → ChildOf d r c
  child_of_lem c l pos under = (l, is_child_lem d r c pos under)

  -- no child is before the first-chosen one
  none_before : (b : ℕ) → ChildOf d r b → before d keys b (min_item d keys r) ≡ false
  none_before b h = (min_item_first d keys r).least b h.0 (child_later d r b h.1) (child_parent d r b h.1)

  by_height : (b c : ℕ) → NoBetter d keys b c → at keys b ≡ at keys c → height d c ≤ height d b
  by_height b c (inl l) same = absurd (omega arith)
  by_height b c (inr (_, inl l)) same = omega arith
  by_height b c (inr (_, inr e)) same = omega (arith, e.0)

  by_number : (b c : ℕ) → NoBetter d keys b c → at keys b ≡ at keys c → height d b ≡ height d c → c ≤ b
  by_number b c (inl l) same tall = absurd (omega arith)
  by_number b c (inr (_, inl l)) same tall = absurd (omega arith)
  by_number b c (inr (_, inr e)) same tall = e.1

  positive_chosen : 0 < min_item d keys r → FirstChosen d keys r (min_item d keys r)
  positive_chosen pos =
      let f = (min_item_first d keys r).child pos in
      record {
        child = child_of_lem _ f.0 pos f.1;
        lowest_key = λ b k. before_key d keys b _ (none_before b k);
        lowest_height = λ b k. by_height b _ (no_better d keys b _ (none_before b k));
        lowest_number = λ b k. by_number b _ (no_better d keys b _ (none_before b k));
      }

  first_chosen : (b : ℕ) → ChildOf d r b → FirstChosen d keys r (min_item d keys r)
  first_chosen b h = positive_chosen ((min_item_first d keys r).some b h.0 (child_later d r b h.1) (child_parent d r b h.1))

  -- two first-chosen children have one key, one height and one number
  chosen_one : (b c : ℕ) → FirstChosen d keys r b → FirstChosen d keys r c → b ≡ c
  chosen_one b c p q =
      let keyed : at keys b ≡ at keys c = omega (arith, p.lowest_key c q.child, q.lowest_key b p.child) in
      let tall : height d b ≡ height d c = omega (arith, p.lowest_height c q.child (sym keyed), q.lowest_height b p.child keyed) in
      omega (arith, p.lowest_number c q.child (sym keyed) (sym tall), q.lowest_number b p.child keyed tall)

  only_chosen : (c : ℕ) → FirstChosen d keys r c → c ≡ min_item d keys r
  only_chosen c p = chosen_one c _ p (first_chosen c p.child)

  none_chosen : ((b : ℕ) → ChildOf d r b → ⊥) → min_item d keys r ≡ 0
  none_chosen childless = by_equal (min_item d keys r) 0 (λ e. e) (λ n. absurd (childless _ (positive_chosen (omega arith)).child))

pub chooses : (g : Graph) (d : Division) (s : State) (r : ℕ) → Chooses g d s r
unfolding alive process_child
chooses g d s r = record {
  first = first_chosen d s.queues.keys r;
  only = only_chosen d s.queues.keys r;
  none = none_chosen d s.queues.keys r;
  smallest = λ inner c p.
      let e = only_chosen d s.queues.keys r c p in
      let pos = child_later d r c p.child.1 in
      sym (min_key_item d s.queues r inner (omega (arith, e, pos))) ∙ ap (at s.queues.keys) (sym e);
  turn = λ inner live process.
      let pos = min_key_some d s.queues r inner (ltb-true (min_key d s.queues r) top live) in
      (min_item d s.queues.keys r, positive_chosen d s.queues.keys r pos, refl);
}
