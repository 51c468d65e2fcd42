-- Request 2026-05: the cases say yes exactly where some sheet in order has the one kind right after the other; the front and the end likewise.
-- In a sheet in order no front, pair or end says no; and for each yes there is a sheet, which is given.
use Rattle.std.specs.Prelude.{if◌then◌else◌}
use Prim.Native.Nat.{ℕ, ◌+◌, ◌-◌, ◌<◌}
use mathlib.Core.Bool.{Bool, true, false, not, false≢true, ◌&&◌, ◌||◌}
use mathlib.Core.List.{List, [], ◌∷◌, ◌++◌}
use mathlib.Core.Path.{◌≡◌, refl, sym, ◌∙◌}
use borrow.Author.Tests.{eqb-true, ltb-true, not-true, not-false}
use native.Mathlib.Omega.{arith}
use lib.ListN.{length, get_or}
use lib.Dec.{eqb, ltb}
use Rattle.indices.specs.Tests.{all, any, lead}
use Rattle.indices.proofs.Steps.{by_truth}
use Rattle.indices.proofs.Tests.{or_left, or_right, and_left, and_right, any_at, all_at}
use Rattle.sheet.specs.Words.{words, word, kind, payload, bytes_of}
use Rattle.sheet.specs.Sections.{kind_from}
use Rattle.sheet.proofs.Samples.{hall_a, one_node, flat_hall}
use Rattle.judgement.specs.Form.{wrong_size, wrong_holds, out_of_order}
use Rattle.judgement.specs.Kinds.{may_begin, may_follow, may_end, wrong_first, wrong_neighbours, wrong_last, wrong_kinds}
use Rattle.judgement.specs.Kinds.{Ordered, Begins, Follows, Ends, ByCases}
use Rattle.judgement.proofs.Order.{by_cases_or_holds}

-- IN A SHEET IN ORDER NOTHING SAYS NO
module _ (b : List ℕ) (order : out_of_order b ≡ false) where
  none_wrong : (wrong_first b || any (wrong_neighbours b) (words b - 1) ≡ false) × (wrong_last b ≡ false)
  unfolding wrong_kinds
  none_wrong =
      let none : wrong_kinds b ≡ false = or_left (wrong_kinds b) _ (sym (by_cases_or_holds b) ∙ order) in (
        or_left (wrong_first b || any (wrong_neighbours b) (words b - 1)) (wrong_last b) none,
        or_right (wrong_first b || any (wrong_neighbours b) (words b - 1))
            (wrong_last b) none,
      )

  first_yes : may_begin (kind b 0) ≡ true
  first_yes = not-false _ (or_right (eqb (words b) 0) _ (or_left (wrong_first b) _ none_wrong.0))

  neighbours_yes : (i : ℕ) → i + 1 < words b → may_follow (kind b i) (kind b (i + 1)) ≡ true
  neighbours_yes i l = not-false _ (any_at (wrong_neighbours b) (words b - 1) i (or_right (wrong_first b) _ none_wrong.0) (omega arith))

  last_yes : (i : ℕ) → i + 1 ≡ words b → may_end (kind b i) ≡ true
  last_yes i e = let place : words b - 1 ≡ i = omega arith in not-false _ (rw place at none_wrong.1)

-- FOR EACH YES A SHEET
-- a node count and a source, and no span
abbrev no_span : List ℕ
no_span = 0x10000001 ∷ 0x20000000 ∷ []

-- what is computed of a sheet that is given: its entries are bytes, 1 does not apply, nothing says no, and the number of holds is right
abbrev in_order : List ℕ → Bool
in_order b = all (λ i. ltb (get_or b i 0) 256) (length b) && (not (wrong_size b) && not (wrong_kinds b || wrong_holds b))

in_order_lem : (b : List ℕ) → in_order b ≡ true → Ordered b
in_order_lem b e =
    let each = all (λ i. ltb (get_or b i 0) 256) (length b) in
    let rest = and_right each _ e in record {
      bytes = λ i l. ltb-true (get_or b i 0) 256 (all_at (λ i. ltb (get_or b i 0) 256) (length b) i (and_left each _ e) l);
      size = not-true (wrong_size b) (and_left (not (wrong_size b)) _ rest);
      order = by_cases_or_holds b ∙ not-true (wrong_kinds b || wrong_holds b) (and_right (not (wrong_size b)) _ rest);
    }

-- the sheets: hall A and the one-node hall, a hall with an arc on region 0, and short ones, most of which a later number refuses
record Sheets : Type 0 where
  hall_a_lem : Ordered (bytes_of hall_a)
  inner_last : Ordered (bytes_of (hall_a ++ (0x60000000 ∷ [])))
  flat : Ordered (bytes_of (flat_hall 2 (1 ∷ [])))
  one_node_lem : Ordered (bytes_of one_node)
  one_node_inner : Ordered (bytes_of (one_node ++ (0x60000000 ∷ [])))
  one_node_leaf : Ordered (bytes_of (one_node ++ (0x70000000 ∷ [])))
  no_span_lem : Ordered (bytes_of no_span)
  no_span_arc : Ordered (bytes_of (no_span ++ (0x40000000 ∷ 0x50000000 ∷ [])))
  no_span_inner : Ordered (bytes_of (no_span ++ (0x60000000 ∷ [])))
  no_span_leaf : Ordered (bytes_of (no_span ++ (0x70000000 ∷ [])))
  no_span_hold : Ordered (bytes_of (no_span ++ (0xd0000000 ∷ [])))
  one_node_hold : Ordered (bytes_of (one_node ++ (0xd0000000 ∷ [])))
  two_holds : Ordered (bytes_of (0x10000002 ∷ 0x20000000 ∷ 0xd0000000 ∷ 0xd0000000 ∷ []))
  hold_arc : Ordered (bytes_of (no_span ++ (0xd0000000 ∷ 0x40000000 ∷ 0x50000000 ∷ [])))
  hold_inner : Ordered (bytes_of (no_span ++ (0xd0000000 ∷ 0x60000000 ∷ [])))
  hold_leaf : Ordered (bytes_of (no_span ++ (0xd0000000 ∷ 0x70000000 ∷ [])))

sheets : Sheets
unfolding all any lead word kind payload kind_from wrong_size wrong_kinds wrong_holds may_begin may_follow may_end
sheets = record {
  hall_a_lem = in_order_lem _ refl;
  inner_last = in_order_lem _ refl;
  flat = in_order_lem _ refl;
  one_node_lem = in_order_lem _ refl;
  one_node_inner = in_order_lem _ refl;
  one_node_leaf = in_order_lem _ refl;
  no_span_lem = in_order_lem _ refl;
  no_span_arc = in_order_lem _ refl;
  no_span_inner = in_order_lem _ refl;
  no_span_leaf = in_order_lem _ refl;
  no_span_hold = in_order_lem _ refl;
  one_node_hold = in_order_lem _ refl;
  two_holds = in_order_lem _ refl;
  hold_arc = in_order_lem _ refl;
  hold_inner = in_order_lem _ refl;
  hold_leaf = in_order_lem _ refl;
}

-- the first word of such a sheet, two neighbouring ones, and the last
front : {b : List ℕ} → Ordered b → ltb 0 (words b) ≡ true → Begins (kind b 0)
front o inside = record { sheet = _; ordered = o; inside = ltb-true 0 _ inside; first = refl }

pair : {b : List ℕ} → Ordered b → (i : ℕ) → ltb (i + 1) (words b) ≡ true → Follows (kind b i) (kind b (i + 1))
pair o i inside = record { sheet = _; ordered = o; place = i; inside = ltb-true (i + 1) _ inside; first = refl; second = refl }

end : {b : List ℕ} → Ordered b → (i : ℕ) → eqb (i + 1) (words b) ≡ true → Ends (kind b i)
end o i last = record { sheet = _; ordered = o; place = i; last = eqb-true (i + 1) _ last; kind_there = refl }

-- one of two tests says yes; a kind is the one that is asked for
infixl 20 ◌or◌
◌or◌ {ℓ} : {P : Type ℓ} {x y : Bool} → (x ≡ true → P) → (y ≡ true → P) → x || y ≡ true → P
◌or◌ {x = x} f g e = by_truth x f (λ no. g (rw no at e))

is {ℓ} : (P : ℕ → Type ℓ) {k n : ℕ} → P n → eqb k n ≡ true → P k
is P {k = k} {n = n} p e = rw (eqb-true k n e) p

-- a sheet for each kind that a case names
module _ {k : ℕ} where
  after_node_count : eqb k 2 ≡ true → Follows 1 k
  unfolding kind word
  after_node_count = is (Follows 1) (pair sheets.hall_a_lem 0 refl)

  after_source : eqb k 3 || eqb k 13 || eqb k 4 || eqb k 6 || eqb k 7 ≡ true → Follows 2 k
  unfolding kind word
  after_source =
      is (Follows 2) (pair sheets.hall_a_lem 1 refl) or is (Follows 2) (pair sheets.no_span_hold 1 refl) or is (Follows 2) (pair sheets.no_span_arc 1 refl)
      or is (Follows 2) (pair sheets.no_span_inner 1 refl) or is (Follows 2) (pair sheets.no_span_leaf 1 refl)

  after_span : eqb k 3 || eqb k 13 || eqb k 4 || eqb k 6 || eqb k 7 ≡ true → Follows 3 k
  unfolding kind word
  after_span =
      is (Follows 3) (pair sheets.hall_a_lem 2 refl) or is (Follows 3) (pair sheets.one_node_hold 2 refl) or is (Follows 3) (pair sheets.hall_a_lem 3 refl)
      or is (Follows 3) (pair sheets.one_node_inner 2 refl) or is (Follows 3) (pair sheets.one_node_leaf 2 refl)

  after_hold : eqb k 13 || eqb k 4 || eqb k 6 || eqb k 7 ≡ true → Follows 13 k
  unfolding kind word
  after_hold =
      is (Follows 13) (pair sheets.two_holds 2 refl) or is (Follows 13) (pair sheets.hold_arc 2 refl)
      or is (Follows 13) (pair sheets.hold_inner 2 refl) or is (Follows 13) (pair sheets.hold_leaf 2 refl)

  after_ends : eqb k 5 ≡ true → Follows 4 k
  unfolding kind word
  after_ends = is (Follows 4) (pair sheets.hall_a_lem 4 refl)

  after_length : eqb k 4 || eqb k 6 || eqb k 7 ≡ true → Follows 5 k
  unfolding kind word
  after_length =
      is (Follows 5) (pair sheets.hall_a_lem 5 refl) or is (Follows 5) (pair sheets.hall_a_lem 11 refl) or is (Follows 5) (pair sheets.flat 4 refl)

  after_inner : eqb k 6 || eqb k 7 ≡ true → Follows 6 k
  unfolding kind word
  after_inner = is (Follows 6) (pair sheets.hall_a_lem 12 refl) or is (Follows 6) (pair sheets.hall_a_lem 13 refl)

  after_leaf : eqb k 6 || eqb k 7 ≡ true → Follows 7 k
  unfolding kind word
  after_leaf = is (Follows 7) (pair sheets.inner_last 17 refl) or is (Follows 7) (pair sheets.hall_a_lem 14 refl)

  begin_shown : may_begin k ≡ true → Begins k
  unfolding may_begin kind word
  begin_shown = is Begins (front sheets.hall_a_lem refl)

  end_shown : may_end k ≡ true → Ends k
  unfolding may_end kind word
  end_shown =
      is Ends (end sheets.no_span_lem 1 refl) or is Ends (end sheets.one_node_lem 2 refl) or is Ends (end sheets.no_span_hold 2 refl)
      or is Ends (end sheets.no_span_arc 3 refl)
      or is Ends (end sheets.inner_last 18 refl) or is Ends (end sheets.hall_a_lem 17 refl)

module _ {before k : ℕ} where
  -- the case of kind n, and the cases after it
  arm : (n : ℕ) {p q : Bool} → (p ≡ true → Follows n k) → (q ≡ true → Follows before k) → (if eqb before n then p else q) ≡ true → Follows before k
  arm n shown others e = by_truth (eqb before n) (λ h. rw (eqb-true before n h) (shown (rw h at e))) (λ h. others (rw h at e))

  follow_shown : may_follow before k ≡ true → Follows before k
  unfolding may_follow
  follow_shown =
      arm 1 after_node_count (arm 2 after_source (arm 3 after_span (arm 13 after_hold (arm 4 after_ends (arm 5 after_length (arm 6 after_inner (arm 7 after_leaf
      (λ e. absurd (false≢true e)))))))))

-- THE CLAIM
pub by_cases : ByCases
by_cases = record {
  follows = λ before k. (follow_shown, λ s. rw (← s.first, ← s.second) (neighbours_yes s.sheet s.ordered.order s.place s.inside));
  begins = λ k. (begin_shown, λ s. rw (← s.first) (first_yes s.sheet s.ordered.order));
  ends = λ k. (end_shown, λ s. rw (← s.kind_there) (last_yes s.sheet s.ordered.order s.place s.last));
  judged = by_cases_or_holds;
}
