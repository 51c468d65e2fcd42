-- What a table has that 32 does not refuse: the longer length, the kind of its place in each word, and a status and key words of 0 or 1.
use Prim.Native.Nat.{ℕ, ◌+◌, ◌*◌, ◌≤◌, ◌<◌}
use mathlib.Core.Bool.{true, false, not, ◌||◌}
use mathlib.Core.Path.{◌≡◌}
use mathlib.Core.List.{List}
use borrow.Author.Tests.{eqb-true, ltb-false, not-false}
use lib.ListN.{length}
use lib.Dec.{ltb, eqb}
use Rattle.indices.specs.Tests.{any}
use Rattle.indices.proofs.Tests.{or_left, or_right, any_at}
use Rattle.sheet.specs.Sections.{node_count, arc_count}
use Rattle.procedure.specs.Table.{header_length, counts_length}
use Rattle.calls.specs.Tables.{long_length, is_long, kind_in, payload_in, status_in, key_place}
use Rattle.calls.specs.Routes.{wrong_kind, wrong_count, wrong_node, wrong_key, wrong_keys, malformed}
use Rattle.calls.specs.Resume.{not_long}

pub record Formed (b table : List ℕ) : Type 0 where
  pub long : length table ≡ long_length (node_count b) (arc_count b)
  pub first : kind_in table 0 ≡ 8
  pub count : (i : ℕ) → i < 2 * counts_length → kind_in table (1 + i) ≡ 11
  pub status : status_in table ≤ 1
  pub label : (v : ℕ) → v < node_count b → kind_in table (header_length + 2 * v) ≡ 9
  pub predecessor : (v : ℕ) → v < node_count b → kind_in table (header_length + 2 * v + 1) ≡ 10
  pub key : (a : ℕ) → a < arc_count b → kind_in table (key_place (node_count b) a) ≡ 12
  pub flag : (a : ℕ) → a < arc_count b → payload_in table (key_place (node_count b) a) ≤ 1

-- a kind that is not wrong is right
right : (x kind : ℕ) → not (eqb x kind) ≡ false → x ≡ kind
right x kind e = eqb-true x kind (not-false _ e)

module _ (b table : List ℕ) where
  abbrev n : ℕ
  n = node_count b

  -- the words of a node, of an arc
  label_right : (v : ℕ) → wrong_node table (arc_count b) v ≡ false → kind_in table (header_length + 2 * v) ≡ 9
  unfolding wrong_node
  label_right v e =
      let label = wrong_kind table (header_length + 2 * v) 9 in
      right _ 9 (or_left label _ (or_left (label || wrong_kind table (header_length + 2 * v + 1) 10) _ e))

  predecessor_right : (v : ℕ) → wrong_node table (arc_count b) v ≡ false → kind_in table (header_length + 2 * v + 1) ≡ 10
  unfolding wrong_node
  predecessor_right v e =
      let label = wrong_kind table (header_length + 2 * v) 9 in
      right _ 10 (or_right label _ (or_left (label || wrong_kind table (header_length + 2 * v + 1) 10) _ e))

  module _ (e : not_long b table ≡ false) where
    is_long_lem : is_long b table ≡ true
    unfolding not_long
    is_long_lem = not-false _ (or_left (not (is_long b table)) _ e)

    not_malformed : malformed b table ≡ false
    unfolding not_long
    not_malformed = or_right (not (is_long b table)) _ e

    keys_fit : (a : ℕ) → a < arc_count b → wrong_keys b table ≡ false → wrong_key table n a ≡ false
    unfolding wrong_keys
    keys_fit a la w = any_at _ (arc_count b) a (rw is_long_lem at w) la

    pub formed : Formed b table
    unfolding malformed is_long
    formed =
        let header = wrong_kind table 0 8 || any (wrong_count table) (2 * counts_length) in
        let front = or_left header _ not_malformed in
        let behind = or_right header _ not_malformed in
        let words = or_right (ltb 1 (status_in table)) _ behind in
        let nodes = any (wrong_node table (arc_count b)) n in
        let node : (v : ℕ) → v < n → wrong_node table (arc_count b) v ≡ false = λ v l. any_at _ n v (or_left nodes _ words) l in
        let key : (a : ℕ) → a < arc_count b → wrong_key table n a ≡ false = λ a la. keys_fit a la (or_right nodes _ words) in
        record {
          long = eqb-true _ _ is_long_lem;
          first = right _ 8 (or_left (wrong_kind table 0 8) _ front);
          count = λ i l. right _ 11 (any_at _ (2 * counts_length) i (or_right (wrong_kind table 0 8) _ front) l);
          status = ltb-false 1 (status_in table) (or_left (ltb 1 (status_in table)) _ behind);
          label = λ v l. label_right v (node v l);
          predecessor = λ v l. predecessor_right v (node v l);
          key = λ a la. right _ 12 (or_left (wrong_kind table (key_place n a) 12) _ (key a la));
          flag = λ a la. ltb-false 1 _ (or_right (wrong_kind table (key_place n a) 12) _ (key a la));
        }
