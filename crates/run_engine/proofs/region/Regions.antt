-- What the entry of a region among the regions' arcs tells: whether it is a leaf, and its key.
use Prim.Native.Nat.{ℕ, zero, suc, ◌-◌, ◌≤◌, ◌<◌, pred}
use mathlib.Core.Bool.{true, false}
use mathlib.Core.Path.{◌≡◌, refl, sym, ap, ◌∙◌}
use mathlib.Core.Logic.{◌≢◌}
use mathlib.Core.List.{List}
use native.Mathlib.Omega.{arith}
use lib.Seq.{get_or-take}
use Rattle.indices.specs.Columns.{at}
use Rattle.indices.proofs.Steps.{by_truth}
use Rattle.sheet.specs.Limits.{most_arcs}
use Rattle.procedure.specs.Graph.{Graph, arcs}
use Rattle.procedure.specs.Division.{Division, regions, arc_of, is_leaf}
use Rattle.procedure.specs.State.{Queues}
use Rattle.procedure.specs.Queues.{min_key}
use Rattle.theory_shortest.specs.WellFormed.{DivisionOk}
use Rattle.theory.proofs.Chosen.{min_key_leaf}
use Rattle.run_arrays.specs.Sections.{most_regions}
use Rattle.run_arrays.specs.declared.arrays.Layout.{Layout}
use Rattle.run_arrays.specs.declared.arrays.Keys.{Keys}
use Rattle.run_arrays.specs.Fixed.{RegionArcs, no_arc}
use Rattle.run_arrays.specs.States.{HoldsQueues, Keyed}

-- a is the entry of region r among the regions' arcs
module _ {m : ℕ} {d : Division} {regionArcs : List ℕ} (ok : DivisionOk m d) (few : m ≤ most_arcs) (R : RegionArcs d regionArcs) {r : ℕ} (lr : r < regions d)
    {a : ℕ} (row : a ≡ at regionArcs r) where
  -- it is 'no arc' where r is inner
  pub entry_inner : a ≡ no_arc → is_leaf d r ≡ false
  entry_inner e = by_truth (is_leaf d r) (λ leaf. absurd (omega (arith, row, e, R.leaf r lr leaf, (ok.leaf_arc_lem r lr leaf).0))) (λ inner. inner)

  -- and r's arc where it is a leaf
  pub entry_leaf : a ≢ no_arc → is_leaf d r ≡ true
  entry_leaf n = by_truth (is_leaf d r) (λ leaf. leaf) (λ inner. absurd (n (row ∙ R.inner r lr inner)))

module _ {g : Graph} {d : Division} {layout : Layout} {r : ℕ} (K : Keyed g d layout r) where
  pub keyed_in : r < most_regions
  keyed_in = omega (arith, K.in_range, K.division.few_regions)

  module _ {a : ℕ} (row : a ≡ at layout.region_arcs r) where
    pub key_inner : a ≡ no_arc → is_leaf d r ≡ false
    key_inner e = entry_inner K.division K.few K.region_arcs K.in_range row e

    module _ (n : a ≢ no_arc) where
      is_leaf_lem : is_leaf d r ≡ true
      is_leaf_lem = entry_leaf K.division K.few K.region_arcs K.in_range row n

      arc_is : a ≡ arc_of d r
      arc_is = row ∙ K.region_arcs.leaf r K.in_range is_leaf_lem

      arc_in : a < arcs g
      arc_in = omega (arith, arc_is, (K.division.leaf_arc_lem r K.in_range is_leaf_lem).0)

      pub own_key_in : a < most_arcs
      own_key_in = omega (arith, arc_in, K.few)

      -- a leaf's smallest key is its arc's own
      pub own_key : {q : Queues} {keys : Keys} {n : ℕ} → HoldsQueues g d q layout keys n → at keys.own a ≡ min_key d q r
      own_key {q} {keys} H =
          sym (get_or-take (arcs g) keys.own a 0 arc_in)
          ∙ ap (λ (own : List ℕ). at own a) H.own
          ∙ ap (at q.own) arc_is
          ∙ sym (min_key_leaf d q r is_leaf_lem)

-- the height before a height
pub before_height : (n : ℕ) → n - 1 ≡ pred n
before_height zero = refl
before_height (suc n) = omega arith
