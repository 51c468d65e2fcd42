-- The bound on labels, with the reached nodes counted by the table's words, is the bound of the test.
use Prim.Native.Nat.{ℕ, zero, suc, ◌-◌, ◌*◌, ◌≤◌, ◌<◌}
use native.Mathlib.Omega.{arith}
use mathlib.Core.Bool.{Bool}
use mathlib.Core.Path.{◌≡◌, refl, sym, ap, ◌∙◌}
use mathlib.Core.List.{List}
use lib.Dec.{ltb}
use Rattle.indices.specs.Tests.{all, count}
use Rattle.indices.proofs.Tests.{count_ext, count_le}
use Rattle.sheet.specs.Limits.{most_length}
use Rattle.sheet.specs.Words.{top}
use Rattle.sheet.specs.Sections.{node_count}
use Rattle.procedure.specs.OfSheet.{graph_of}
use Rattle.procedure.proofs.OfSheet.{graph_nodes}
use Rattle.procedure.specs.Routes.{reached}
use Rattle.calls.specs.Possible.{bound_test}
use Rattle.table.specs.Fits.{labels}
use Rattle.table.proofs.read.Columns.{label_there}
use Rattle.table_possible.specs.Held.{reached_in, within, label_bounded}

-- tests that agree
all_ext : (p q : ℕ → Bool) (n : ℕ) → ((i : ℕ) → i < n → p i ≡ q i) → all p n ≡ all q n
unfolding all
all_ext p q zero h = refl
all_ext p q (suc n) h = rw (all_ext p q n (λ i l. h i (omega arith)), h n (omega arith))

module _ (b table : List ℕ) where
  count_there : count (reached_in table) (node_count b) ≡ reached (graph_of b) (labels b table)
  count_there =
      count_ext _ _ (node_count b) (λ v l. ap (λ (x : ℕ). ltb x top) (label_there b table v l))
      ∙ ap (count _) (sym (graph_nodes b))

  -- n of the m nodes are reached
  module _ {n m : ℕ} (em : m ≡ node_count b) (en : n ≡ count (reached_in table) m) where
    pub few_reached : n ≤ node_count b
    few_reached = omega (arith, count_le (reached_in table) m)

    within_bounded : {highest : ℕ} (v : ℕ) → v < node_count b → highest ≡ most_length * (n - 1) → within table highest v ≡ label_bounded b table v
    unfolding bound_test
    within_bounded v l eh = rw (eh, en, em, count_there, label_there b table v l)

    pub all_bounded : {highest : ℕ} → highest ≡ most_length * (n - 1) → all (within table highest) m ≡ all (label_bounded b table) (node_count b)
    all_bounded {highest} eh =
        ap (all (within table highest)) em ∙ all_ext (within table highest) (label_bounded b table) (node_count b) (λ v l. within_bounded v l eh)
