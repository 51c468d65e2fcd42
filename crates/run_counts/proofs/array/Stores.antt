-- What a store into the array of the counts does to its figures: one of them changes, and the others are read elsewhere.
use Prim.Native.Nat.{ℕ, ◌+◌, ◌<◌}
use mathlib.Core.Path.{◌≡◌, sym, ap, ◌∙◌}
use mathlib.Core.List.{List}
use native.Mathlib.Omega.{arith}
use lib.ListN.{length, set, take, drop, length-set}
use lib.Seq.{get_or-set_same, get_or-set_other, get_or-take, get_or-drop, drop-set-lt, drop-set-add, take-set-le, take-set-lt}
use Rattle.indices.specs.Columns.{at}
use Rattle.sheet.specs.Limits.{most_spans}
use Rattle.procedure.specs.Table.{inner_place, updates_place, counts_length}
use Rattle.run_counts.specs.declared.Counts.{Counts}
use Rattle.run_counts.specs.Counted.{round_counted, leaf_added, inner_counted, updates_set}
use Rattle.run_counts.specs.Figures.{rounds_in, leaves_in, inner_in, updates_in, figures_in, counts_at, round_more, leaf_more, inner_more}

-- the count at a level is read behind rounds and leaves
pub level_at : (counts : List ℕ) (level : ℕ) → level < most_spans → at counts (inner_place + level) ≡ at (inner_in counts) level
unfolding inner_in
level_at counts level l = sym (get_or-take most_spans (drop inner_place counts) level 0 l ∙ get_or-drop inner_place counts level 0)

module _ (counts : List ℕ) (all : length counts ≡ counts_length) where
  pub round_stored : (c grown : Counts) → c ≡ counts_at (figures_in counts) 0 → grown ≡ round_counted c
      → figures_in (set counts 0 grown.rounds) ≡ round_more (figures_in counts)
  unfolding rounds_in leaves_in inner_in updates_in
  round_stored c grown was more =
      let n = grown.rounds in
      rw (
        get_or-set_same counts 0 n 0 (omega arith) ∙ ap (λ (k : Counts). k.rounds) more ∙ ap (λ (k : Counts). k.rounds + 1) was,
        get_or-set_other counts 0 1 n 0 (λ w. omega arith),
        drop-set-lt inner_place counts 0 n (omega arith),
        get_or-set_other counts 0 updates_place n 0 (λ w. omega arith),
      )

  pub leaf_stored : (c grown told : Counts) {updates : ℕ} → c ≡ counts_at (figures_in counts) 0 → grown ≡ leaf_added c → told ≡ updates_set grown updates
      → figures_in (set (set counts 1 told.leaves) updates_place told.updates) ≡ leaf_more (figures_in counts) updates
  unfolding rounds_in leaves_in inner_in updates_in
  leaf_stored c grown told {updates} was more last =
      let m = told.leaves in
      let n = told.updates in
      let one = set counts 1 m in
      let leaves = ap (λ (k : Counts). k.leaves) last ∙ ap (λ (k : Counts). k.leaves) more ∙ ap (λ (k : Counts). k.leaves + 1) was in
      rw (
        get_or-set_other one updates_place 0 n 0 (λ w. omega arith) ∙ get_or-set_other counts 1 0 m 0 (λ w. omega arith),
        get_or-set_other one updates_place 1 n 0 (λ w. omega arith) ∙ get_or-set_same counts 1 m 0 (omega arith) ∙ leaves,
        ap (take most_spans) (drop-set-add inner_place one most_spans n)
            ∙ take-set-le most_spans (drop inner_place one) most_spans n (omega arith)
            ∙ ap (take most_spans) (drop-set-lt inner_place counts 1 m (omega arith)),
        get_or-set_same one updates_place n 0 (omega (arith, length-set counts 1 m)) ∙ ap (λ (k : Counts). k.updates) last,
      )

  pub inner_stored : {level : ℕ} (c grown : Counts) → level < most_spans → c ≡ counts_at (figures_in counts) level → grown ≡ inner_counted c
      → figures_in (set counts (inner_place + level) grown.inner) ≡ inner_more (figures_in counts) level
  unfolding rounds_in leaves_in inner_in updates_in
  inner_stored {level} c grown l was more =
      let n = grown.inner in
      let inner = ap (λ (k : Counts). k.inner) more ∙ ap (λ (k : Counts). k.inner + 1) was in
      rw (
        get_or-set_other counts (inner_place + level) 0 n 0 (λ w. omega arith),
        get_or-set_other counts (inner_place + level) 1 n 0 (λ w. omega arith),
        ap (take most_spans) (drop-set-add inner_place counts level n) ∙ take-set-lt most_spans (drop inner_place counts) level n l
            ∙ ap (set (take most_spans (drop inner_place counts)) level) inner,
        get_or-set_other counts (inner_place + level) updates_place n 0 (λ w. omega arith),
      )
