-- The eighteen counts of a run in one list, the figures that they are, and what each kind of counting makes of them. Definitions.
use Rattle.std.specs.Prelude.{ℕ, ◌+◌, ◌<◌, ◌≡◌, List, [], ◌∷◌, ◌++◌, length, take, drop, set, replicate}
use Rattle.indices.specs.Columns.{at}
use Rattle.sheet.specs.Limits.{most_spans}
use Rattle.procedure.specs.Table.{inner_place, updates_place, counts_length}
use Rattle.run_counts.specs.declared.Counts.{Counts}

-- Of the inner regions one for each height: entry i is for height i + 1.
pub record Figures : Type 0 where
  pub rounds : ℕ
  pub leaves : ℕ
  pub inner : List ℕ
  pub updates : ℕ

-- in the order of the answer table
module _ (counts : List ℕ) where
  unfoldable pub rounds_in : ℕ
  rounds_in = at counts 0

  unfoldable pub leaves_in : ℕ
  leaves_in = at counts 1

  unfoldable pub inner_in : List ℕ
  inner_in = take most_spans (drop inner_place counts)

  unfoldable pub updates_in : ℕ
  updates_in = at counts updates_place

  abbrev pub figures_in : Figures
  figures_in = record { rounds = rounds_in; leaves = leaves_in; inner = inner_in; updates = updates_in }

-- the figures one behind the other
abbrev pub counts_of : Figures → List ℕ
counts_of f = f.rounds ∷ f.leaves ∷ f.inner ++ (f.updates ∷ [])

-- the four counts at a level, which is a height less one
abbrev pub counts_at : Figures → ℕ → Counts
counts_at f level = record { rounds = f.rounds; leaves = f.leaves; inner = at f.inner level; updates = f.updates }

-- there are eighteen counts, and such a level
pub record HasLevel (counts : List ℕ) (level : ℕ) : Type 0 where
  pub all : length counts ≡ counts_length
  pub in_range : level < most_spans

-- there is such a level, and one more counted there fits 64 bits
pub record InnerFits (f : Figures) (level : ℕ) : Type 0 where
  pub in_range : level < most_spans
  pub fits : at f.inner level + 1 < 18446744073709551616

-- before the first round nothing is counted but updates
abbrev pub started : ℕ → Figures
started updates = record { rounds = 0; leaves = 0; inner = replicate most_spans 0; updates = updates }

abbrev pub round_more : Figures → Figures
round_more f = record { rounds = f.rounds + 1; leaves = f.leaves; inner = f.inner; updates = f.updates }

-- a leaf more, with the updates after its working
abbrev pub leaf_more : Figures → ℕ → Figures
leaf_more f updates = record { rounds = f.rounds; leaves = f.leaves + 1; inner = f.inner; updates = updates }

abbrev pub inner_more : Figures → ℕ → Figures
inner_more f level = record { rounds = f.rounds; leaves = f.leaves; inner = set f.inner level (at f.inner level + 1); updates = f.updates }
