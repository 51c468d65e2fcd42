-- The four counts of a run after each kind of counting. Definitions.
use Rattle.std.specs.Prelude.{ℕ, ◌+◌}
use Rattle.run_counts.specs.declared.Counts.{Counts}

-- a round, a leaf and an inner region more
abbrev pub round_counted : Counts → Counts
round_counted c = record { rounds = c.rounds + 1; leaves = c.leaves; inner = c.inner; updates = c.updates }

abbrev pub leaf_added : Counts → Counts
leaf_added c = record { rounds = c.rounds; leaves = c.leaves + 1; inner = c.inner; updates = c.updates }

abbrev pub inner_counted : Counts → Counts
inner_counted c = record { rounds = c.rounds; leaves = c.leaves; inner = c.inner + 1; updates = c.updates }

-- that many updates
abbrev pub updates_set : Counts → ℕ → Counts
updates_set c updates = record { rounds = c.rounds; leaves = c.leaves; inner = c.inner; updates = updates }
