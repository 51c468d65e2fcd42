-- Up to so many rounds from the start are the state after that many rounds, and its counts fit.
use Prim.Native.Nat.{ℕ}
use mathlib.Core.Path.{◌≡◌, refl}
use mathlib.Core.List.{List}
use Rattle.sheet.specs.Limits.{most_arcs_each_way}
use Rattle.procedure.specs.Graph.{Graph}
use Rattle.procedure.specs.Division.{Division}
use Rattle.procedure.specs.Procedure.{start, more, after, after_by}
use Rattle.theory_shortest.specs.WellFormed.{WellFormed}
use Rattle.theory.specs.Counts.{Small}
use Rattle.theory.proofs.Final.{few_each_way, after_small}

pub after_start : (g : Graph) (d : Division) (spans : List ℕ) (limit : ℕ) → more g d spans limit (start g d) ≡ after g d spans limit
unfolding after_by
after_start g d spans limit = refl

pub started_small : {g : Graph} {d : Division} {spans : List ℕ} → WellFormed most_arcs_each_way g d spans → (limit : ℕ)
    → Small (more g d spans limit (start g d))
started_small {g} {d} {spans} ok limit = rw (after_start g d spans limit) (after_small ok few_each_way limit)
