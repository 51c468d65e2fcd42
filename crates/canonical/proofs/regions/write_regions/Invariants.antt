use Prim.Native.Nat.{ℕ}
use mathlib.Core.List.{List}
use Rattle.canonical.specs.Writing.{Writable}
use Rattle.canonical.proofs.regions.Regions.{Placing}
use Rattle.canonical.proofs.regions.write_regions.Given as goal

abbrev pub invariant-loop-k : goal.invariant-loop-k
invariant-loop-k l = (b : List ℕ) → Writable b l.d l.numbers l.e l.initial.out → Placing b l.numbers l.e l.initial.out l.out l.k
