-- `new` makes a table that fits and has the longer length.
use native.Mathlib.Omega.{arith}
use Rattle.calls.proofs.Outcome.{long_length_lem}
use Rattle.table.proofs.lent.LongTable.new.Goals as goal

pub invariant_of-result : goal.invariant_of-result
invariant_of-result c = record { fits = record { accepted = c.requires.0; sized = omega (arith, long_length_lem _ _ c.requires.1) } }

pub invariant_of-result-2 : goal.invariant_of-result-2
invariant_of-result-2 c = record { long = long_length_lem _ _ c.requires.1 }
