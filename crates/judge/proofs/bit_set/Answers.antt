-- `bit_set` meets its contract: a sheet of few words has few arcs.
use native.Mathlib.Omega.{arith}
use Rattle.sheet.proofs.Bounds.{arcs_few}
use Rattle.judge.proofs.bit_set.Goals as goal

pub bit_set-requires : goal.bit_set-requires
bit_set-requires c = omega (arith, arcs_few c.args.s.now)
