use lib.ListN.{length}
use Rattle.run_arrays.proofs.rows.Links.{Linking}
use Rattle.run_arrays.proofs.rows.link.Given as goal

abbrev pub invariant-loop-a : goal.invariant-loop-a
invariant-loop-a l = Linking l.initial.arcs (length l.initial.firsts) l.arcs l.firsts l.a
