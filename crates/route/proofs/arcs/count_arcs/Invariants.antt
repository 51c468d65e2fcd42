use lib.ListN.{length}
use Rattle.calls.specs.Routes.{route_to}
use Rattle.route.proofs.arcs.Following.{Counting}
use Rattle.route.proofs.arcs.count_arcs.Given as goal

abbrev pub invariant-loop-u : goal.invariant-loop-u
invariant-loop-u l = Counting l.table.sheet.now l.table.words.now l.initial.u.0 l.u.0 l.arcs

abbrev pub decreases-loop-u : goal.decreases-loop-u
decreases-loop-u l = length (route_to l.table.sheet.now l.table.words.now l.u.0)
