use Rattle.route.proofs.arcs.Following.{Writing}
use Rattle.route.proofs.arcs.write_arcs.Given as goal

abbrev pub invariant-loop-place : goal.invariant-loop-place
invariant-loop-place l = Writing l.table.sheet.now l.table.words.now l.initial.buffer l.initial.u.0 l.arcs l.buffer l.u.0 l.place
