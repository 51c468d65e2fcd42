use Rattle.table_shortest.proofs.walk.Walks.{Walking, unstamped}
use Rattle.table_shortest.proofs.walk.node_led.Given as goal

abbrev pub invariant-loop-u : goal.invariant-loop-u
invariant-loop-u l = Walking l.table.sheet.now l.table.words.now l.stamps l.initial.u.0 l.u.0

abbrev pub decreases-loop-u : goal.decreases-loop-u
decreases-loop-u l = unstamped l.table.sheet.now l.stamps
