use mathlib.Core.Path.{◌≡◌}
use mathlib.Core.Bool.{true}
use Rattle.indices.specs.Tests.{all}
use Rattle.table_shortest.specs.WalkChecks.{node_led}
use Rattle.table_shortest.specs.Stamps.{Stamped}
use Rattle.table_shortest.proofs.walk.all_led.Given as goal

abbrev pub invariant-loop-v : goal.invariant-loop-v
invariant-loop-v l = (all (node_led l.table.sheet.now l.table.words.now) l.v ≡ true) × Stamped l.table.sheet.now l.table.words.now l.stamps l.v
