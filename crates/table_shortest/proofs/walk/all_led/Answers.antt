-- `all_led` meets its contract: a scan for `all`. While it goes on, the walks from the nodes passed lead back, and have left their stamps.
use mathlib.Core.Path.{◌≡◌, sym, ◌∙◌}
use mathlib.Core.Bool.{true}
use borrow.Author.Rules.{rules}
use native.Mathlib.Omega.{arith}
use Rattle.indices.proofs.Tests.{all_none, all_more, all_miss, all_end}
use Rattle.table_shortest.specs.WalkChecks.{node_led}
use Rattle.table_shortest.proofs.walk.Walks.{stamps_start}
use Rattle.table_shortest.proofs.walk.all_led.Goals as goal

pub loop-v-init : goal.loop-v-init
loop-v-init c = (all_none _, search (rules, stamps_start))

pub returns-then-not-node_led : goal.returns-then-not-node_led
returns-then-not-node_led c = sym (all_miss _ _ _ (omega arith) (sym c.node_led.ensures.0 ∙ c.if-not-node_led.true))

-- a node that leads back: all do, of one node more
pub loop-v-preserved : goal.loop-v-preserved
loop-v-preserved c =
    let led : node_led c.args.table.now.sheet.now c.args.table.now.words.now c.loop-v.v ≡ true = sym c.node_led.ensures.0 ∙ c.if-not-node_led.false in
    (all_more _ _ (search rules) led, c.node_led.ensures.1 c.if-not-node_led.false)

pub returns : goal.returns
returns c = sym (all_end _ _ _ (omega arith) c.loop-v.invariant.0)
