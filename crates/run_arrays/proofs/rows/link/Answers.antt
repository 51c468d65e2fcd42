-- `link` meets its contract: the arcs passed, from the last one back, are linked.
use mathlib.Core.Path.{◌≡◌}
use native.Mathlib.Omega.{arith}
use lib.ListN.{length, replicate}
use Rattle.std.proofs.Common.{rules}
use Rattle.run_arrays.specs.Rows.{row_count}
use Rattle.run_arrays.proofs.rows.Links.{linking_start, linking_tail, linking_step, linking_end}
use Rattle.run_arrays.proofs.rows.link.Goals as goal

pub loop-a-init : goal.loop-a-init
loop-a-init c =
    let filled : c.fill.new.self ≡ replicate (length c.args.firsts.now) (row_count c.args.arcs.now) = search rules in
    linking_start c.requires filled

pub bounds-firsts-v : goal.bounds-firsts-v
bounds-firsts-v c = omega (arith, c.field-v.ensures, linking_tail c.loop-a.invariant c.loop-a-test.true)

pub bounds-firsts-v-in-loop-a : goal.bounds-firsts-v-in-loop-a
bounds-firsts-v-in-loop-a c = omega (arith, c.field-v.ensures, linking_tail c.loop-a.invariant c.loop-a-test.true)

pub loop-a-preserved : goal.loop-a-preserved
loop-a-preserved c = rw c.set_field.ensures (linking_step c.loop-a.invariant c.loop-a-test.true c.field-v.ensures)

pub returns : goal.returns
returns c = linking_end c.requires.short c.loop-a.invariant c.loop-a-test.false
