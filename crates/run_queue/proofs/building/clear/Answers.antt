-- `clear` meets its contract: the children are entered, and the trees of the regions passed are valid.
use native.Mathlib.Omega.{arith}
use Rattle.run_queue.proofs.building.Building.{valid_none, valid_regions}
use Rattle.run_queue.proofs.building.clear.Goals as goal

pub loop-r-init : goal.loop-r-init
loop-r-init c = λ d B e. valid_none (c.enter_children.ensures d B e)

pub build_tree-requires : goal.build_tree-requires
build_tree-requires c =
    let pre = c.requires in
    record {
      division = _;
      keys = _;
      below = c.loop-r.invariant _ pre.buildable pre.all_regions;
      inside = omega (arith, c.loop-r-test.true, pre.all_regions);
    }

pub loop-r-preserved : goal.loop-r-preserved
loop-r-preserved c = λ d B e. c.build_tree.ensures d _ (c.loop-r.invariant d B e) (omega (arith, c.loop-r-test.true, e))

pub returns : goal.returns
returns c d B e = valid_regions (c.loop-r.invariant d B e) (omega (arith, c.loop-r-test.false, e))
