-- `build_tree` meets its contract: the places of the tree are decided from the last one down.
use Rattle.run_queue.proofs.building.Building.{building_start, building_in, building_step, building_end}
use Rattle.run_queue.proofs.building.build_tree.Goals as goal

pub loop-place-init : goal.loop-place-init
loop-place-init c = λ d keys B inside. building_start B inside c.start_of-start.ensures c.children_of-children.ensures

pub decide-requires : goal.decide-requires
decide-requires c = building_in (c.loop-place.invariant _ _ c.requires.below c.requires.inside) c.loop-place-test.true

pub loop-place-preserved : goal.loop-place-preserved
loop-place-preserved c = λ d keys B inside. building_step (c.loop-place.invariant d keys B inside) c.loop-place-test.true c.decide.ensures

pub returns : goal.returns
returns c d keys B inside = building_end (c.loop-place.invariant d keys B inside) c.loop-place-test.false
