-- `rebuild` meets its contract: the trees are built without a key, and the keys of all arcs are entered.
use borrow.Author.Rules.{rules}
use Rattle.sheet.specs.Words.{top}
use Rattle.run_arrays.proofs.trees.Room.{can_build}
use Rattle.resume.proofs.queues.Rebuilding.{keys_cleared, keys_rebuilt}
use Rattle.resume.proofs.queues.rebuild.Goals as goal

pub enter_keys-updates-requires : goal.enter_keys-updates-requires
unfolding top
enter_keys-updates-requires c =
    -- THE TREES are built
    let laid = c.requires.relaid.laid in
    let cleared = c.clear.ensures _ (can_build laid.fixed_ok.ok.division laid.fixed_ok.heights laid.planned (search rules)) c.requires.all_regions in
    keys_cleared c.requires _ cleared

pub returns : goal.returns
returns c = keys_rebuilt c.requires _ c.enter_keys-updates.ensures
