-- `put_levels` meets its contract: each turn writes the next count behind those of the heights passed.
use Rattle.std.proofs.Common.{rules}
use Rattle.listing.specs.Listing.{counted, levels}
use Rattle.listing.proofs.text.Writing.{wrote_none, wrote_then}
use Rattle.listing.proofs.status_line.StatusLine.{level_more, level_room}
use Rattle.listing.proofs.status_line.put_levels.Goals as goal

pub loop-i-init : goal.loop-i-init
unfolding levels
loop-i-init c = wrote_none

pub put_count-requires : goal.put_count-requires
unfolding counted
put_count-requires c = search (rules, level_room)

pub loop-i-preserved : goal.loop-i-preserved
unfolding counted
loop-i-preserved c = rw level_more (search (rules, wrote_then))
