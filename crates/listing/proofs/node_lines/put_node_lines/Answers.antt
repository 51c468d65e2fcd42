-- `put_node_lines` meets its contract: each turn writes one line more behind those of the nodes below.
use Rattle.std.proofs.Common.{rules}
use Rattle.listing.specs.Listing.{node_lines}
use Rattle.listing.proofs.text.Writing.{wrote_none, wrote_then}
use Rattle.listing.proofs.node_lines.NodeLines.{line_room, line_more}
use Rattle.listing.proofs.node_lines.put_node_lines.Goals as goal

pub loop-v-init : goal.loop-v-init
unfolding node_lines
loop-v-init c = wrote_none

pub put_node_line-requires : goal.put_node_line-requires
put_node_line-requires c = search (rules, line_room)

pub loop-v-preserved : goal.loop-v-preserved
loop-v-preserved c = rw line_more (search (rules, wrote_then))
