-- `put_node_line` meets its contract: each part is written behind the parts before it, and what is left of the line has room there.
use Rattle.std.proofs.Common.{rules}
use Rattle.listing.proofs.text.Writing.{wrote_then, room_before, room_after}
use Rattle.listing.specs.Listing.{node_line}
use Rattle.listing.proofs.node_lines.put_node_line.Goals as goal

pub put_number-requires : goal.put_number-requires
unfolding node_line
put_number-requires c = search (rules, room_before)

pub put_payload-requires : goal.put_payload-requires
unfolding node_line
put_payload-requires c = search (rules, room_before, room_after)

-- the line so far, to the distance
pub put_payload-requires-2 : goal.put_payload-requires-2
unfolding node_line
put_payload-requires-2 c = (search rules, room_after (wrote_then c.put_number.ensures c.put_payload.ensures) (search (rules, room_before)))

-- and to the feeding arc
pub put_byte-requires : goal.put_byte-requires
unfolding node_line
put_byte-requires c = room_after (wrote_then (wrote_then c.put_number.ensures c.put_payload.ensures) c.put_payload-2.ensures) c.requires.1

pub returns : goal.returns
unfolding node_line
returns c = wrote_then (wrote_then (wrote_then c.put_number.ensures c.put_payload.ensures) c.put_payload-2.ensures) c.put_byte.ensures
