-- `put_status_line` meets its contract: each part is written behind the parts before it, and what is left of the line has room there.
use Rattle.std.proofs.Common.{rules}
use Rattle.listing.proofs.text.Writing.{wrote_then, room_before, room_after}
use Rattle.listing.specs.Listing.{counted, status_line}
use Rattle.listing.proofs.status_line.put_status_line.Goals as goal

pub put_status-requires : goal.put_status-requires
unfolding status_line counted
put_status-requires c = search (rules, room_before) depth 8

pub put_count-requires : goal.put_count-requires
unfolding status_line counted
put_count-requires c = search (rules, room_before, room_after) depth 8

-- the line so far, after each count
pub put_count-requires-2 : goal.put_count-requires-2
unfolding status_line counted
put_count-requires-2 c = (search rules, search rules, room_after (wrote_then c.put_status.ensures c.put_count.ensures) (search (rules, room_before)))

pub put_inner-requires : goal.put_inner-requires
unfolding status_line counted
put_inner-requires c =
    let leaves = wrote_then (wrote_then c.put_status.ensures c.put_count.ensures) c.put_count-2.ensures in
    (search rules, search rules, room_after leaves (search (rules, room_before)))

pub put_count-requires-3 : goal.put_count-requires-3
unfolding status_line counted
put_count-requires-3 c =
    let leaves = wrote_then (wrote_then c.put_status.ensures c.put_count.ensures) c.put_count-2.ensures in
    let levels = wrote_then leaves c.put_inner.ensures in
    (search rules, search rules, room_after levels (search (rules, room_before)))

pub put_byte-requires : goal.put_byte-requires
unfolding status_line counted
put_byte-requires c =
    let leaves = wrote_then (wrote_then c.put_status.ensures c.put_count.ensures) c.put_count-2.ensures in
    let levels = wrote_then leaves c.put_inner.ensures in
    room_after (wrote_then levels c.put_count-3.ensures) c.requires.2

pub returns : goal.returns
unfolding status_line counted
returns c =
    let leaves = wrote_then (wrote_then c.put_status.ensures c.put_count.ensures) c.put_count-2.ensures in
    let levels = wrote_then leaves c.put_inner.ensures in
    wrote_then (wrote_then levels c.put_count-3.ensures) c.put_byte.ensures
