-- `put_payload` meets its contract: the space, then the cell of the payload that is read.
use Rattle.std.proofs.Common.{rules}
use Rattle.listing.specs.Listing.{spaced}
use Rattle.listing.proofs.text.Writing.{wrote_then, room_before, room_after}
use Rattle.listing.proofs.cells.put_payload.Goals as goal

pub put_byte-requires : goal.put_byte-requires
unfolding spaced
put_byte-requires c = search (rules, room_before)

pub put_cell-requires : goal.put_cell-requires
unfolding spaced
put_cell-requires c = rw c.payload_at.ensures (search (rules, room_after))

pub returns : goal.returns
unfolding spaced
returns c = wrote_then c.put_byte.ensures (rw c.payload_at.ensures at c.put_cell.ensures)
