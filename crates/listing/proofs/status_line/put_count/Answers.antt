-- `put_count` meets its contract: the name, then the number that is read.
use Rattle.std.proofs.Common.{rules}
use Rattle.listing.proofs.text.Writing.{wrote_then, room_before, room_after}
use Rattle.listing.proofs.status_line.put_count.Goals as goal

pub put_text-requires : goal.put_text-requires
put_text-requires c = search (rules, room_before)

pub put_number-requires : goal.put_number-requires
put_number-requires c = rw c.count_of.ensures (search (rules, room_after))

pub returns : goal.returns
returns c = wrote_then c.put_text.ensures (rw c.count_of.ensures at c.put_number.ensures)
