-- `write_refused` meets its contract: the word, the number and the line end have room and are written one after another.
use Rattle.std.proofs.Common.{rules}
use Rattle.listing.proofs.text.Writing.{wrote_then, room_before, room_after}
use Rattle.listing.specs.Listing.{refused_line}
use Rattle.listing.proofs.Writing.{filled}
use Rattle.listing.proofs.Lines.{refused_room}
use Rattle.listing.proofs.write_refused.Goals as goal

pub put_number-requires : goal.put_number-requires
unfolding refused_line
put_number-requires c =
    rw c.from.ensures (room_after c.put_text.ensures (room_before _ (refused_room c.ranges.n.fits c.new-text.ensures.begun.1 (search rules))))

pub put_byte-requires : goal.put_byte-requires
unfolding refused_line
put_byte-requires c =
    room_after (wrote_then c.put_text.ensures (rw c.from.ensures at c.put_number.ensures))
    (refused_room c.ranges.n.fits c.new-text.ensures.begun.1 (search rules))

pub returns : goal.returns
unfolding refused_line
returns c =
    filled (wrote_then (wrote_then c.put_text.ensures (rw c.from.ensures at c.put_number.ensures)) c.put_byte.ensures) c.new-text.ensures.begun
    (refused_room c.ranges.n.fits c.new-text.ensures.begun.1 (search rules)) (search rules) c.bytes.ensures
