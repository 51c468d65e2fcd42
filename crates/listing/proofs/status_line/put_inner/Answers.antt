-- `put_inner` meets its contract: the name, then the counts.
use Rattle.std.proofs.Common.{rules}
use Rattle.listing.proofs.text.Writing.{wrote_then, room_before, room_after}
use Rattle.listing.specs.Listing.{inner}
use Rattle.listing.proofs.status_line.put_inner.Goals as goal

pub put_text-requires : goal.put_text-requires
unfolding inner
put_text-requires c = search (rules, room_before)

pub put_levels-requires : goal.put_levels-requires
unfolding inner
put_levels-requires c = search (rules, room_after)

pub returns : goal.returns
unfolding inner
returns c = search (rules, wrote_then)
