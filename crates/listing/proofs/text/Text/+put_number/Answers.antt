-- `put_number` meets its contract, by the measure of the number: a number below ten is its digit; any other is written as its tenth, then its last digit.
use Rattle.std.proofs.Common.{rules}
use Rattle.listing.proofs.text.Numbers.{digit_room, wrote_digit, tenth_room, last_room, wrote_last}
use Rattle.listing.proofs.text.Text.+put_number.Goals as goal

pub put_byte-requires : goal.put_byte-requires
put_byte-requires t c = search (rules, digit_room)

pub returns-then-n-lt10 : goal.returns-then-n-lt10
returns-then-n-lt10 t c = search (rules, wrote_digit)

pub put_number-requires : goal.put_number-requires
put_number-requires t c = search (rules, tenth_room)

pub put_byte-requires-2 : goal.put_byte-requires-2
put_byte-requires-2 t c = search (rules, last_room)

pub returns : goal.returns
returns t c = search (rules, wrote_last)
