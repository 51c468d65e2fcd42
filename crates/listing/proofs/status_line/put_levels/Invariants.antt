use Rattle.listing.specs.Inner.{Wrote}
use Rattle.listing.specs.Listing.{levels}
use Rattle.listing.proofs.status_line.put_levels.Given as goal

-- the counts of the heights passed are written
abbrev pub invariant-loop-i : goal.invariant-loop-i
invariant-loop-i l = Wrote l.initial.text (levels l.table l.i) l.text
