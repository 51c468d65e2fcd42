use Rattle.listing.specs.Inner.{Wrote}
use Rattle.listing.specs.Listing.{node_lines}
use Rattle.listing.proofs.node_lines.put_node_lines.Given as goal

-- the lines of the nodes below v are written
abbrev pub invariant-loop-v : goal.invariant-loop-v
invariant-loop-v l = Wrote l.initial.text (node_lines l.table l.v) l.text
