-- `number_arcs` meets its contract: the arcs are numbered.
use Rattle.std.proofs.Common.{rules}
use Rattle.conversion.specs.Converted.{kept_arc, new_arc}
use Rattle.conversion_numbers.proofs.arcs.number_arcs.Goals as goal

pub returns : goal.returns
unfolding new_arc
returns c = rw (← c.arcs.ensures) (c.number.ensures (kept_arc c.args.s.now) (λ i b l told. search rules))
