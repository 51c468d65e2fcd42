-- `count_rises` meets its contract: what is filled in first is what the first climb asks.
use mathlib.Core.Path.{sym, ◌∙◌}
use Rattle.canonical_numbers.proofs.preorder.Climbs.{rising_begins}
use Rattle.canonical_numbers.proofs.preorder.count_rises.Goals as goal

pub climb_all-requires : goal.climb_all-requires
climb_all-requires c =
    let lent = c.requires in
    let filled = c.begin_rises.ensures in
    record {
      division = _;
      starting = lent.starting;
      begun = rising_begins lent.starting lent.each_next lent.each_rise filled.0 filled.1;
    }

pub returns : goal.returns
returns c =
    let lent = c.requires in
    let filled = c.begin_rises.ensures in
    λ d A.
    let as_many = sym lent.starting.laid.column.all ∙ A.laid.column.all in
    c.climb_all.ensures d A (rising_begins A (lent.each_next ∙ as_many) (lent.each_rise ∙ as_many) filled.0 filled.1)
