-- `update` meets its contract, by the measure of the region's number: the code climbs where the definition does, and a parent has a lower number.
use borrow.Author.Rules.{rules}
use native.Mathlib.Omega.{arith}
use Rattle.run_engine.proofs.updates.Updates.{
  region_in,
  count_fits,
  item_held,
  root_stops,
  rekeyed,
  not_fallen,
  up_lower,
  climb_asks,
  climbed,
}
use Rattle.run_engine.proofs.updates.+update.Goals as goal

pub min_key-old-requires : goal.min_key-old-requires
min_key-old-requires t c = search (rules, region_in)

-- THE KEY is written, in valid queues, which can be read again

pub min_key-new-requires : goal.min_key-new-requires
min_key-new-requires t c =
    let H = c.requires.holds in
    let U = c.requires.updating in
    record { division = c.requires.division; keys = _; queues = c.write.ensures _ _ H.valid U.in_range; inside = region_in H U }

-- THE COUNT fits

pub overflow_add-result : goal.overflow_add-result
overflow_add-result t c = omega (arith, count_fits c.requires.holds c.requires.updating)

pub overflow_add-result-then-old-new : goal.overflow_add-result-then-old-new
overflow_add-result-then-old-new t c = omega (arith, count_fits c.requires.holds c.requires.updating)

pub overflow_add-count : goal.overflow_add-count
overflow_add-count t c = omega (arith, count_fits c.requires.holds c.requires.updating)

pub returns-then-r-eq0 : goal.returns-then-r-eq0
returns-then-r-eq0 t c d q H U = root_stops H U (c.write.ensures d q.keys H.valid U.in_range) c.if-r-eq0.true

pub returns-then-old-new : goal.returns-then-old-new
returns-then-old-new t c d q H U =
    not_fallen H U (rekeyed H U (c.min_key-old.ensures d) (c.write.ensures d) (c.min_key-new.ensures d)) c.if-old-new.true

-- THE SMALLEST KEY FELL, and the parent is found

pub parent_of-up-requires : goal.parent_of-up-requires
parent_of-up-requires t c =
    let H = c.requires.holds in
    record {
      division = c.requires.division;
      counted = H.valid.seated.laid.planned.counted;
      positive = search rules;
      inside = region_in H c.requires.updating;
    }

pub update-requires : goal.update-requires
update-requires t c =
    let H = c.requires.holds in
    let U = c.requires.updating in
    let K = rekeyed H U (c.min_key-old.ensures _) (c.write.ensures _) (c.min_key-new.ensures _) in
    let up = c.parent_of-up.ensures _ H.valid.seated.laid.planned.counted (region_in H U) in (
      omega (arith, up_lower H U (omega arith) up),
      record {
        division = c.requires.division;
        queues = _;
        holds = item_held H U K.valid;
        updating = climb_asks H U K (omega arith) (omega arith) up;
      },
    )

pub returns : goal.returns
returns t c d q H U =
    let K = rekeyed H U (c.min_key-old.ensures d) (c.write.ensures d) (c.min_key-new.ensures d) in
    let up = c.parent_of-up.ensures d H.valid.seated.laid.planned.counted (region_in H U) in
    climbed H U K (omega arith) (omega arith) up
    (c.update.ensures d _ (item_held H U K.valid) (climb_asks H U K (omega arith) (omega arith) up))
