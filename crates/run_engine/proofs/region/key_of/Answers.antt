-- `key_of` meets its contract: a leaf's key is its arc's own, an inner region's that of the queue.
use borrow.Author.Rules.{rules}
use mathlib.Core.Path.{◌∙◌}
use Rattle.run_engine.proofs.region.Regions.{keyed_in, key_inner, own_key_in, own_key}
use Rattle.run_engine.proofs.region.key_of.Goals as goal

pub arc-a-requires : goal.arc-a-requires
arc-a-requires c = search (rules, keyed_in)

pub min_key-requires : goal.min_key-requires
min_key-requires c =
    let pre = c.requires in
    record { division = pre.division; keys = pre.queues.keys; queues = pre.holds.held.valid; inside = pre.keyed.in_range }

pub returns-then-a : goal.returns-then-a
returns-then-a c g d q n H K = c.min_key.ensures d q.keys H.held.valid K.in_range (key_inner K c.arc-a.ensures c.if-a.true) q.own _

pub own_key-requires : goal.own_key-requires
own_key-requires c = search (rules, own_key_in)

pub returns : goal.returns
returns c g d q n H K = c.own_key.ensures ∙ own_key K c.arc-a.ensures c.if-a.false H
