-- `first_entry` meets its contract: place 1 of a tree holds the entry of the first-chosen child.
use mathlib.Core.Path.{sym, ◌∙◌}
use mathlib.Core.Logic.{◌≢◌}
use Rattle.sheet.specs.Words.{top}
use Rattle.run_arrays.specs.Rows.{field}
use Rattle.run_queue.proofs.Reading.{first_none, first_in, first_some}
use Rattle.run_queue.proofs.first_entry.Goals as goal

pub returns-then-children_of-eq0 : goal.returns-then-children_of-eq0
unfolding top
returns-then-children_of-eq0 c d keys Q inside = first_none Q inside (sym c.children_of.ensures ∙ c.if-children_of-eq0.true) c.entry_of.ensures

pub bounds-winners-start : goal.bounds-winners-start
bounds-winners-start c =
    -- the region has a child
    let some : field c.args.rows.now c.args.r.0 1 ≢ 0 = λ e. c.if-children_of-eq0.false (c.children_of.ensures ∙ e) in
    let pre = c.requires in first_in pre.queues pre.inside some c.start_of-start.ensures

pub returns : goal.returns
returns c d keys Q inside =
    -- the region has a child
    let some : field c.args.rows.now c.args.r.0 1 ≢ 0 = λ e. c.if-children_of-eq0.false (c.children_of.ensures ∙ e) in
    first_some Q inside some c.start_of-start.ensures
