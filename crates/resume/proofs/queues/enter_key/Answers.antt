-- `enter_key` meets its contract: a keyless arc is passed, and a keyed one updated with its tail's label.
use mathlib.Core.Path.{◌≡◌, sym, ap, ◌∙◌}
use native.Mathlib.Omega.{arith}
use Rattle.indices.specs.Columns.{at}
use Rattle.procedure.specs.OfSheet.{graph_of}
use Rattle.procedure.proofs.OfSheet.{graph_arcs}
use Rattle.calls.specs.LongTables.{own_in}
use Rattle.resume.proofs.queues.Rebuilding.{key_read, key_passed, key_asks, key_entered}
use Rattle.resume.proofs.queues.enter_key.Goals as goal

pub has_key-requires : goal.has_key-requires
has_key-requires c = omega (arith, c.requires.in_range, graph_arcs c.args.long.now.table.sheet.now)

pub returns-then-not-has_key : goal.returns-then-not-has_key
returns-then-not-has_key c = key_passed c.requires (sym c.has_key.ensures ∙ c.if-not-has_key.true)

-- THE ARC has a key, which is what is read of its tail

pub update_arc-requires : goal.update_arc-requires
update_arc-requires c =
    let K = c.requires in
    let keyed = sym c.has_key.ensures ∙ c.if-not-has_key.false in
    let tail-there = c.tail.ensures ∙ K.sofar.relaid.laid.fixed_ok.arc_rows.tails _ K.in_range in
    let table = c.args.long.now.table in
    let read : c.label-key.result ≡ at (own_in (graph_of table.sheet.now) table.words.now) c.args.a.0 =
    c.label-key.ensures ∙ ap (at c.args.run.now.labels) tail-there ∙ key_read K.sofar.relaid _ K.in_range keyed in
    record { graph = _; division = _; queues = _; holds = K.sofar.holds; updating = key_asks K keyed read }

pub returns : goal.returns
returns c =
    let K = c.requires in
    let keyed = sym c.has_key.ensures ∙ c.if-not-has_key.false in
    let tail-there = c.tail.ensures ∙ K.sofar.relaid.laid.fixed_ok.arc_rows.tails _ K.in_range in
    let table = c.args.long.now.table in
    let read : c.label-key.result ≡ at (own_in (graph_of table.sheet.now) table.words.now) c.args.a.0 =
    c.label-key.ensures ∙ ap (at c.args.run.now.labels) tail-there ∙ key_read K.sofar.relaid _ K.in_range keyed in
    key_entered K keyed read (c.update_arc.ensures _ _ _ K.sofar.holds (key_asks K keyed read))
