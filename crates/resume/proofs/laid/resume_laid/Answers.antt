-- `resume_laid` meets its contract: the table's state is entered, and the rest is that state worked and written.
use native.Mathlib.Omega.{arith}
use borrow.Author.Rules.{rules}
use mathlib.Core.Path.{ap, ◌∙◌}
use lib.ListN.{length, length-replicate}
use Rattle.sheet.specs.Limits.{most_nodes}
use Rattle.sheet.specs.Words.{top}
use Rattle.calls.proofs.Outcome.{length_long}
use Rattle.resume.proofs.laid.Stages.{as_long, keyless, finishing, outcome}
use Rattle.resume.proofs.laid.resume_laid.Goals as goal

pub enter_nodes-requires : goal.enter_nodes-requires
enter_nodes-requires c =
    let sizes = c.args.o.now.outlined.in_use in
    record {
      sized = omega (arith, as_long c.requires.0, sizes.nodes_all);
      few = sizes.few_nodes;
      labels_room = ap length c.clear.ensures.labels ∙ length-replicate most_nodes top;
      predecessors_room = ap length c.clear.ensures.predecessors ∙ length-replicate most_nodes top;
    }

pub enter_counts-requires : goal.enter_counts-requires
enter_counts-requires c = (omega (arith, as_long c.requires.0), search rules)

pub new-long-requires : goal.new-long-requires
new-long-requires c = (c.requires.0.accepted, length_long _ _ (as_long c.requires.0))

pub rebuild-requires : goal.rebuild-requires
rebuild-requires c =
    rw (c.new-long.ensures.0, c.new-long.ensures.1)
    (keyless c.args.o.now.outlined c.requires.0 c.requires.1 c.clear.ensures c.enter_nodes.ensures c.enter_counts.ensures)

pub finish-requires : goal.finish-requires
finish-requires c =
    let rebuilt = rw (c.new-long.ensures.0, c.new-long.ensures.1) at c.rebuild.ensures in
    record {
      sheet = _;
      current = _;
      finishing = finishing c.args.o.now.outlined c.requires.0 c.requires.1 c.clear.ensures c.enter_nodes.ensures c.enter_counts.ensures rebuilt _;
    }

pub returns : goal.returns
returns c =
    let rebuilt = rw (c.new-long.ensures.0, c.new-long.ensures.1) at c.rebuild.ensures in
    let worked = finishing c.args.o.now.outlined c.requires.0 c.requires.1 c.clear.ensures c.enter_nodes.ensures c.enter_counts.ensures rebuilt _ in
    outcome c.args.o.now.outlined c.requires.0 c.requires.1 _ (c.finish.ensures _ _ worked)
