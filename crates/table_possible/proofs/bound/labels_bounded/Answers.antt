-- `labels_bounded` meets its contract: a scan for `all`, of a test that is the bound's at each node.
use mathlib.Core.Path.{◌∙◌}
use Rattle.std.proofs.Common.{rules}
use native.Mathlib.Omega.{arith}
use Rattle.indices.proofs.Scans.{all_scanned}
use Rattle.judgement.proofs.Accepted.{front_there, few_nodes}
use Rattle.table_possible.specs.Held.{within}
use Rattle.table_possible.proofs.bound.Bounded.{few_reached, all_bounded}
use Rattle.table_possible.proofs.bound.labels_bounded.Goals as goal

pub payload_at-nodes-requires : goal.payload_at-nodes-requires
payload_at-nodes-requires c = omega (arith, front_there _ c.requires.0)

pub overflow_cast-nodes : goal.overflow_cast-nodes
overflow_cast-nodes c = omega (arith, few_nodes _ c.requires.0)

-- no more nodes are reached than there are
pub highest_label-highest-requires : goal.highest_label-highest-requires
highest_label-highest-requires c =
    let few = few_reached c.args.s.now c.args.table.now c.payload_at-nodes.ensures c.count_reached.ensures in
    omega (arith, few_nodes _ c.requires.0)

pub returns : goal.returns
returns c =
    all_scanned _ _ (within c.args.table.now c.highest_label-highest.result) c.payload_at-nodes.result (search rules) (search rules) _ c.all.ensures.runs
    ∙ all_bounded c.args.s.now c.args.table.now c.payload_at-nodes.ensures c.count_reached.ensures c.highest_label-highest.ensures
