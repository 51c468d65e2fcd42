-- `write_nodes` meets its contract: before each turn the words of the nodes passed are written, and the turn writes those of the next node behind them.
use borrow.Author.Rules.{rules}
use Rattle.calls.proofs.Reading.{no_node_words}
use Rattle.table.proofs.Writing.{writing_start, writing_end, node_places, one_node_more}
use Rattle.table.proofs.write_nodes.Goals as goal

pub loop-v-init : goal.loop-v-init
loop-v-init c = writing_start (no_node_words _ _)

pub label_word-first-requires : goal.label_word-first-requires
label_word-first-requires c = c.requires.label _ (search rules)

pub predecessor_word-second-requires : goal.predecessor_word-second-requires
predecessor_word-second-requires c = c.requires.predecessor _ (search rules)

pub write_pair-requires : goal.write_pair-requires
write_pair-requires c = search (rules, node_places)

pub loop-v-preserved : goal.loop-v-preserved
loop-v-preserved c = one_node_more _ _ c.loop-v.invariant c.loop-v-test.true (cc)

pub returns : goal.returns
returns c = writing_end c.loop-v.invariant c.loop-v-test.false
