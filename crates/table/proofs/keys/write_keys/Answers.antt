-- `write_keys` meets its contract: the arcs passed have their words.
use Rattle.std.proofs.Common.{rules}
use Rattle.indices.proofs.Entries.{prefix_none, prefix_more, prefix_all}
use Rattle.procedure.specs.Table.{key_words}
use Rattle.table.proofs.keys.write_keys.Goals as goal

pub loop-a-init : goal.loop-a-init
loop-a-init c = prefix_none _ _ _ (search rules)

pub loop-a-preserved : goal.loop-a-preserved
loop-a-preserved c = prefix_more _ c.loop-a.invariant (search rules) c.key_word.ensures

pub returns : goal.returns
unfolding key_words
returns c = prefix_all c.loop-a.invariant (search rules)
