-- `write_counts` meets its contract: before each turn the words of the counts passed are written, and the turn writes those of the next count behind them.
use borrow.Author.Rules.{rules}
use Rattle.table.proofs.Writing.{writing_length, one_count_more, all_counts}
use Rattle.table.proofs.header.write_counts.Goals as goal

pub write_count-requires : goal.write_count-requires
write_count-requires c =
    let same = writing_length c.loop-i.invariant in
    (search rules, c.requires.1.small _ (search rules))

pub loop-i-preserved : goal.loop-i-preserved
loop-i-preserved c = one_count_more c.args.counts.now c.loop-i.invariant c.loop-i-test.true c.write_count.ensures

pub returns : goal.returns
returns c = all_counts c.args.counts.now c.loop-i.invariant c.loop-i-test.false
