-- `sizes_of` meets its contract: each number is that of the sheet, and an accepted sheet keeps the limits.
use Rattle.run_layout.proofs.sizes.Parts.{in_use}
use Rattle.run_layout.proofs.sizes.sizes_of.Goals as goal

pub returns : goal.returns
returns c = in_use c.requires c.node_count.ensures c.arcs.ensures c.spans.ensures c.region_words.ensures
