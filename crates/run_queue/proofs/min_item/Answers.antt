-- `min_item` meets its contract: the region of the root's entry.
use mathlib.Core.Path.{◌∙◌}
use Rattle.run_queue.proofs.min_item.Goals as goal

pub returns : goal.returns
returns c d keys Q inside = c.entry_region.ensures ∙ (c.first_entry.ensures d keys Q inside).item
