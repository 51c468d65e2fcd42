-- `min_key` meets its contract: the key of the root's entry.
use mathlib.Core.Path.{◌∙◌}
use Rattle.run_queue.proofs.min_key.Goals as goal

pub returns : goal.returns
returns c d keys Q inside inner own updates = c.entry_key.ensures ∙ (c.first_entry.ensures d keys Q inside).key inner own updates
