-- `put_status` meets its contract: the form of a status that the test chose.
use Rattle.std.proofs.Common.{sym, ◌∙◌}
use Rattle.listing.proofs.status_line.StatusLine.{status_ended, status_paused}
use Rattle.listing.proofs.status_line.put_status.Goals as goal

pub put_text-requires : goal.put_text-requires
put_text-requires c = rw (status_ended _ (sym c.status_of.ensures ∙ c.if-status_of-eq1.true)) at c.requires.1

pub returns-then-status_of-eq1 : goal.returns-then-status_of-eq1
returns-then-status_of-eq1 c = rw (status_ended _ (sym c.status_of.ensures ∙ c.if-status_of-eq1.true)) c.put_text.ensures

pub put_text-requires-else-status_of-eq1 : goal.put_text-requires-else-status_of-eq1
put_text-requires-else-status_of-eq1 c = rw (status_paused _ (λ e. c.if-status_of-eq1.false (c.status_of.ensures ∙ e))) at c.requires.1

pub returns-else-status_of-eq1 : goal.returns-else-status_of-eq1
returns-else-status_of-eq1 c =
    rw (status_paused _ (λ e. c.if-status_of-eq1.false (c.status_of.ensures ∙ e))) c.put_text-else-status_of-eq1.ensures
