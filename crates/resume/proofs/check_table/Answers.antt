-- `check_table` meets its contract: 32, then 33; a table to which neither applies stands.
use mathlib.Core.Bool.{not}
use mathlib.Core.Path.{sym, ap, ◌∙◌}
use Rattle.calls.specs.Resume.{not_possible}
use Rattle.calls.proofs.Outcome.{length_long}
use Rattle.calls.proofs.Formed.{formed}
use Rattle.calls.proofs.Resume.{refused_long, refused_possible}
use Rattle.resume.proofs.check_table.Goals as goal

pub returns-then-not_long : goal.returns-then-not_long
returns-then-not_long c = λ k. refused_long _ _ k c.requires (sym c.not_long.ensures ∙ c.if-not_long.true)

pub new-requires : goal.new-requires
new-requires c = (c.requires, length_long _ _ (formed _ _ (sym c.not_long.ensures ∙ c.if-not_long.false)).long)

pub returns-then-not-possible : goal.returns-then-not-possible
unfolding not_possible
returns-then-not-possible c = λ k.
    let possible = rw (c.new.ensures.0, c.new.ensures.1) at (sym c.possible.ensures ∙ c.if-not-possible.true) in
    refused_possible _ _ k c.requires (sym c.not_long.ensures ∙ c.if-not_long.false) (ap not possible)

pub returns : goal.returns
returns c =
    record {
      accepted = c.requires;
      formed = sym c.not_long.ensures ∙ c.if-not_long.false;
      possible = rw (c.new.ensures.0, c.new.ensures.1) at (sym c.possible.ensures ∙ c.if-not-possible.false);
    }
