-- `not_long` meets its contract: the length is looked at before the words.
use mathlib.Core.Path.{sym, ◌∙◌}
use Rattle.calls.specs.Resume.{not_long}
use Rattle.resume.proofs.not_long.Goals as goal

pub returns-then-not-is_long : goal.returns-then-not-is_long
unfolding not_long
returns-then-not-is_long c = rw (sym c.is_long.ensures ∙ c.if-not-is_long.true)

pub returns : goal.returns
unfolding not_long
returns c =
    let long = sym c.is_long.ensures ∙ c.if-not-is_long.false in
    let made = c.new.ensures in
    rw (long, c.malformed.ensures, made.0, made.1)
