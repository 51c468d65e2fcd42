use mathlib.Core.Path.{◌≡◌}
use Rattle.judge_form.proofs.order.Pass.{Passed}
use Rattle.judge_form.proofs.order.wrong_kinds.Given as goal

abbrev pub invariant-loop-word : goal.invariant-loop-word
invariant-loop-word l = (l.word-iterator.sheet.now ≡ l.s) × Passed l.s l.before l.word-iterator.place
