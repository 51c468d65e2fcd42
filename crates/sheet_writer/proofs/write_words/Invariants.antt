use Prim.Native.Nat.{◌≤◌}
use mathlib.Core.Path.{◌≡◌}
use Rattle.sheet_writer.specs.Words.{words_from, words_put}
use Rattle.sheet_writer.proofs.write_words.Given as goal

abbrev pub invariant-loop-k : goal.invariant-loop-k
invariant-loop-k l = (l.k ≤ l.count) × (l.out ≡ words_put l.initial.out l.place (words_from l.s l.from l.k))
