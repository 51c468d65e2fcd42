use Prim.Native.Nat.{ℕ, suc}
use mathlib.Core.List.{List, [], ◌∷◌}
use Rattle.sheet.specs.Words.{words}
use Rattle.conversion.specs.Converted.{kept_region, new_word}
use Rattle.conversion_words.specs.Writing.{RegionsWritable}
use Rattle.conversion_words.proofs.Selected.{Writing}
use Rattle.conversion_words.proofs.regions.write_regions.Given as goal

abbrev pub invariant-loop-k : goal.invariant-loop-k
invariant-loop-k l =
    (b : List ℕ) → RegionsWritable b l.n.words.now l.n.arcs.now l.n.regions.now l.initial.out l.place
    → Writing (λ j. kept_region b (suc j)) (λ j. new_word b j ∷ []) (words l.n.words.now) l.initial.out l.place l.out l.k
