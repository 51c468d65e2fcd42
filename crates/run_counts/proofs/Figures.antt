-- Eighteen counts are their figures, one behind the other: cut behind the first, the second and the last but one, the list is what the figures are read from.
use Prim.Native.Nat.{ℕ, suc}
use mathlib.Core.Path.{◌≡◌, sym, ap, ◌∙◌}
use mathlib.Core.List.{List, [], ◌∷◌, ◌++◌}
use native.Mathlib.Omega.{arith}
use lib.ListN.{length, take, drop, length-drop}
use lib.Seq.{take_all, take-suc, drop-cons, get_or-drop}
use Rattle.indices.specs.Columns.{at}
use Rattle.sheet.specs.Limits.{most_spans}
use Rattle.procedure.specs.Table.{inner_place, updates_place, counts_length}
use Rattle.run_counts.specs.Figures.{rounds_in, leaves_in, inner_in, updates_in, figures_in, counts_of}

pub written_out : (counts : List ℕ) → length counts ≡ counts_length → counts ≡ counts_of (figures_in counts)
unfolding rounds_in leaves_in inner_in updates_in
written_out counts all =
    let rest = drop inner_place counts in
    let many : length rest ≡ suc most_spans = omega (arith, length-drop inner_place counts) in
    let last : rest ≡ take most_spans rest ++ (at counts updates_place ∷ []) =
    sym (take_all (suc most_spans) rest (omega arith))
    ∙ take-suc rest most_spans 0 (omega arith)
    ∙ ap (λ (n : ℕ). take most_spans rest ++ (n ∷ [])) (get_or-drop inner_place counts most_spans 0) in
    drop-cons counts 0 0 (omega arith)
    ∙ ap (λ (l : List ℕ). at counts 0 ∷ l) (drop-cons counts 1 0 (omega arith) ∙ ap (λ (l : List ℕ). at counts 1 ∷ l) last)
