-- A wider limit on the arcs at a node refuses less as 10, so it changes the judgement of those sheets alone that the narrower limit refuses as 10.
use Prim.Native.Nat.{ℕ, ◌≤◌}
use mathlib.Core.Bool.{false}
use mathlib.Core.List.{List, [], ◌∷◌, ◌++◌}
use mathlib.Core.Logic.{◌≢◌}
use mathlib.Core.Path.{◌≡◌}
use native.Mathlib.Omega.{arith}
use Rattle.sheet.specs.Sections.{span_count, arc_count, region_words}
use Rattle.answer.specs.Answer.{input, Answer, refused, ◌when◌, lowest}
use Rattle.answer.proofs.Lowest.{lowest_less}
use Rattle.judgement.specs.Arcs.{ends_outside, lengths_outside, holds_outside, too_many_at_node, self_arcs}
use Rattle.judgement.specs.Judgement.{form_refusals, count_refusals, arc_refusals, division_refusals, refusals_by, refusals_under, judgement_under}
use Rattle.judgement.proofs.Clear.{few_at_nodes}

module _ (few most : ℕ) (wider : few ≤ most) (b : List ℕ) where
  -- where each node has few arcs each way, it has at most as many as a wider limit lets it have
  none_too_many : too_many_at_node few b ≡ false → too_many_at_node most b ≡ false
  none_too_many e = (few_at_nodes b most).1 (λ heads v l. omega (arith, (few_at_nodes b few).0 e heads v l))

  -- whatever is looked at after the sheet's own refusals, the answer is the same
  pub same_lowest : judgement_under few b ≢ refused (input 10) → (answer : Answer)
      → lowest (refusals_under most b) answer ≡ lowest (refusals_under few b) answer
  unfolding refusals_by form_refusals count_refusals arc_refusals
  same_lowest other answer =
      lowest_less (input 35 when self_arcs b ∷ division_refusals (region_words b) (arc_count b) (span_count b)) (input 10) none_too_many answer
      (form_refusals b ++ (count_refusals b ++ (input 8 when ends_outside b ∷ input 9 when lengths_outside b ∷ input 34 when holds_outside b ∷ []))) other
