-- `hand_heights` meets its contract: the regions passed have handed up, of whatever sheet the words are.
use mathlib.Core.Path.{sym, ◌∙◌}
use native.Mathlib.Omega.{arith}
use Rattle.std.proofs.Math.Nat.{max_comm}
use Rattle.conversion_numbers.proofs.regions.Regions.{passable, few_words, pass_bounds, passing_start, passing_turn, passing_end}
use Rattle.conversion_numbers.proofs.regions.ArcNumbers.hand_heights.Goals as goal

pub overflow_step-r : goal.overflow_step-r
overflow_step-r c = omega (arith, few_words c.args.self.now.numbered)

pub loop-r-init : goal.loop-r-init
loop-r-init c = λ b A. rw c.requires (passing_start A (omega arith))

pub hands_up-height-requires : goal.hands_up-height-requires
hands_up-height-requires c =
    let known = c.args.self.now.numbered in
    let bounds = pass_bounds known c.loop-r.invariant in
    (bounds.inside, omega (arith, bounds.small, few_words known))

pub invariant_of-nested : goal.invariant_of-nested
invariant_of-nested c = record { passable = passable c.args.self.now.numbered }

pub parent-requires : goal.parent-requires
parent-requires c = let bounds = pass_bounds c.args.self.now.numbered c.loop-r.invariant in (omega arith, bounds.inside)

pub hand_to-requires : goal.hand_to-requires
hand_to-requires c =
    let known = c.args.self.now.numbered in
    let bounds = pass_bounds known c.loop-r.invariant in
    omega (arith, c.parent.ensures.1, bounds.inside, few_words known)

pub loop-r-preserved : goal.loop-r-preserved
loop-r-preserved c =
    λ b A.
    rw c.hand_to.ensures
    (passing_turn A (c.loop-r.invariant b A) _ _ (omega arith) c.parent.ensures.0 (c.hands_up-height.ensures b A))

pub returns : goal.returns
returns c =
    λ b A.
    let found = passing_end A (c.loop-r.invariant b A) (omega arith) in
    (found, c.max.ensures ∙ max_comm _ 1 ∙ sym found.high)
