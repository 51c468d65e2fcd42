-- `lay_trees` meets its contract: the trees of the regions passed lie one after the other.
use mathlib.Core.Path.{ap, ◌∙◌}
use mathlib.Core.List.{List}
use Prim.Native.Nat.{ℕ}
use native.Mathlib.Omega.{arith}
use Rattle.run_arrays.specs.Rows.{field}
use Rattle.run_queue.proofs.planning.Planning.{laying_start, laying_fits, laying_step, laying_end}
use Rattle.run_queue.proofs.planning.lay_trees.Goals as goal

pub loop-r-init : goal.loop-r-init
loop-r-init c = λ d R _. laying_start R

-- the number of children is read in the rows with the tree's start; where the next tree begins fits, for the given division

pub overflow_mul-start : goal.overflow_mul-start
overflow_mul-start c =
    let read = c.children_of.ensures ∙ ap (λ (l : List ℕ). field l c.loop-r.r 1) c.set_field.ensures in
    omega (arith, laying_fits (c.loop-r.invariant _ c.requires.known c.requires.each_row) (omega (arith, c.loop-r-test.true, c.requires.each_row)) read)

pub overflow_add-start : goal.overflow_add-start
overflow_add-start c =
    let read = c.children_of.ensures ∙ ap (λ (l : List ℕ). field l c.loop-r.r 1) c.set_field.ensures in
    omega (arith, laying_fits (c.loop-r.invariant _ c.requires.known c.requires.each_row) (omega (arith, c.loop-r-test.true, c.requires.each_row)) read)

pub loop-r-preserved : goal.loop-r-preserved
loop-r-preserved c =
    let read = c.children_of.ensures ∙ ap (λ (l : List ℕ). field l c.loop-r.r 1) c.set_field.ensures in
    rw c.set_field.ensures (λ d R e. laying_step (c.loop-r.invariant d R e) (omega (arith, c.loop-r-test.true, e)) read)

pub returns : goal.returns
returns c d R e = laying_end (c.loop-r.invariant d R e) (omega (arith, c.loop-r-test.false, e))
