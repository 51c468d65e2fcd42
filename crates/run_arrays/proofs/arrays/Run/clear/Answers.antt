-- `clear` meets its contract: each array is filled to its end, and NONE is the 'none' of the definitions.
use Prim.Native.Nat.{ℕ}
use mathlib.Core.Path.{◌≡◌, ap, ◌∙◌}
use borrow.Author.Rules.{rules}
use native.Mathlib.Omega.{arith}
use lib.ListN.{length, replicate}
use Rattle.sheet.specs.Limits.{most_nodes, most_arcs}
use Rattle.sheet.specs.Words.{top}
use Rattle.run_arrays.proofs.arrays.Run.clear.Goals as goal

pub returns : goal.returns
unfolding top
returns c =
    let run = c.args.self.now in
    let labels : c.fill.new.self ≡ replicate (length run.labels) 268435455 = search rules in
    let predecessors : c.fill-2.new.self ≡ replicate (length run.predecessors) 268435455 = search rules in
    let own : c.fill-3.new.self ≡ replicate (length run.keys.own) 268435455 = search rules in
    let all : length run.labels ≡ most_nodes = omega arith in
    let fed : length run.predecessors ≡ most_nodes = omega arith in
    let owned : length run.keys.own ≡ most_arcs = omega arith in
    record {
      labels = labels ∙ ap (λ (n : ℕ). replicate n top) all;
      predecessors = predecessors ∙ ap (λ (n : ℕ). replicate n top) fed;
      own = own ∙ ap (λ (n : ℕ). replicate n top) owned;
    }
