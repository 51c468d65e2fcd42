-- `wrong_leaves` meets its contract: a scan for `any` over the counters, which say how many leaves each number has.
use Prim.Native.Nat.{ℕ}
use mathlib.Core.Bool.{not}
use mathlib.Core.Path.{◌≡◌, ap, ◌∙◌}
use Rattle.std.proofs.Common.{rules}
use native.Mathlib.Omega.{arith}
use lib.Dec.{eqb}
use lib.ListN.{get_or}
use Rattle.indices.proofs.Scans.{any_scanned}
use Rattle.judge_division.proofs.leaves.Leaves.{wanted, wrong_count, counts_decide}
use Rattle.judge_division.proofs.leaves.wrong_leaves.Goals as goal

pub returns : goal.returns
returns c =
    let d = c.args.d.now in
    let arcs = c.args.arcs in
    let seen = c.count_leaves-seen.result in
    let leaves = c.count_leaves-seen.ensures in
    any_scanned _ _ (wrong_count d arcs) 2048 (search rules)
    (λ a b l h.
    let told : b ≡ not (eqb (get_or seen a 0) (wanted d arcs a)) = search rules in
    told ∙ ap (λ (n : ℕ). not (eqb n (wanted d arcs a))) (leaves.1.counts a (omega (arith, leaves.0))))
    _ c.any.ensures.runs
    ∙ counts_decide d arcs (omega arith)
