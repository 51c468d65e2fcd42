-- `past_arcs` meets its contract: the arcs are counted up to the first pair of words that is none.
use Prim.Native.Nat.{ℕ, ◌+◌, ◌-◌, ◌*◌, ◌/◌}
use mathlib.Core.Path.{ap, ◌∙◌}
use Rattle.std.proofs.Common.{rules}
use native.Mathlib.Omega.{arith}
use Rattle.indices.specs.Tests.{lead}
use Rattle.indices.proofs.Scans.{lead_scanned}
use Rattle.sheet.specs.Words.{words}
use Rattle.sheet.specs.Sections.{is_arc, arcs_from}
use Rattle.sheet.proofs.scan.past_arcs.Goals as goal

pub returns : goal.returns
unfolding arcs_from
returns c =
    let place = c.args.c.place in let s = c.args.s.now in
    ap (λ (n : ℕ). place + 2 * n)
    (lead_scanned _ _ (is_arc s place) 0 ((words s - place) / 2) (search rules) (search rules) _ _ c.take_while.ensures.runs c.count-arcs.ensures.runs
    ∙ ap (lead (is_arc s place)) (omega arith))
