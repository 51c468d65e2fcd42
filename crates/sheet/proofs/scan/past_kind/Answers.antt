-- `past_kind` meets its contract: the words of the kind are counted up to the first that is of another.
use Prim.Native.Nat.{ℕ, ◌+◌}
use mathlib.Core.Path.{ap}
use Rattle.std.proofs.Common.{rules}
use Rattle.indices.proofs.Scans.{lead_scanned}
use Rattle.sheet.specs.Words.{words}
use Rattle.sheet.specs.Kinds.{kind_number}
use Rattle.sheet.specs.Sections.{of_kind, kind_from}
use Rattle.sheet.proofs.scan.past_kind.Goals as goal

pub returns : goal.returns
unfolding kind_from
returns c =
    let place = c.args.c.place in let s = c.args.s.now in
    ap (λ (n : ℕ). place + n)
    (lead_scanned _ _ (of_kind (kind_number c.args.kind) s place) place (words s) (search rules) (search rules) _ _ c.take_while.ensures.runs c.count-of_kind.ensures.runs)
