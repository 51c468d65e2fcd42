-- `number_regions` meets its contract: the regions are numbered, and there are few.
use Prim.Native.Nat.{ℕ, ◌+◌}
use mathlib.Core.List.{List}
use mathlib.Core.Path.{◌≡◌}
use native.Mathlib.Omega.{arith}
use Rattle.std.proofs.Common.{rules}
use Rattle.sheet.specs.Words.{words}
use Rattle.sheet.specs.Regions.{region_count}
use Rattle.conversion.specs.Converted.{kept_region, new_region}
use Rattle.conversion.specs.Inner.{Heights}
use Rattle.conversion_numbers.specs.Numbers.{ArcsNumbered}
use Rattle.conversion_numbers.proofs.regions.Regions.{few_words}
use Rattle.conversion_numbers.proofs.regions.ArcNumbers.number_regions.Goals as goal

pub number-requires-clause-room : goal.number-requires-clause-room
number-requires-clause-room c = omega (arith, few_words c.args.self.now.numbered)

pub number-requires-clause-few : goal.number-requires-clause-few
number-requires-clause-few c = omega (arith, few_words c.args.self.now.numbered)

pub number-requires-clause-asked : goal.number-requires-clause-asked
number-requires-clause-asked c =
    let low = few_words c.args.self.now.numbered in
    λ i l. (λ κs p e r. omega arith, λ κs p e r κ. omega arith)

pub returns : goal.returns
unfolding new_region
returns c =
    let d = c.args.self.now.regions.now in
    let all : words d + 1 ≡ region_count d = omega arith in
    λ b A H.
    rw (← all) (c.number.ensures (kept_region b) (λ i k l told.
    let each : (b : List ℕ) → ArcsNumbered b d c.args.self.now.arcs.now → Heights b c.args.best.now → k ≡ kept_region b i = search rules in
    each b A H))
