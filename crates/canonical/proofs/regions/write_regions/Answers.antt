-- `write_regions` meets its contract: the region words passed stand at the places of their regions' new numbers.
use Prim.Native.Nat.{ℕ, ◌<◌}
use mathlib.Core.List.{List}
use mathlib.Core.Path.{ap}
use native.Mathlib.Omega.{arith}
use Rattle.indices.specs.Columns.{at}
use Rattle.sheet.specs.Words.{words}
use Rattle.canonical.specs.Writing.{Writable}
use Rattle.canonical.proofs.regions.Regions.{Placing, PlacingBounds, placing_none, placing_bounds, placing_more, placing_end}
use Rattle.canonical.proofs.regions.write_regions.Goals as goal

-- what is known at a region word
known : {b d numbers out₀ out : List ℕ} {e k : ℕ} → Writable b d numbers e out₀ → k < words d
    → ((b' : List ℕ) → Writable b' d numbers e out₀ → Placing b' numbers e out₀ out k) → PlacingBounds d numbers e out k
known W more P = placing_bounds W _ more (P _ W)

pub loop-k-init : goal.loop-k-init
loop-k-init c = λ b W. placing_none W

pub overflow_cast-parent : goal.overflow_cast-parent
overflow_cast-parent c =
    let f = known c.requires.1 (omega arith) c.loop-k.invariant in omega arith

pub bounds-numbers-from : goal.bounds-numbers-from
bounds-numbers-from c =
    let f = known c.requires.1 (omega arith) c.loop-k.invariant in omega arith

pub bounds-numbers-region : goal.bounds-numbers-region
bounds-numbers-region c =
    let f = known c.requires.1 (omega arith) c.loop-k.invariant in omega arith

pub overflow_add-place : goal.overflow_add-place
overflow_add-place c =
    let f = known c.requires.1 (omega arith) c.loop-k.invariant in omega arith

pub region_word-requires : goal.region_word-requires
region_word-requires c =
    let f = known c.requires.1 (omega arith) c.loop-k.invariant in
    let above = ap (at c.args.numbers.now) c.from.ensures in
    (omega arith, omega (arith, c.parent_word-parent.ensures, ap (at c.args.numbers.now) c.parent_word-parent.ensures))

pub put_word-requires : goal.put_word-requires
put_word-requires c =
    let f = known c.requires.1 (omega arith) c.loop-k.invariant in omega arith

pub loop-k-preserved : goal.loop-k-preserved
loop-k-preserved c =
    let l : c.loop-k.k < words c.args.d.now = omega arith in
    let f = known c.requires.1 l c.loop-k.invariant in
    λ b W.
    rw c.put_word.ensures
    (placing_more W _ l (c.loop-k.invariant b W) _ _ _ (omega arith) c.region_word.ensures
    (omega (arith, ap (at c.args.numbers.now) c.from.ensures, ap (at c.args.numbers.now) c.parent_word-parent.ensures)))

pub returns : goal.returns
returns c = λ b W. placing_end W (omega arith) (c.loop-k.invariant b W)
