-- `write_regions` meets its contract: of the region words passed those that are kept are written, of whatever sheet they are.
use Prim.Native.Nat.{ℕ, ◌+◌, ◌*◌}
use mathlib.Core.Path.{◌≡◌, refl, ap, ◌∙◌}
use native.Mathlib.Omega.{arith}
use Rattle.conversion.specs.Converted.{converted_regions}
use Rattle.sheet_writer.specs.Words.{words_put}
use Rattle.conversion_words.proofs.Selected.{writing_none, writing_more, writing_end}
use Rattle.conversion_words.proofs.regions.Regions.{regions_still, before, word_if_kept}
use Rattle.conversion_words.proofs.regions.write_regions.Goals as goal

pub loop-k-init : goal.loop-k-init
loop-k-init c = λ b W. writing_none

pub write_region-requires : goal.write_region-requires
write_region-requires c = ((_, regions_still c.requires.1 (omega arith)), omega arith)

pub loop-k-preserved : goal.loop-k-preserved
loop-k-preserved c =
    λ b W.
    let one : c.args.place + before b c.loop-k.k ≡ c.args.place + 1 * before b c.loop-k.k = omega arith in
    writing_more (c.loop-k.invariant b W) 1 (λ _. refl) (omega arith)
    (c.write_region.ensures b (regions_still W (omega arith)) ∙ ap (λ (i : ℕ). words_put c.loop-k.out i (word_if_kept b c.loop-k.k)) one)

pub returns : goal.returns
unfolding converted_regions
returns c = λ b W. rw (← W.numbered.arcs_numbered.words_of) (writing_end (c.loop-k.invariant b W) (omega arith))
