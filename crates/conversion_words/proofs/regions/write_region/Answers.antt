-- `write_region` meets its contract: nothing, or the region's new word.
use native.Mathlib.Omega.{arith}
use Rattle.conversion_words.proofs.regions.Regions.{region_kept, region_place, none_written, word_place, word_room, word_written}
use Rattle.conversion_words.proofs.regions.write_region.Goals as goal

pub bounds-n-k : goal.bounds-n-k
bounds-n-k c = region_place c.requires.0.1.numbered _ c.requires.1

pub returns-then-number : goal.returns-then-number
returns-then-number c = λ b W. none_written W.numbered _ c.requires.1 _ _ c.if-number.true

pub overflow_sub-i : goal.overflow_sub-i
overflow_sub-i c =
    omega (arith, word_place c.requires.0.1.numbered _ c.requires.1 c.if-number.false c.args.place _ c.from.ensures)

pub new_word-requires : goal.new_word-requires
new_word-requires c =
    let given = c.requires.0 in
    ((given.0, given.1.numbered, region_kept given.1.numbered _ c.requires.1 c.if-number.false), c.requires.1)

pub put_word-requires : goal.put_word-requires
put_word-requires c =
    let W = c.requires.0.1 in
    omega (
      arith,
      word_place W.numbered _ c.requires.1 c.if-number.false c.args.place _ c.from.ensures,
      word_room W.numbered _ c.requires.1 c.if-number.false c.args.place _ W.room,
    )

pub returns : goal.returns
returns c =
    λ b W.
    let N = W.numbered in
    word_written N _ c.requires.1 c.if-number.false _ _ _ _
    (omega (arith, word_place N _ c.requires.1 c.if-number.false c.args.place _ c.from.ensures))
    (c.new_word.ensures b N (region_kept N _ c.requires.1 c.if-number.false)) c.put_word.ensures
