-- `new_word` meets its contract: by the two kinds of region words.
use mathlib.Core.Bool.{true, false}
use mathlib.Core.Path.{◌≡◌, sym, ◌∙◌}
use native.Mathlib.Omega.{arith}
use Rattle.sheet.specs.Regions.{leaf_word}
use Rattle.conversion_words.proofs.regions.Regions.{parent_place, parent_small, arc_small, inner_word, leaf_word_lem}
use Rattle.conversion_words.proofs.regions.new_word.Goals as goal

pub overflow_cast-parent : goal.overflow_cast-parent
overflow_cast-parent c = omega (arith, parent_place c.requires.0.1 _ c.requires.1, c.parent_word-parent.ensures)

pub bounds-n-from : goal.bounds-n-from
bounds-n-from c = omega (arith, parent_place c.requires.0.1 _ c.requires.1, c.parent_word-parent.ensures, c.from.ensures)

pub inner_word_of-requires : goal.inner_word_of-requires
inner_word_of-requires c =
    let given = c.requires.0 in
    rw c.from.ensures (parent_small given.1 _ c.requires.1 given.2 _ c.parent_word-parent.ensures)

pub returns-then-not-leaf_word : goal.returns-then-not-leaf_word
returns-then-not-leaf_word c =
    let inner : leaf_word c.args.n.now.words.now c.args.k ≡ false = sym c.leaf_word.ensures ∙ c.if-not-leaf_word.true in
    λ b N kept. c.inner_word_of.ensures ∙ rw c.from.ensures (inner_word N _ c.requires.1 kept _ c.parent_word-parent.ensures inner)

pub leaf_word_of-requires : goal.leaf_word_of-requires
leaf_word_of-requires c =
    let leaf : leaf_word c.args.n.now.words.now c.args.k ≡ true = sym c.leaf_word.ensures ∙ c.if-not-leaf_word.false in
    let given = c.requires.0 in (
      rw c.from.ensures (parent_small given.1 _ c.requires.1 given.2 _ c.parent_word-parent.ensures),
      rw c.from-2.ensures
          (arc_small given.1 _ c.requires.1 given.2 _ c.parent_word-parent.ensures leaf _ c.arc_word-arc.ensures.0 c.arc_word-arc.ensures.1),
    )

pub returns : goal.returns
returns c =
    let leaf : leaf_word c.args.n.now.words.now c.args.k ≡ true = sym c.leaf_word.ensures ∙ c.if-not-leaf_word.false in
    λ b N kept.
    c.leaf_word_of.ensures
    ∙ rw (c.from.ensures, c.from-2.ensures)
    (leaf_word_lem N _ c.requires.1 kept _ c.parent_word-parent.ensures leaf _ c.arc_word-arc.ensures.0)
