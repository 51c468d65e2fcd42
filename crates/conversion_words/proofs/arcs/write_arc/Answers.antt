-- `write_arc` meets its contract: nothing, or the arc's two words.
use native.Mathlib.Omega.{arith}
use Rattle.conversion_words.proofs.arcs.Arcs.{arcs_inside, none_written, pair_room, pair_written}
use Rattle.conversion_words.proofs.arcs.write_arc.Goals as goal

pub returns-then-number : goal.returns-then-number
returns-then-number c = none_written _ c.requires.few c.requires.numbers _ c.requires.there _ _ c.if-number.true

pub overflow_add-first : goal.overflow_add-first
overflow_add-first c =
    let inside = arcs_inside c.bytes-bytes.ensures.front c.bytes-bytes.ensures.bytes in omega (arith, c.spans.ensures)

pub overflow_add-first-2 : goal.overflow_add-first-2
overflow_add-first-2 c =
    let inside = arcs_inside c.bytes-bytes.ensures.front c.bytes-bytes.ensures.bytes in omega (arith, c.spans.ensures, c.holds.ensures)

pub overflow_add-first-3 : goal.overflow_add-first-3
overflow_add-first-3 c =
    let inside = arcs_inside c.bytes-bytes.ensures.front c.bytes-bytes.ensures.bytes in
    omega (arith, c.spans.ensures, c.holds.ensures, c.requires.there)

pub write_words-requires : goal.write_words-requires
write_words-requires c =
    let inside = arcs_inside c.bytes-bytes.ensures.front c.bytes-bytes.ensures.bytes in (
      omega (arith, c.spans.ensures, c.holds.ensures, c.requires.there),
      omega (
        arith,
        pair_room _ c.requires.few c.requires.numbers _ c.requires.there c.if-number.false c.args.place _ c.requires.room,
        c.from.ensures,
      ),
    )

pub returns : goal.returns
returns c =
    pair_written _ c.requires.few c.requires.numbers _ c.requires.there c.if-number.false _ _ _ _
    (omega (arith, c.spans.ensures, c.holds.ensures)) (omega (arith, c.from.ensures))
    (rw c.bytes-bytes.ensures.bytes at c.write_words.ensures)
