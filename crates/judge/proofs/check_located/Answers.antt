-- `check_located` meets its contract: each stage where none before it refuses.
use mathlib.Core.Path.{sym, ◌∙◌}
use native.Mathlib.Omega.{arith}
use Rattle.std.proofs.lemmas.Result.{err_from_is_err_and}
use Rattle.judgement.specs.Judgement.{form_refusals, refusals_by, judgement_by}
use Rattle.judgement.proofs.Clear.{few_words}
use Rattle.judge.proofs.Stages.{form_clear, count_nodes, count_arcs, count_region_words, count_stops, arc_stops, division_decides}
use Rattle.judge.proofs.check_located.Goals as goal

pub bit_set-requires : goal.bit_set-requires
bit_set-requires c = omega (arith, few_words c.args.s.now c.requires.sized)

pub returns-then-bit_set : goal.returns-then-bit_set
unfolding judgement_by refusals_by form_refusals
returns-then-bit_set c = rw (c.requires.sized, c.requires.ordered, sym c.bit_set.ensures ∙ c.if-bit_set.true)

pub returns-in_err-check_counts : goal.returns-in_err-check_counts
returns-in_err-check_counts c =
    let formed = form_clear _ c.requires.sized c.requires.ordered (sym c.bit_set.ensures ∙ c.if-bit_set.false) in
    let p = err_from_is_err_and c.from_residual.result c.from_residual.ensures.1 in
    rw (p.1, p.2) (count_stops _ _ formed c.in_err-check_counts.ensures)

pub check_arcs-requires : goal.check_arcs-requires
check_arcs-requires c = let counted = sym c.in_ok-check_counts.ensures in (count_arcs _ counted, count_nodes _ counted)

pub returns-in_err-check_arcs : goal.returns-in_err-check_arcs
returns-in_err-check_arcs c =
    let formed = form_clear _ c.requires.sized c.requires.ordered (sym c.bit_set.ensures ∙ c.if-bit_set.false) in
    let p = err_from_is_err_and c.from_residual-in_err-check_arcs.result c.from_residual-in_err-check_arcs.ensures.1 in
    rw (p.1, p.2) (arc_stops _ _ formed (sym c.in_ok-check_counts.ensures) c.in_err-check_arcs.ensures)

pub overflow_cast-arcs : goal.overflow_cast-arcs
overflow_cast-arcs c = omega (arith, c.arcs.ensures, count_arcs _ (sym c.in_ok-check_counts.ensures))

pub check_division-requires : goal.check_division-requires
check_division-requires c =
    let counted = sym c.in_ok-check_counts.ensures in
    (rw c.region_words.ensures (count_region_words _ counted), omega (arith, c.arcs.ensures, count_arcs _ counted))

pub returns : goal.returns
returns c =
    let formed = form_clear _ c.requires.sized c.requires.ordered (sym c.bit_set.ensures ∙ c.if-bit_set.false) in
    c.check_division.ensures
    ∙ division_decides _ _ formed (sym c.in_ok-check_counts.ensures) (sym c.in_ok-check_arcs.ensures) c.region_words.ensures c.arcs.ensures
    c.spans.ensures
