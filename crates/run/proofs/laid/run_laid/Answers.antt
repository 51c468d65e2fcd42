-- `run_laid` meets its contract: the start leaves the state after no rounds, and the rest is that state worked and written.
use Prim.Native.Nat.{ℕ}
use mathlib.Core.Path.{◌≡◌, sym, ◌∙◌}
use mathlib.Core.List.{List}
use Rattle.procedure.specs.OfSheet.{graph_of, division_of, spans_of}
use Rattle.procedure.proofs.OfSheet.{division_regions}
use Rattle.run_arrays.specs.declared.arrays.Layout.{Layout}
use Rattle.run_arrays.specs.States.{Blank}
use Rattle.run_layout.specs.declared.sizes.Sizes.{Sizes}
use Rattle.run_layout.specs.InUse.{Outlined}
use Rattle.run_layout.specs.Layout.{Laid}
use Rattle.run.proofs.laid.Stages.{finishing, outcome}
use Rattle.run.proofs.laid.run_laid.Goals as goal

-- what the start asks of an outline that is laid out
blank : {b : List ℕ} {layout : Layout} {z : Sizes} {source : ℕ} → Outlined b z → Laid b layout → source ≡ (graph_of b).source
    → Blank (graph_of b) (division_of b) (spans_of b) layout source z.regions
blank {b} O L at_source = record {
  fixed_ok = L.fixed_ok;
  planned = L.planned;
  at_source = at_source;
  all_regions = O.in_use.regions_all ∙ sym (division_regions b);
}

pub start-requires : goal.start-requires
start-requires c =
    record { graph = _; division = _; spans = _; blank = blank c.args.o.now.outlined c.requires.1 c.source.ensures }

pub finish-requires : goal.finish-requires
finish-requires c =
    let outlined = c.args.o.now.outlined in
    let started = c.start.ensures _ _ _ (blank outlined c.requires.1 c.source.ensures) in
    record { sheet = _; current = _; finishing = finishing _ outlined.accepted outlined.in_use.nodes_all _ c.requires.0 _ started }

pub returns : goal.returns
returns c =
    let outlined = c.args.o.now.outlined in
    let started = c.start.ensures _ _ _ (blank outlined c.requires.1 c.source.ensures) in
    outcome _ outlined.accepted outlined.in_use.nodes_all _ c.requires.0 _
    (c.finish.ensures _ _ (finishing _ outlined.accepted outlined.in_use.nodes_all _ c.requires.0 _ started))
