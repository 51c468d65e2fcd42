-- `start` meets its contract: the run is cleared, the source gets its label, the queues are built, and the source's outgoing arcs updated.
use borrow.Author.Rules.{rules}
use Rattle.sheet.specs.Words.{top}
use Rattle.theory.specs.Sound.{no_keys}
use Rattle.run_arrays.proofs.trees.Room.{can_build}
use Rattle.run_engine.proofs.rounds.Beginning.{source_in, start_asks, start_held, begun}
use Rattle.run_engine.proofs.rounds.start.Goals as goal

pub clear-requires-2 : goal.clear-requires-2
clear-requires-2 c =
    let B = c.requires.blank in
    record {
      division = c.requires.division;
      buildable = can_build B.fixed_ok.ok.division B.fixed_ok.heights B.planned (search rules);
      all_regions = B.all_regions;
    }

pub set_label-requires : goal.set_label-requires
set_label-requires c = source_in c.requires.blank

-- THE QUEUES are cleared

pub update_outgoing-n-requires : goal.update_outgoing-n-requires
unfolding top
update_outgoing-n-requires c =
    let pre = c.requires in
    let B = pre.blank in
    let cleared = c.clear-2.ensures _ (can_build B.fixed_ok.ok.division B.fixed_ok.heights B.planned (search rules)) B.all_regions in
    record {
      graph = pre.graph;
      division = pre.division;
      queues = no_keys pre.graph pre.division;
      holds = start_held B c.clear.ensures cleared c.set_label.ensures;
      updating = start_asks B;
    }

pub returns : goal.returns
unfolding top
returns c g d spans B =
    let empty = c.clear.ensures in
    let cleared = c.clear-2.ensures d (can_build B.fixed_ok.ok.division B.fixed_ok.heights B.planned (search rules)) B.all_regions in
    let held = start_held B empty cleared c.set_label.ensures in
    begun B empty cleared c.set_label.ensures (c.update_outgoing-n.ensures g d (no_keys g d) held (start_asks B)) c.start.ensures
