-- `lay_region_arcs` meets its contract: what is entered from the region words are the arcs of the division's regions.
use mathlib.Core.Path.{◌∙◌}
use Rattle.run_layout.proofs.Represented.{nested, region_arcs}
use Rattle.run_layout.proofs.lay_region_arcs.Goals as goal

pub enter_region_arcs-requires : goal.enter_region_arcs-requires
enter_region_arcs-requires c = ((nested _ c.args.o.now.outlined.accepted c.region_words.ensures).few, rw c.region_words.ensures (c.requires ∙ c.args.o.now.outlined.in_use.regions_all))

pub returns : goal.returns
returns c = region_arcs _ c.args.o.now.outlined.accepted c.region_words.ensures c.enter_region_arcs.ensures
