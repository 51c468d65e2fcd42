-- `source` meets its contract: the source that the sheet names is a node, so that 16 bits hold it.
use mathlib.Core.Path.{sym, ◌∙◌}
use native.Mathlib.Omega.{arith}
use Rattle.procedure.proofs.OfSheet.{graph_source}
use Rattle.run_layout.proofs.Represented.{source_fits_lem}
use Rattle.run_layout.proofs.outline.Outline.source.Goals as goal

pub overflow_cast-result : goal.overflow_cast-result
overflow_cast-result c = omega (arith, c.source_number.ensures, source_fits_lem _ c.args.self.now.outlined.accepted)

pub returns : goal.returns
returns c = c.source_number.ensures ∙ sym (graph_source _)
