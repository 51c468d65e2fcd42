-- `enter_spans` meets its contract: the heights passed have their spans.
use native.Mathlib.Omega.{arith}
use Rattle.sheet.proofs.Bounds.{kind_le}
use Rattle.procedure.specs.OfSheet.{spans_of}
use Rattle.indices.proofs.Entries.{prefix_all}
use Rattle.run_layout.proofs.lengths.enter_spans.Goals as goal

pub span-requires : goal.span-requires
span-requires c = omega (arith, kind_le 3 c.args.s.now 2)

pub returns : goal.returns
unfolding spans_of
returns c = prefix_all c.loop-i.invariant (omega arith)
