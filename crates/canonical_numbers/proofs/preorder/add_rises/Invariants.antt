use Rattle.procedure.specs.Division.{Division}
use Rattle.canonical_numbers.specs.Numbers.{ParentsLaid}
use Rattle.canonical_numbers.proofs.preorder.Numbering.{Numbering}
use Rattle.canonical_numbers.proofs.preorder.add_rises.Given as goal

abbrev pub invariant-loop-r : goal.invariant-loop-r
invariant-loop-r l = (d : Division) → ParentsLaid d l.parents → Numbering d l.initial.rises l.initial.r → Numbering d l.rises l.r
