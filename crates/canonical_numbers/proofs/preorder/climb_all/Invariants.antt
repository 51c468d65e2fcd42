use Rattle.procedure.specs.Division.{Division, regions}
use Rattle.canonical_numbers.specs.Numbers.{Starting, Rising}
use Rattle.canonical_numbers.proofs.preorder.climb_all.Given as goal

abbrev pub invariant-loop-a : goal.invariant-loop-a
invariant-loop-a l = (d : Division) → Starting d l.m l.parents l.sizes l.arcs → Rising d 0 (regions d) l.initial.nexts l.initial.rises
    → Rising d l.a (regions d) l.nexts l.rises
