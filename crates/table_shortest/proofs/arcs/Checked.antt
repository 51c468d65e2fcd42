-- The tests of the source and of an arc, by the cases in which the code decides them.
use Prim.Native.Nat.{ℕ, ◌+◌, ◌<◌}
use mathlib.Core.Bool.{true, false}
use mathlib.Core.Path.{◌≡◌, sym, ◌∙◌}
use mathlib.Core.Logic.{◌≢◌}
use mathlib.Core.List.{List}
use lib.Dec.{leb, eqb}
use borrow.Author.Tests.{eq-eqb, ne_eqb}
use Rattle.indices.specs.Columns.{at}
use Rattle.sheet.specs.Words.{top}
use Rattle.sheet.specs.Sections.{source, arc_count}
use Rattle.sheet.specs.Arcs.{tail as tailField, head as headField, taken_length}
use Rattle.judgement.proofs.Accepted.{few_nodes, source_in, tail_in_lem, head_in, taken_short}
use Rattle.procedure.specs.Graph.{tail}
use Rattle.procedure.specs.OfSheet.{graph_of}
use Rattle.theory_shortest.specs.TableTest.{source_test, relaxed_test}
use Rattle.calls.specs.Tables.{label_in, predecessor_in}
use Rattle.table.specs.Fits.{TableFits, labels}
use Rattle.table.proofs.lent.AtArcs.{from_label, to_label, arc_length_lem, source_label, source_predecessor}
use Rattle.table_shortest.specs.ArcChecks.{source_fits, arc_relaxed}

module _ {b table : List ℕ} (F : TableFits b table) where
  -- the source u, with label x
  module _ {u x : ℕ} (e : u ≡ source b) (ex : x ≡ label_in table u) where
    pub source_not_zero : x ≢ 0 → false ≡ source_fits b table
    unfolding source_test
    source_not_zero n = rw (ne_eqb (at (labels b table) (graph_of b).source) 0 (λ z. n (source_label F e ex ∙ z)))

    pub source_zero : {a : ℕ} → a ≡ predecessor_in table u → x ≡ 0 → eqb a top ≡ source_fits b table
    unfolding source_test
    source_zero ea z = rw (eq-eqb (at (labels b table) (graph_of b).source) 0 (sym (source_label F e ex) ∙ z), ← source_predecessor F e ea)

  -- arc a from a node u with label x
  module _ {a u x : ℕ} (la : a < arc_count b) (eu : u ≡ tailField b a) (ex : x ≡ label_in table u) where
    pub relaxed_unreached : x ≡ top → true ≡ arc_relaxed b table a
    unfolding relaxed_test
    relaxed_unreached e = rw (eq-eqb (at (labels b table) (tail (graph_of b) a)) top (sym (from_label F la eu ex) ∙ e))

    module _ (reached : x ≢ top) {n : ℕ} (en : n ≡ taken_length b a) where
      -- to a node w with label y
      pub relaxed_compared : {w y : ℕ} → w ≡ headField b a → y ≡ label_in table w → leb y (x + n) ≡ arc_relaxed b table a
      unfolding relaxed_test
      relaxed_compared ew ey = rw (← from_label F la eu ex, ne_eqb x top reached, ← to_label F la ew ey, ← arc_length_lem F la en)

-- the source and its number, and an arc's ends and length
pub ruleset source_steps = (few_nodes, source_in, source_not_zero, source_zero)

pub ruleset arc_steps = (tail_in_lem, head_in, taken_short, relaxed_unreached, relaxed_compared)
