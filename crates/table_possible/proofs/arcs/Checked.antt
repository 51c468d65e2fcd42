-- The tests of an arc of a possible state, by the cases in which the code decides them.
use Prim.Native.Nat.{ℕ, ◌<◌}
use mathlib.Core.Bool.{Bool, true, false, not, and-true, or-true}
use mathlib.Core.Path.{◌≡◌, sym, ◌∙◌}
use mathlib.Core.Logic.{◌≢◌}
use mathlib.Core.List.{List}
use borrow.Author.Tests.{eq-eqb, ne_eqb}
use Rattle.indices.specs.Columns.{at}
use Rattle.sheet.specs.Words.{top}
use Rattle.sheet.specs.Sections.{arc_count}
use Rattle.sheet.specs.Arcs.{tail as tailField}
use Rattle.judgement.proofs.Accepted.{tail_in_lem}
use Rattle.procedure.specs.Graph.{tail}
use Rattle.procedure.specs.OfSheet.{graph_of}
use Rattle.theory_shortest.specs.TableTest.{relaxed_test}
use Rattle.calls.specs.Tables.{label_in}
use Rattle.calls.specs.LongTables.{has_key}
use Rattle.calls.specs.Possible.{keyless_test, done_test}
use Rattle.table.specs.Fits.{TableFits, labels}
use Rattle.table.proofs.lent.AtArcs.{from_label}
use Rattle.table_shortest.specs.ArcChecks.{arc_relaxed}
use Rattle.table_possible.specs.Held.{arc_held}

-- arc a from a node u with label x, keyed or not
module _ {b table : List ℕ} (F : TableFits b table) {a u x : ℕ} {keyed : Bool} (la : a < arc_count b)
    (ek : keyed ≡ has_key (graph_of b) table a) (eu : u ≡ tailField b a) (ex : x ≡ label_in table u) where
  pub held_unreached : x ≡ top → not keyed ≡ arc_held b table a
  unfolding keyless_test done_test relaxed_test
  held_unreached e =
      rw (← ek, eq-eqb (at (labels b table) (tail (graph_of b) a)) top (sym (from_label F la eu ex) ∙ e), or-true keyed, and-true (not keyed))

  module _ (reached : x ≢ top) where
    pub held_keyed : keyed ≡ true → true ≡ arc_held b table a
    unfolding keyless_test done_test
    held_keyed k = rw (← ek, ← from_label F la eu ex, ne_eqb x top reached, k)

    pub held_keyless : keyed ≡ false → arc_relaxed b table a ≡ arc_held b table a
    unfolding keyless_test done_test
    held_keyless k = rw (← ek, ← from_label F la eu ex, ne_eqb x top reached, k)

pub ruleset arc_steps = (tail_in_lem, held_unreached, held_keyed, held_keyless)
