-- What each pass of the numbering asks, for the division of an accepted sheet.
use Prim.Native.Nat.{ℕ, ◌*◌, ◌<◌}
use mathlib.Core.Path.{◌≡◌, sym, ap, ◌∙◌}
use mathlib.Core.List.{List}
use native.Mathlib.Omega.{arith}
use borrow.Author.Tests.{lt-ltb}
use lib.ListN.{length}
use Rattle.sheet.specs.Words.{top}
use Rattle.sheet.specs.Sections.{arc_count, region_words}
use Rattle.sheet.specs.Regions.{region_count}
use Rattle.judgement.specs.Judgement.{Accepted}
use Rattle.judgement.proofs.Accepted.{few_region_words, few_arcs}
use Rattle.run_arrays.specs.Rows.{row_leaf}
use Rattle.procedure.specs.Division.{Division, arc_of, leaf_of}
use Rattle.procedure.specs.OfSheet.{division_of}
use Rattle.procedure.proofs.OfSheet.{graph_arcs, division_regions, division_arc, division_leaf}
use Rattle.run_layout.specs.declared.sizes.Sizes.{Sizes}
use Rattle.run_layout.specs.InUse.{Outlined}
use Rattle.run_layout.specs.Arcs.{LeavesEntered}
use Rattle.run_layout.specs.Regions.{ParentsLent, ParentsEntered}
use Rattle.run_layout.proofs.Represented.{nested, parents_of}
use Rattle.canonical_form.proofs.Numbering.{lowest_leaf}
use Rattle.canonical_form.proofs.Proper.{division_ok, proper}
use Rattle.canonical_form.proofs.Accepted.{leaf_later, arc_below_top, arc_number}
use Rattle.canonical_numbers.specs.Numbers.{ParentsLaid, SizesFound, LeafOf, Starting}

-- an accepted sheet b whose region words are d, with m arcs
pub record Numberable (b d : List ℕ) (m : ℕ) : Type 0 where
  pub accepted : Accepted b
  pub words_of : d ≡ region_words b
  pub arcs_of : m ≡ arc_count b

-- which an outline gives
pub numberable : {b d : List ℕ} {z : Sizes} → Outlined b z → d ≡ region_words b → Numberable b d z.arcs
numberable O is = record { accepted = O.accepted; words_of = is; arcs_of = O.in_use.arcs_all }

module _ {b d : List ℕ} {m : ℕ} (N : Numberable b d m) where
  abbrev D : Division
  D = division_of b

  pub parents_lent : {parents : List ℕ} → length parents ≡ region_count d → ParentsLent d parents
  parents_lent e = record { nested = nested b N.accepted N.words_of; each_region = e }

  pub parents_laid : {parents : List ℕ} → ParentsEntered d parents → ParentsLaid D parents
  parents_laid E =
      record {
        proper = proper b N.accepted;
        few = omega (arith, division_regions b, few_region_words b N.accepted);
        column = parents_of b N.accepted N.words_of E;
      }

  -- the leaf of each arc is in its row
  leaf_in_row : {arcs₀ arcs : List ℕ} → LeavesEntered d arcs₀ arcs → (a : ℕ) → a < m → LeafOf D a (row_leaf arcs a)
  leaf_in_row {arcs₀} {arcs} E a l =
      let r = leaf_of D a in
      let low = arc_below_top b N.accepted a (omega (arith, N.arcs_of)) in
      let there = (division_ok b N.accepted).arc_leaf a (omega (arith, graph_arcs b, N.arcs_of)) in
      let inside : r < region_count (region_words b) = omega (arith, there.0, division_regions b) in
      let leaf = sym (division_leaf b r inside) ∙ lt-ltb (arc_of D r) top (omega (arith, there.1)) in
      let row : row_leaf arcs a ≡ r = ap (row_leaf arcs) (sym there.1 ∙ division_arc b r inside) ∙ (rw N.words_of at E).leaves r inside leaf in
      rw row (record { inside = there.0; later = leaf_later b N.accepted r a there.1 low; arc = there.1; below = low })

  pub starting : {arcs₀ arcs parents sizes : List ℕ} → length arcs ≡ 4 * m → LeavesEntered d arcs₀ arcs → ParentsLaid D parents → SizesFound D sizes
      → Starting D m parents sizes arcs
  starting e E L Z = record {
    laid = L;
    sized = Z;
    few_arcs = omega (arith, few_arcs b N.accepted, N.arcs_of);
    rows = omega arith;
    leaves = leaf_in_row E;
    arcs =
        λ c pos l.
        let w = lowest_leaf D (proper b N.accepted) c pos l in
        omega (arith, arc_number b N.accepted w.0 w.1 (lt-ltb (arc_of D w.0) top (omega (arith, w.2, w.3))), w.2, N.arcs_of);
  }
