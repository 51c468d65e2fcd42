-- The division of an accepted sheet is proper: parents fall, each arc has one leaf, and every region but 0 holds something.
use Prim.Native.Nat.{ℕ, zero, suc, ◌<◌}
use mathlib.Core.Bool.{true, false}
use mathlib.Core.Path.{◌≡◌, refl, sym, ap, ◌∙◌}
use mathlib.Core.Logic.{◌⊎◌, inl, inr, ⊎_elim}
use mathlib.Core.List.{List}
use native.Mathlib.Omega.{arith}
use borrow.Author.Tests.{ltb-true, lt-ltb}
use Rattle.indices.proofs.Steps.{true_or_false}
use Rattle.sheet.specs.Words.{words, top}
use Rattle.sheet.specs.Sections.{region_words}
use Rattle.sheet.specs.Regions.{region_count, arc_word, leaf_arc}
use Rattle.judgement.specs.Judgement.{Accepted}
use Rattle.judgement.proofs.Accepted.{has_child_lem}
use Rattle.procedure.specs.Division.{Division, regions, parent, arc_of, is_leaf, leaf_of}
use Rattle.procedure.specs.Graph.{arcs}
use Rattle.procedure.specs.OfSheet.{graph_of, division_of}
use Rattle.theory_shortest.specs.WellFormed.{DivisionOk}
use Rattle.procedure.proofs.OfSheet.{division_regions, division_parent, division_arc, division_leaf}
use Rattle.theory_shortest.proofs.WellFormed.{accepted_well_formed}
use Rattle.canonical_form.specs.Inner.{Proper}

-- an inner region has no arc
pub inner_arc : (b : List ℕ) (r : ℕ) → r < regions (division_of b) → is_leaf (division_of b) r ≡ false → arc_of (division_of b) r ≡ top
unfolding arc_word top
inner_arc b r l inner =
    let l' : r < region_count (region_words b) = omega (arith, division_regions b) in
    let arc = division_arc b r l' in
    arc ∙ by_word r (sym (division_leaf b r l') ∙ inner)
  where
    by_word : (r : ℕ) → Rattle.sheet.specs.Regions.is_leaf (region_words b) r ≡ false → leaf_arc (region_words b) r ≡ top
    by_word zero e = refl
    by_word (suc k) e = rw e

module _ (b : List ℕ) (ok : Accepted b) where
  abbrev d : Division
  d = division_of b

  pub division_ok : DivisionOk (arcs (graph_of b)) (division_of b)
  division_ok = (accepted_well_formed b ok).division

  one_leaf : (r s : ℕ) → r < regions d → s < regions d → arc_of d r < top → arc_of d r ≡ arc_of d s → r ≡ s
  one_leaf r s lr ls l e =
      sym (division_ok.leaf_arc_lem r lr (lt-ltb (arc_of d r) top l)).1
      ∙ ap (leaf_of d) e
      ∙ (division_ok.leaf_arc_lem s ls (lt-ltb (arc_of d s) top (omega arith))).1

  not_empty : (r : ℕ) → 0 < r → r < regions d → (arc_of d r < top) ⊎ ((c : ℕ) × (c < regions d) × (0 < c) × (parent d c ≡ r))
  not_empty zero pos l = absurd (omega arith)
  not_empty (suc k) pos l =
      let rw-count = division_regions b in
      let lk : k < words (region_words b) = omega arith in
      ⊎_elim (λ (leaf : is_leaf d (suc k) ≡ true). inl (ltb-true (arc_of d (suc k)) top leaf))
      (λ (inner : is_leaf d (suc k) ≡ false).
      let w = has_child_lem b ok k lk (sym (division_leaf b (suc k) (omega arith)) ∙ inner) in
      let lc : suc w.0 < region_count (region_words b) = omega (arith, w.1) in
      inr (suc w.0, omega arith, omega arith, division_parent b (suc w.0) lc ∙ w.2))
      (true_or_false (is_leaf d (suc k)))

  pub proper : Proper (division_of b)
  proper = record {
    some = division_ok.nesting.root;
    lower = division_ok.nesting.lower;
    one_leaf = one_leaf;
    not_empty = not_empty;
  }
