-- The parts that are laid out represent the graph and the division of an accepted sheet.
use Prim.Native.Nat.{ℕ, ◌*◌, ◌<◌}
use mathlib.Core.Bool.{true}
use mathlib.Core.Path.{◌≡◌, refl, sym, ap, ◌∙◌}
use mathlib.Core.List.{List, [], ◌∷◌}
use native.Mathlib.Omega.{arith}
use borrow.Author.Tests.{eq-eqb, lt-ltb}
use lib.Dec.{eqb}
use lib.ListN.{length}
use Rattle.indices.specs.Columns.{at, column}
use Rattle.indices.proofs.Columns.{at_column}
use Rattle.indices.proofs.Tests.{and_both, count_once}
use Rattle.sheet.specs.Words.{words, top}
use Rattle.sheet.specs.Sections.{node_count, source, arc_count, region_words}
use Rattle.sheet.specs.Arcs.{tail, head}
use Rattle.sheet.specs.Regions.{region_count, leaf_word, arc_word, is_leaf, leaf_arc}
use Rattle.std.specs.Prelude.{Result, Ok, Err, OnOk}
use Rattle.answer.specs.declared.reason.Reason.{Reason}
use Rattle.answer.specs.Answer.{input, ◌when◌, accepted, lowest}
use Rattle.answer.specs.Reasons.{refusal_for, checked}
use Rattle.answer.proofs.Lowest.{refused≢accepted}
use Rattle.judgement.specs.Judgement.{Accepted}
use Rattle.judgement.specs.Division.{leaf_of_arc, childless_regions}
use Rattle.judgement.proofs.Accepted.{
  few_arcs,
  few_nodes,
  source_in,
  tail_in_lem,
  few_region_words,
  parents_right,
  children_there,
  nesting,
  leaf_arc_lem,
  one_leaf,
}
use Rattle.procedure.specs.Graph.{arcs}
use Rattle.procedure.specs.Division.{regions, arc_of, leaf_of}
use Rattle.procedure.specs.OfSheet.{graph_of, division_of}
use Rattle.procedure.proofs.OfSheet.{
  graph_nodes,
  graph_arcs,
  graph_tail,
  graph_head,
  division_regions,
  division_parent,
  division_arc,
  division_leaf,
  division_height,
}
use Rattle.theory_shortest.proofs.WellFormed.{accepted_well_formed}
use Rattle.judge_division.specs.Heights.{Passable, HeightsFound}
use Rattle.run_arrays.specs.Rows.{row_count, row_tail, row_head, row_leaf}
use Rattle.run_arrays.specs.Trees.{ParentsOf}
use Rattle.run_arrays.specs.Links.{Linkable, Linked}
use Rattle.run_queue.proofs.planning.Planning.{division_parents}
use Rattle.run_arrays.proofs.rows.Links.{links_same}
use Rattle.run_arrays.specs.Fixed.{ArcRows, RegionArcs}
use Rattle.run_layout.specs.Arcs.{EndsEntered, LeavesApart, LeavesEntered}
use Rattle.run_layout.specs.Regions.{Nested, ParentsEntered, arc_entered}
use Rattle.run_layout.specs.Layout.{ArcsLaid, HeightsLaid}
use Rattle.run_layout.proofs.regions.Rows.{leaf_arc_entered, inner_arc_entered}

-- THE ARCS

-- the rows of the arcs before they are linked: the ends of each arc and its leaf
pub record ArcsFilled (b arcRows : List ℕ) : Type 0 where
  pub all : length arcRows ≡ 4 * arc_count b
  pub tails : (a : ℕ) → a < arc_count b → row_tail arcRows a ≡ tail b a
  pub heads : (a : ℕ) → a < arc_count b → row_head arcRows a ≡ head b a
  pub leaves : (r : ℕ) → r < region_count (region_words b) → is_leaf (region_words b) r ≡ true → row_leaf arcRows (leaf_arc (region_words b) r) ≡ r

-- ends, then the leaves of the words d
pub arcs_filled : {b d ended entered : List ℕ} → EndsEntered b ended → d ≡ region_words b → LeavesEntered d ended entered → length entered ≡ 4 * arc_count b
    → ArcsFilled b entered
arcs_filled E e L all = record {
  all = all;
  tails = λ a l. L.kept a 0 (omega arith) ∙ E.tails a l;
  heads = λ a l. L.kept a 1 (omega arith) ∙ E.heads a l;
  leaves = (rw e at L).leaves;
}

-- the leaves of an accepted sheet are of different arcs
pub leaves_apart : (b : List ℕ) → Accepted b → {d : List ℕ} {m : ℕ} → d ≡ region_words b → m ≡ arc_count b → LeavesApart d m
leaves_apart b ok e all = rw e (record {
  few = few_region_words b ok;
  below = λ k l leaf. omega (arith, leaf_arc_lem b ok k l leaf);
  apart =
      λ j k lj lk leaf-j leaf-k e.
      let d = region_words b in
      let a = arc_word d k in
      count_once (leaf_of_arc d a) (words d) (one_leaf b ok a (leaf_arc_lem b ok k lk leaf-k)) j k lj lk
      (and_both (leaf_word d j) (eqb (arc_word d j) a) leaf-j (eq-eqb (arc_word d j) a e)) (and_both (leaf_word d k) (eqb a a) leaf-k (eq-eqb a a refl));
})

-- ends and leaves are entered: the rows can be linked, and once they are linked the arcs are laid
module _ {b entered : List ℕ} (ok : Accepted b) (F : ArcsFilled b entered) where
  pub linkable : {firsts : List ℕ} → length firsts ≡ node_count b → Linkable entered firsts
  linkable e = record {
    short = omega (arith, F.all, few_arcs b ok);
    below =
        λ a l.
        let inside : a < arc_count b = omega (arith, F.all) in
        omega (arith, F.tails a inside, tail_in_lem b ok a inside, e);
  }

  -- the leaf of an arc is in its row
  leaf_entered_lem : (a : ℕ) → a < arcs (graph_of b) → row_leaf entered a ≡ leaf_of (division_of b) a
  unfolding top
  leaf_entered_lem a l =
      let r = leaf_of (division_of b) a in
      let there = (accepted_well_formed b ok).division.arc_leaf a l in
      let inside : r < region_count (region_words b) = omega (arith, there.0, division_regions b) in
      let below : arc_of (division_of b) r < top = omega (arith, there.1, graph_arcs b, few_arcs b ok) in
      let leaf = sym (division_leaf b r inside) ∙ lt-ltb (arc_of (division_of b) r) top below in
      ap (row_leaf entered) (sym (sym (division_arc b r inside) ∙ there.1)) ∙ F.leaves r inside leaf

  module _ {linked firsts : List ℕ} (K : Linked entered linked firsts) (wide : length firsts ≡ node_count b) where
    is_arc_lem : (a : ℕ) → a < arcs (graph_of b) → a < arc_count b
    is_arc_lem a l = omega (arith, graph_arcs b)

    arc_rows : ArcRows (graph_of b) (division_of b) linked
    arc_rows = record {
      tails = λ a l. K.tails a ∙ F.tails a (is_arc_lem a l) ∙ sym (graph_tail b a (is_arc_lem a l));
      heads = λ a l. K.heads a ∙ F.heads a (is_arc_lem a l) ∙ sym (graph_head b a (is_arc_lem a l));
      leaves = λ a l. K.leaves a ∙ leaf_entered_lem a l;
    }

    pub arcs_laid : ArcsLaid (graph_of b) (division_of b) linked firsts
    arcs_laid =
        let count : row_count entered ≡ arcs (graph_of b) = omega (arith, F.all, graph_arcs b) in
        let nodes : length firsts ≡ (graph_of b).nodes = wide ∙ sym (graph_nodes b) in
        let links = links_same (row_tail entered) (row_tail linked) (λ a l. K.tails a) K.links in
        record { arc_rows = arc_rows; links = record { linked = rw (count, nodes) at links } }

-- THE REGIONS
module _ (b : List ℕ) (ok : Accepted b) where
  pub nested : {d : List ℕ} → d ≡ region_words b → Nested d
  nested e = rw e (record { few = few_region_words b ok; nesting = nesting b ok })

  -- heights can be found, and are
  pub passable : {d : List ℕ} → d ≡ region_words b → Passable d
  passable e = rw e (record { few = few_region_words b ok; parents = parents_right b ok })

  pub heights_known : {d heights : List ℕ} (outcome : Result (Unit {0}) Reason) → d ≡ region_words b
      → checked outcome ≡ lowest (input 13 when childless_regions d ∷ []) accepted → OnOk outcome (HeightsFound d heights) → HeightsFound d heights
  heights_known (Ok done) e told found = found
  heights_known (Err reason) e told found =
      absurd (refused≢accepted (refusal_for reason) (rw (ap childless_regions e ∙ children_there b ok) at told))

  pub parents_of : {d parents : List ℕ} → d ≡ region_words b → ParentsEntered d parents → ParentsOf (division_of b) parents
  parents_of {d} {parents} e entered =
      let P = rw e at entered in
      division_parents parents (accepted_well_formed b ok).division (P.all ∙ sym (division_regions b))
      (λ c pos l.
      let inside : c < region_count (region_words b) = omega (arith, division_regions b) in
      P.same c pos inside ∙ sym (division_parent b c inside))

  is_region : (r : ℕ) → r < regions (division_of b) → r < region_count (region_words b)
  is_region r l = omega (arith, division_regions b)

  pub region_arcs : {d arcs : List ℕ} → d ≡ region_words b → arcs ≡ column (region_count d) (arc_entered d) → RegionArcs (division_of b) arcs
  region_arcs {d} {arcs} e entered = record {
    leaf =
        λ r l leaf.
        let inside = is_region r l in
        each r inside ∙ (leaf_arc_entered (region_words b) r (sym (division_leaf b r inside) ∙ leaf)).1 ∙ sym (division_arc b r inside);
    inner = λ r l inner. let inside = is_region r l in each r inside ∙ inner_arc_entered (region_words b) r (sym (division_leaf b r inside) ∙ inner);
  }
    where
      each : (r : ℕ) → r < region_count (region_words b) → at arcs r ≡ arc_entered (region_words b) r
      each r l = ap (λ (xs : List ℕ). at xs r) (rw e at entered) ∙ at_column (region_count (region_words b)) (arc_entered (region_words b)) r l

  pub heights_laid : {d found heights : List ℕ} {n : ℕ} → d ≡ region_words b → HeightsFound d found → n ≡ region_count (region_words b)
      → heights ≡ column n (at found) → HeightsLaid (division_of b) heights
  heights_laid {d} {found} {heights} {n} e H all entered = record {
    each =
        λ r l.
        let inside = is_region r l in
        ap (λ (xs : List ℕ). at xs r) entered ∙ at_column n (at found) r (omega (arith, all))
        ∙ (rw e at H).each r inside ∙ sym (division_height b r inside);
  }

  -- 16 bits hold the source
  pub source_fits_lem : source b < 65536
  source_fits_lem = omega (arith, source_in b ok, few_nodes b ok)
