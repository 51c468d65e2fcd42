-- Parts that are laid in the fronts of arrays are read there as they are.
use Prim.Native.Nat.{ℕ, ◌+◌, ◌*◌, ◌≤◌, ◌<◌}
use mathlib.Core.Path.{◌≡◌, sym, ap, ◌∙◌}
use mathlib.Core.List.{List, ◌++◌}
use native.Mathlib.Omega.{arith}
use lib.ListN.{length, length-append, get_or-append}
use Rattle.indices.specs.Columns.{at}
use Rattle.procedure.specs.Graph.{Graph, arcs}
use Rattle.procedure.specs.Division.{Division, regions}
use Rattle.procedure.specs.OfSheet.{graph_of, division_of, spans_of}
use Rattle.procedure.proofs.OfSheet.{graph_nodes, graph_arcs, graph_lengths, division_regions}
use Rattle.theory_shortest.proofs.WellFormed.{accepted_well_formed}
use Rattle.run_arrays.specs.Rows.{row_tail}
use Rattle.run_arrays.specs.Trees.{Planned}
use Rattle.run_arrays.specs.Fixed.{ArcRows, ArcLinks, RegionArcs}
use Rattle.run_arrays.proofs.rows.Links.{links_same}
use Rattle.run_layout.specs.declared.sizes.Sizes.{Sizes}
use Rattle.run_layout.specs.InUse.{Outlined}
use Rattle.run_layout.specs.Layout.{Laid, ArcsLaid, HeightsLaid}

-- the first n entries of ys are those of xs
record Begins (n : ℕ) (xs ys : List ℕ) : Type 0 where
  same : (i : ℕ) → i < n → at ys i ≡ at xs i

begins : (n : ℕ) (xs more : List ℕ) → n ≤ length xs → Begins n xs (xs ++ more)
begins n xs more few = record { same = λ i l. get_or-append xs more 0 i (omega arith) }

module _ {d : Division} {xs ys : List ℕ} where
  region_arcs_on : Begins (regions d) xs ys → RegionArcs d xs → RegionArcs d ys
  region_arcs_on B R = record { leaf = λ r l e. B.same r l ∙ R.leaf r l e; inner = λ r l e. B.same r l ∙ R.inner r l e }

  planned_on : 4 * regions d ≤ length ys → Begins (4 * regions d) xs ys → Planned d xs → Planned d ys
  planned_on room B P = record {
    counted = record {
      numbered = P.counted.numbered;
      all = room;
      parents = λ c p l. B.same (4 * c + 0) (omega arith) ∙ P.counted.parents c p l;
      counts = λ r l. B.same (4 * r + 1) (omega arith) ∙ P.counted.counts r l;
    };
    starts = λ r l. B.same (4 * r + 2) (omega arith) ∙ P.starts r l;
    seats = λ c p l. B.same (4 * c + 3) (omega arith) ∙ P.seats c p l;
  }

module _ {g : Graph} {xs ys : List ℕ} (B : Begins (4 * arcs g) xs ys) where
  arc_rows_on : {d : Division} → ArcRows g d xs → ArcRows g d ys
  arc_rows_on R = record {
    tails = λ a l. B.same (4 * a + 0) (omega arith) ∙ R.tails a l;
    heads = λ a l. B.same (4 * a + 1) (omega arith) ∙ R.heads a l;
    leaves = λ a l. B.same (4 * a + 2) (omega arith) ∙ R.leaves a l;
  }

  links_on : {firsts firsts' : List ℕ} → Begins g.nodes firsts firsts' → ArcLinks g xs firsts → ArcLinks g ys firsts'
  links_on F L =
      let linked = links_same (row_tail xs) (row_tail ys) (λ a l. B.same (4 * a + 0) (omega arith)) L.linked in
      record {
        linked = record {
          short = linked.short;
          below = linked.below;
          firsts = λ v l. F.same v l ∙ linked.firsts v l;
          nexts = λ a l. B.same (4 * a + 3) (omega arith) ∙ linked.nexts a l;
        };
      }

-- THE WHOLE, part by part
module _ {b : List ℕ} {z : Sizes} (O : Outlined b z) {rows regionArcs arcRows firsts lengths spans heights : List ℕ} where
  pub laid : (rows' regionArcs' arcRows' firsts' lengths' spans' heights' : List ℕ) → length regionArcs ≡ z.regions → length arcRows ≡ 4 * z.arcs
      → length firsts ≡ z.nodes → length heights ≡ z.regions → Planned (division_of b) rows → RegionArcs (division_of b) regionArcs
      → ArcsLaid (graph_of b) (division_of b) arcRows firsts → lengths ≡ (graph_of b).lengths → spans ≡ spans_of b → HeightsLaid (division_of b) heights
      → Laid b (record {
        rows = rows ++ rows';
        region_arcs = regionArcs ++ regionArcs';
        arc_rows = arcRows ++ arcRows';
        firsts = firsts ++ firsts';
        arcs = z.arcs;
        lengths = lengths ++ lengths';
        spans = spans ++ spans';
        heights = heights ++ heights';
      })
  laid rows' regionArcs' arcRows' firsts' lengths' spans' heights' er ea ef eh P R A el es H =
      let use_regions = O.in_use.regions_all in
      let use_arcs = O.in_use.arcs_all in
      let use_nodes = O.in_use.nodes_all in
      let front = begins (4 * arcs (graph_of b)) arcRows arcRows' (omega (arith, graph_arcs b)) in
      record {
        fixed_ok = record {
          ok = accepted_well_formed b O.accepted;
          arc_rows = arc_rows_on front A.arc_rows;
          links = links_on front (begins (graph_of b).nodes firsts firsts' (omega (arith, graph_nodes b))) A.links;
          arc_count_lem = use_arcs ∙ sym (graph_arcs b);
          region_arcs = region_arcs_on (begins (regions (division_of b)) regionArcs regionArcs' (omega (arith, division_regions b))) R;
          lengths = λ a l. get_or-append lengths lengths' 0 a (omega (arith, ap length el, graph_lengths b, graph_arcs b)) ∙ ap (λ (xs : List ℕ). at xs a) el;
          heights = λ r l. get_or-append heights heights' 0 r (omega (arith, division_regions b)) ∙ H.each r l;
          each_span = λ h l. get_or-append spans spans' 0 h (omega (arith, ap length es)) ∙ ap (λ (xs : List ℕ). at xs h) es;
        };
        planned = planned_on (omega (arith, P.counted.all, length-append rows rows')) (begins (4 * regions (division_of b)) rows rows' P.counted.all) P;
      }
