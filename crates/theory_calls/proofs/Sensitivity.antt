-- Two accepted sheets that differ in one arc's length, or in one hold, have graphs that differ only on the arcs that leave one node, the arc's tail or the node
-- held. So what is known of shortest labels of such graphs is known of their tables. A way that does not meet the figure changed takes as long in both, so it
-- bounds the new distance by the old one.
use Prim.Native.Nat.{ℕ, ◌+◌, ◌≤◌, ◌<◌}
use mathlib.Core.Path.{◌≡◌, refl, sym, ap, subst, ◌∙◌}
use mathlib.Core.Logic.{◌≢◌}
use mathlib.Core.List.{List, [], ◌∷◌}
use native.Mathlib.Omega.{arith}
use Rattle.indices.specs.Columns.{at}
use Rattle.indices.proofs.Columns.{same_column}
use Rattle.indices.proofs.Steps.{by_equal}
use Rattle.sheet.specs.Words.{top}
use Rattle.sheet.specs.Sections.{node_count, source, arc_count}
use Rattle.sheet.specs.Arcs.{tail, head, arc_length, hold, charged, taken_length}
use Rattle.sheet.proofs.Holds.{charged_source, charged_other, charged_same}
use Rattle.judgement.specs.Judgement.{Accepted}
use Rattle.judgement.proofs.Accepted.{tail_in_lem, head_in}
use Rattle.procedure.specs.Graph.{arcs, len, head as graphHead}
use Rattle.procedure.specs.OfSheet.{graph_of}
use Rattle.procedure.specs.Routes.{Route}
use Rattle.procedure.specs.Travel.{sum_over, between, travel_time}
use Rattle.procedure.proofs.OfSheet.{graph_nodes, graph_arcs, graph_tail, graph_len}
use Rattle.theory_shortest.specs.Changed.{ChangedAt, Lengthened}
use Rattle.theory_shortest.proofs.Changed as changed
use Rattle.theory_shortest.proofs.Travel.{for_sheet}
use Rattle.calls.specs.Tables.{label_in, labels_in}
use Rattle.calls.specs.Routes.{ShortestTable, route_to}
use Rattle.calls.specs.Sensitivity.{SameEnds, OtherLength, OtherHold, apart, Moved, InTables, Moves, Each, Without, Keeps, Sensitivity}
use Rattle.calls.proofs.Tables.{labels_at}
use Rattle.theory_calls.proofs.Delivered.{ended_shortest}
use Rattle.theory_calls.proofs.OneWord as words

-- what holds of every two tables that are shortest holds of those that runs leave as ended
in_tables : {b b' : List ℕ} → Accepted b → Accepted b' → {P : List ℕ → List ℕ → Type 0}
    → ((table table' : List ℕ) → ShortestTable b table → ShortestTable b' table' → P table table') → InTables b b' P
in_tables {b} {b'} ok ok' known = record {
  runs = λ k k' lent lent' e e'. known _ _ (ended_shortest b ok k lent e) (ended_shortest b' ok' k' lent' e');
  shortest = known;
}

-- HOW AN ARC IS CHANGED: it takes as long in both sheets, or it leaves u, and m of its length in the one is m' in the other.
data ArcChanged (b b' : List ℕ) (u m m' a : ℕ) : Type 0 where
  same : taken_length b a ≡ taken_length b' a → ArcChanged b b' u m m' a
  here : (n : ℕ) → tail b a ≡ u → taken_length b a ≡ m + n → taken_length b' a ≡ m' + n → ArcChanged b b' u m m' a

module _ {b b' : List ℕ} {u m m' a : ℕ} where
  unchanged_elsewhere : ArcChanged b b' u m m' a → tail b a ≢ u → taken_length b a ≡ taken_length b' a
  unchanged_elsewhere (same e) n = e
  unchanged_elsewhere (here n t e e') other = absurd (other t)

  near : ArcChanged b b' u m m' a → apart (taken_length b a) (taken_length b' a) ≤ apart m m'
  near (same e) = omega arith
  near (here n t e e') = omega arith

  rises : ArcChanged b b' u m m' a → m ≤ m' → taken_length b a ≤ taken_length b' a
  rises (same e) l = omega arith
  rises (here n t e e') l = omega arith

  falls : ArcChanged b b' u m m' a → m' ≤ m → taken_length b' a ≤ taken_length b a
  falls (same e) l = omega arith
  falls (here n t e e') l = omega arith

-- THE GRAPHS of two sheets whose arcs are so changed
module _ {b b' : List ℕ} (ends : SameEnds b b') {u m m' : ℕ} (each : (a : ℕ) → a < arc_count b → ArcChanged b b' u m m' a) where
  -- an arc of the graphs, and its length in both
  is_arc_lem : {a : ℕ} → a < arcs (graph_of b) → a < arc_count b
  is_arc_lem l = omega (arith, graph_arcs b)

  is_arc' : {a : ℕ} → a < arcs (graph_of b') → a < arc_count b
  is_arc' l = omega (arith, graph_arcs b', ends.arcs)

  lens : (a : ℕ) → a < arc_count b → (len (graph_of b) a ≡ taken_length b a) × (len (graph_of b') a ≡ taken_length b' a)
  lens a l = (graph_len b a l, graph_len b' a (omega (arith, ends.arcs)))

  graphs_changed : ChangedAt u (apart m m') (graph_of b) (graph_of b')
  unfolding graph_of
  graphs_changed = record {
    nodes = ends.nodes;
    source = ends.sources;
    tails = same_column (arc_count b) (arc_count b') (tail b) (tail b') ends.arcs ends.tails;
    heads = same_column (arc_count b) (arc_count b') (head b) (head b') ends.arcs ends.heads;
    elsewhere = λ a l n.
        let la = is_arc_lem l in
        (lens a la).0 ∙ unchanged_elsewhere (each a la) (λ e. n (graph_tail b a la ∙ e)) ∙ sym (lens a la).1;
    leaving = λ a l e. let la = is_arc_lem l in (omega (arith, lens a la, near (each a la)), omega (arith, lens a la, near (each a la)));
  }

  lengthened : m ≤ m' → Lengthened (graph_of b) (graph_of b')
  lengthened up a l = let la = is_arc_lem l in omega (arith, lens a la, rises (each a la) up)

  shortened : m' ≤ m → Lengthened (graph_of b') (graph_of b)
  shortened down a l = let la = is_arc' l in omega (arith, lens a la, falls (each a la) down)

  -- THEIR TABLES, where the figure changed goes up or down as m does, and by no less
  module _ (before after : ℕ) (bound : apart m m' ≤ apart before after) (up : before ≤ after → m ≤ m') (down : after ≤ before → m' ≤ m) where
    tables_moved : (table table' : List ℕ) → ShortestTable b table → ShortestTable b' table' → Moved before after b table b' table'
    tables_moved table table' shortest shortest' =
        let s = (for_sheet b).1 shortest in
        let s' = (for_sheet b').1 shortest' in
        let p = graphs_changed in
        let node : (v : ℕ) → v < node_count b → v < (graph_of b).nodes = λ v l. rw (graph_nodes b) l in
        let node' : (v : ℕ) → v < node_count b → v < (graph_of b').nodes = λ v l. rw (graph_nodes b', ← ends.nodes) l in
        let label = labels_at (node_count b) table in
        let label' : (v : ℕ) → v < node_count b → at (labels_in (node_count b') table') v ≡ label_in table' v =
        λ v l. labels_at (node_count b') table' v (omega (arith, ends.nodes)) in
        record {
          nodes = ends.nodes;
          unreached = λ v l. rw (label v l, label' v l) at (changed.same_unreached p s s' v (node v l));
          no_farther = λ v l. omega (arith, changed.no_farther p s s' v (node v l), label v l, label' v l, bound);
          none_down = λ rise v l. omega (arith, changed.none_down p s s' v (node v l) (lengthened (up rise)), label v l, label' v l);
          none_up = λ fall v l.
              omega (arith, changed.none_down (changed.changed_back p) s' s v (node' v l) (shortened (down fall)), label v l, label' v l);
        }

    moves : Accepted b → Accepted b' → Moves before after b b'
    moves ok ok' = in_tables ok ok' tables_moved

-- A WAY whose arcs are as long in both sheets, and the nodes between its ends charged as much, takes as long in both
module _ {b b' : List ℕ} (ends : SameEnds b b') (ok : Accepted b) (P Q : ℕ → Type 0)
    (same_length : (a : ℕ) → a < arc_count b → P a → arc_length b a ≡ arc_length b' a)
    (same_charge : (v : ℕ) → v < node_count b → Q v → charged b v ≡ charged b' v) where
  same_time : (w : ℕ) (way : List ℕ) (v : ℕ) → Route (graph_of b) w way v → Each P way → Each Q (between b way) → travel_time b way ≡ travel_time b' way
  unfolding Route travel_time sum_over between Each
  same_time w [] v r ps qs = refl
  same_time w (a ∷ []) v r ps qs = omega (arith, same_length a (omega (arith, graph_arcs b, r.0)) ps.0)
  same_time w (a ∷ next ∷ way) v r ps qs =
      let la : a < arc_count b = omega (arith, graph_arcs b, r.0) in
      omega (
        arith,
        same_length a la ps.0,
        same_charge (head b a) (head_in b ok a la) qs.0,
        ap (charged b') (ends.heads a la),
        same_time (graphHead (graph_of b) a) (next ∷ way) v r.2 ps.1 qs.1,
      )

-- a way that takes as long in both bounds the new distance by the old one, so where no distance falls it stays
way_kept : {b b' : List ℕ} (ends : SameEnds b b') {u c : ℕ} → ChangedAt u c (graph_of b) (graph_of b') → (table table' : List ℕ) → ShortestTable b table
    → ShortestTable b' table' → {before after : ℕ} → before ≤ after → Moved before after b table b' table' → (v : ℕ) → v < node_count b
    → (Route (graph_of b) (graph_of b).source (route_to b table v) v → travel_time b (route_to b table v) ≡ travel_time b' (route_to b table v))
    → label_in table v ≡ label_in table' v
unfolding route_to
way_kept {b} {b'} ends p table table' s s' up m v l as_long =
    let node : v < (graph_of b).nodes = rw (graph_nodes b) l in
    let node' : v < (graph_of b').nodes = rw (graph_nodes b', ← ends.nodes) l in
    let label = labels_at (node_count b) table v l in
    let label' = labels_at (node_count b') table' v (omega (arith, ends.nodes)) in
    by_equal (label_in table v) top
    (λ none. none ∙ sym ((m.unreached v l).0 none))
    (λ reached.
    let q = s.chain v node (λ e. reached (sym label ∙ e)) in
    let way = route_to b table v in
    let r' = subst (λ (w : ℕ). Route (graph_of b') w way v) p.source (changed.route_too p (graph_of b).source way v q.0) in
    omega (arith, m.none_down up v l, s'.least v node' way r', as_long q.0, q.1, label, label'))

-- nothing is asked of the entries
no_matter : (xs : List ℕ) → Each (λ x. Unit) xs
unfolding Each
no_matter [] = tt
no_matter (x ∷ xs) = (tt, no_matter xs)

-- an arc's length, and what is charged at its tail
taken : (b : List ℕ) (a : ℕ) → taken_length b a ≡ arc_length b a + charged b (tail b a)
unfolding taken_length
taken b a = refl

module _ {b b' : List ℕ} (ok : Accepted b) (ok' : Accepted b') where
  -- ONE ARC'S LENGTH
  module _ (a : ℕ) (other : OtherLength a b b') where
    same_charge : (v : ℕ) → v < node_count b → charged b v ≡ charged b' v
    same_charge v l = charged_same b b' other.ends.sources v (other.holds v l)

    length_changed : (i : ℕ) → i < arc_count b → ArcChanged b b' (tail b a) (arc_length b a) (arc_length b' a) i
    length_changed i l =
        let charge = same_charge (tail b i) (tail_in_lem b ok i l) ∙ ap (charged b') (other.ends.tails i l) in
        by_equal i a
        (λ e.
        here (charged b (tail b i)) (ap (tail b) e) (omega (arith, taken b i, ap (arc_length b) e))
        (omega (arith, taken b' i, ap (arc_length b') e, charge)))
        (λ n. same (omega (arith, taken b i, taken b' i, other.lengths i l n, charge)))

    other_length : Moves (arc_length b a) (arc_length b' a) b b'
    other_length = moves other.ends length_changed (arc_length b a) (arc_length b' a) (omega arith) (λ up. up) (λ down. down) ok ok'

    length_keeps : arc_length b a ≤ arc_length b' a → Keeps (Without a) b b'
    length_keeps up = in_tables ok ok'
        (λ table table' s s' v l without.
        way_kept other.ends (graphs_changed other.ends length_changed) table table' s s' up (other_length.shortest table table' s s') v l
        (λ r. same_time other.ends ok (λ i. i ≢ a) (λ w. Unit) other.lengths (λ w lw _. same_charge w lw) _ _ v r without (no_matter _)))

  -- ONE HOLD
  module _ (v : ℕ) (other : OtherHold v b b') where
    other_charge : (w : ℕ) → w < node_count b → w ≢ v → charged b w ≡ charged b' w
    other_charge w l n = charged_same b b' other.ends.sources w (other.holds w l n)

    hold_changed : (i : ℕ) → i < arc_count b → ArcChanged b b' v (charged b v) (charged b' v) i
    hold_changed i l =
        let tails = ap (charged b') (other.ends.tails i l) in
        by_equal (tail b i) v
        (λ e.
        here (arc_length b i) e (omega (arith, taken b i, ap (charged b) e))
        (omega (arith, taken b' i, tails, ap (charged b') e, other.lengths i l)))
        (λ n. same (omega (arith, taken b i, taken b' i, other.lengths i l, tails, other_charge (tail b i) (tail_in_lem b ok i l) n)))

    -- by the figures charged
    charge_moves : (before after : ℕ) → apart (charged b v) (charged b' v) ≤ apart before after → (before ≤ after → charged b v ≤ charged b' v)
        → (after ≤ before → charged b' v ≤ charged b v) → Moves before after b b'
    charge_moves before after bound up down = moves other.ends hold_changed before after bound up down ok ok'

    -- of the source nothing, of another node the hold
    none_charged : v ≡ source b → (charged b v ≡ 0) × (charged b' v ≡ 0)
    none_charged e = (charged_source b v e, charged_source b' v (e ∙ other.ends.sources))

    hold_charged : v ≢ source b → (charged b v ≡ hold b v) × (charged b' v ≡ hold b' v)
    hold_charged n = (charged_other b v n, charged_other b' v (λ e. n (e ∙ sym other.ends.sources)))

    -- so what is charged goes as the hold does, or stays
    charge_follows : (apart (charged b v) (charged b' v) ≤ apart (hold b v) (hold b' v)) × (hold b v ≤ hold b' v → charged b v ≤ charged b' v)
        × (hold b' v ≤ hold b v → charged b' v ≤ charged b v)
    charge_follows =
        by_equal v (source b)
        (λ e. let c = none_charged e in (omega (arith, c), λ _. omega (arith, c), λ _. omega (arith, c)))
        (λ n. let c = hold_charged n in (omega (arith, c), λ up. omega (arith, c), λ down. omega (arith, c)))

    other_hold : Moves (hold b v) (hold b' v) b b'
    other_hold = let c = charge_follows in charge_moves (hold b v) (hold b' v) c.0 c.1 c.2

    source_hold : v ≡ source b → Moves 0 0 b b'
    source_hold e = let c = none_charged e in charge_moves 0 0 (omega (arith, c)) (λ _. omega (arith, c)) (λ _. omega (arith, c))

    -- where no arc leaves v, every arc takes as long as it did
    end_hold : ((a : ℕ) → a < arc_count b → tail b a ≢ v) → Moves 0 0 b b'
    end_hold none =
        moves other.ends {u = v} {m = 0} {m' = 0} (λ a l. same (unchanged_elsewhere (hold_changed a l) (none a l))) 0 0 (omega arith) (λ up. up)
        (λ down. down) ok ok'

    hold_keeps : hold b v ≤ hold b' v → Keeps (λ way. Without v (between b way)) b b'
    hold_keeps up = in_tables ok ok'
        (λ table table' s s' w l without.
        way_kept other.ends (graphs_changed other.ends hold_changed) table table' s s' up (other_hold.shortest table table' s s') w l
        (λ r. same_time other.ends ok (λ i. Unit) (λ u. u ≢ v) (λ i li _. other.lengths i li) other_charge _ _ w r (no_matter _) without))

pub sensitivity : (b b' : List ℕ) → Accepted b → Accepted b' → Sensitivity b b'
sensitivity b b' ok ok' = record {
  length_word_lem = words.length_word_lem b b' ok ok';
  hold_word_lem = words.hold_word_lem b b' ok ok';
  other_length = other_length ok ok';
  other_hold = other_hold ok ok';
  source_hold = λ other. source_hold ok ok' (source b) other refl;
  end_hold = λ v none other. end_hold ok ok' v other none;
  length_keeps = length_keeps ok ok';
  hold_keeps = hold_keeps ok ok';
}
