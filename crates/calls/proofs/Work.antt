-- What the words of `Work` say of graph, division and spans, and how a state whose work is known gives it of the table that shows the state. That a sheet
-- whose leaves all hang on region 0 has no other inner region is refusal 13: an inner one would need a child, and that one a child again.
use Rattle.std.specs.Prelude.{if◌then◌else◌}
use Prim.Native.Nat.{ℕ, zero, suc, ◌+◌, ◌*◌, ◌≤◌, ◌<◌}
use mathlib.Core.Bool.{Bool, true, false, not}
use mathlib.Core.Path.{◌≡◌, refl, sym, ap, ◌∙◌}
use mathlib.Core.Logic.{◌↔◌, ◌⊎◌, ⊎_elim}
use mathlib.Core.List.{List}
use native.Mathlib.Nat.{div-eq_of_lt-le}
use native.Mathlib.Omega.{arith}
use borrow.Author.Tests.{eq-eqb, eqb-true, not-false}
use lib.ListN.{length}
use lib.Dec.{ltb, eqb}
use Rattle.indices.specs.Columns.{at}
use Rattle.indices.proofs.Tests.{or_then, or_if, not_equal_below, all_at, all_true, count_ext}
use Rattle.indices.proofs.Steps.{by_truth}
use Rattle.sheet.specs.Words.{words, top}
use Rattle.sheet.specs.Sections.{node_count, span_count, span, arc_count, region_words}
use Rattle.sheet.specs.Arcs.{tail}
use Rattle.sheet.specs.Regions.{region_count, leaf_word, is_leaf as leafRegion, parent}
use Rattle.sheet.proofs.Heights.{flat_height}
use Rattle.judgement.specs.Judgement.{AcceptedBy}
use Rattle.judgement.proofs.Accepted.{tail_in_lem, nesting, has_child_lem, spans_height}
use Rattle.procedure.specs.Graph.{tail as graphTail}
use Rattle.procedure.specs.Division.{regions, is_leaf}
use Rattle.procedure.specs.OfSheet.{graph_of, division_of, spans_of}
use Rattle.procedure.specs.State.{State, counts}
use Rattle.procedure.specs.Table.{largest_label, counts_length}
use Rattle.procedure.proofs.OfSheet.{graph_arcs, graph_tail, division_regions, division_leaf, spans_count, spans_at_lem}
use Rattle.theory_shortest.specs.Work.{reached_tails, RoundEach, RoundShared}
use Rattle.calls.specs.Tables.{status_in, count_in, rounds_in, leaves_in, label_in, labels_in}
use Rattle.calls.specs.Work.{all_spans_one, on_root, leaves_on_root, tail_reached, reached_arcs, divided_up, Work}
use Rattle.calls.proofs.Tables.{labels_at}
use Rattle.calls.proofs.Outcome.{status_ended}

-- so many shares of a size are enough for n, and one fewer would not be: they are n divided by the size, rounded up
pub divided_up_lem : (n size shares : ℕ) → n ≤ shares * size → shares * size < n + size → shares ≡ divided_up n size
unfolding divided_up
divided_up_lem n size shares enough needed = sym (div-eq_of_lt-le size (omega arith) (omega arith))

-- no label is above 'unreached'
bounded_capped : {x : ℕ} → (x ≡ top) ⊎ (x ≤ largest_label) → x ≤ top
unfolding top
bounded_capped c = ⊎_elim (λ e. omega arith) (λ l. omega arith) c

-- THE TWO CONDITIONS, span by span and leaf by leaf
module _ (b : List ℕ) where
  abbrev d : List ℕ
  d = region_words b

  pub spans_one : (all_spans_one b ≡ true) ↔ ((i : ℕ) → i < span_count b → span b i ≡ 1)
  unfolding all_spans_one
  spans_one = (
    λ one i l. eqb-true (span b i) 1 (all_at (λ i. eqb (span b i) 1) (span_count b) i one l),
    λ each. all_true (λ i. eqb (span b i) 1) (span_count b) (λ i l. eq-eqb (span b i) 1 (each i l)),
  )

  pub leaves_on_root_lem : (leaves_on_root b ≡ true) ↔ ((r : ℕ) → r < region_count d → leafRegion d r ≡ true → parent d r ≡ 0)
  unfolding leaves_on_root
  leaves_on_root_lem = (
    λ flat r l leaf. eqb-true (parent d r) 0
        (or_then (not (leafRegion d r)) (eqb (parent d r) 0) (all_at (on_root d) (region_count d) r flat l) (ap not leaf)),
    λ each. all_true (on_root d) (region_count d)
        (λ r l. or_if (not (leafRegion d r)) (eqb (parent d r) 0) (λ leaf. eq-eqb (parent d r) 0 (each r l (not-false (leafRegion d r) leaf)))),
  )

-- OF AN ACCEPTED SHEET
module _ (b : List ℕ) {retired : Bool} (ok : AcceptedBy retired b) where
  pub each_span_one : all_spans_one b ≡ true → (i : ℕ) → i < length (spans_of b) → at (spans_of b) i ≡ 1
  each_span_one one i l = let li : i < span_count b = omega (arith, spans_count b) in spans_at_lem b i li ∙ (spans_one b).0 one i li

  module _ (flat : leaves_on_root b ≡ true) where
    -- no word is that of an inner region: n bounds how many come after word k
    no_inner : (n k : ℕ) → words (d b) ≤ k + n → k < words (d b) → leaf_word (d b) k ≡ false → ⊥
    no_inner zero k ln l inner = omega arith
    no_inner (suc n) k ln l inner =
        let child = has_child_lem b ok k l inner in
        let j = child.0 in
        let lj : j < words (d b) = child.1 in
        let later = (nesting b ok).lower (suc j) (omega arith) (omega arith) in
        by_truth (leaf_word (d b) j)
        (λ leaf. omega (arith, (leaves_on_root_lem b).0 flat (suc j) (omega arith) leaf, child.2))
        (λ inner. no_inner n j (omega (arith, later, child.2)) lj inner)

    other_leaf : (r : ℕ) → 0 < r → r < region_count (d b) → leafRegion (d b) r ≡ true
    other_leaf zero pos lr = absurd (omega arith)
    other_leaf (suc k) pos lr =
        by_truth (leaf_word (d b) k) (λ leaf. leaf) (λ inner. absurd (no_inner (words (d b)) k (omega arith) (omega arith) inner))

    -- every region but 0 is a leaf
    pub only_leaves : (r : ℕ) → 0 < r → r < regions (division_of b) → is_leaf (division_of b) r ≡ true
    only_leaves r pos lr = let l : r < region_count (d b) = omega (arith, division_regions b) in division_leaf b r l ∙ other_leaf r pos l

    -- so there is one span, "the span"
    pub single_span : span_count b ≡ 1
    single_span = spans_height b ok ∙ flat_height (leafRegion (d b)) (parent (d b)) (region_count (d b)) (nesting b ok) refl other_leaf

  -- A TABLE whose labels are 'unreached' or at most the largest
  module _ (table : List ℕ) (bounded : (v : ℕ) → v < node_count b → (label_in table v ≡ top) ⊎ (label_in table v ≤ largest_label)) where
    tail_reached_lem : (a : ℕ) → a < arc_count b → tail_reached b table a ≡ ltb (at (labels_in (node_count b) table) (graphTail (graph_of b) a)) top
    tail_reached_lem a la =
        let v = tail b a in
        let lv = tail_in_lem b ok a la in
        not_equal_below (label_in table v) top (bounded_capped (bounded v lv))
        ∙ ap (λ (x : ℕ). ltb x top) (sym (labels_at (node_count b) table v lv))
        ∙ ap (λ (u : ℕ). ltb (at (labels_in (node_count b) table) u) top) (sym (graph_tail b a la))

    -- the arcs whose tail is reached, by the graph
    pub reached_tails_lem : reached_arcs b table ≡ reached_tails (graph_of b) (labels_in (node_count b) table)
    unfolding reached_arcs
    reached_tails_lem = rw (graph_arcs b) (count_ext _ _ (arc_count b) tail_reached_lem)

  -- and that shows the counts and labels of a state
  module _ (table : List ℕ) (s : State) (halves : (i : ℕ) → i < counts_length → count_in table i ≡ at (counts s) i)
      (labels : labels_in (node_count b) table ≡ s.labels)
      (bounded : (v : ℕ) → v < node_count b → (label_in table v ≡ top) ⊎ (label_in table v ≤ largest_label)) where
    rounds_shown : rounds_in table ≡ s.rounds
    rounds_shown = halves 0 (omega arith)

    pub leaves_shown : leaves_in table ≡ s.leaves
    leaves_shown = halves 1 (omega arith)

    pub reached_shown : reached_arcs b table ≡ reached_tails (graph_of b) s.labels
    reached_shown = reached_tails_lem table bounded ∙ ap (reached_tails (graph_of b)) labels

    abbrev SpansOneWork : Type 0
    SpansOneWork = RoundEach (graph_of b) s.labels s.rounds s.leaves

    abbrev FlatWork : Type 0
    FlatWork = RoundShared (graph_of b) s.labels (at (spans_of b) 0) s.rounds s.leaves

    -- where the work of the ended state is known, that of the table is
    pub shows_work : (over : Bool) → status_in table ≡ (if over then 1 else 0)
        → (over ≡ true → ((i : ℕ) → i < length (spans_of b) → at (spans_of b) i ≡ 1) → SpansOneWork)
        → (over ≡ true → ((r : ℕ) → 0 < r → r < regions (division_of b) → is_leaf (division_of b) r ≡ true) → FlatWork)
        → Work b table
    shows_work over status of_ones of-flat =
        let ended : status_in table ≡ 1 → over ≡ true = λ e. status_ended over (sym status ∙ e) in
        let ones : status_in table ≡ 1 → all_spans_one b ≡ true → SpansOneWork = λ e one. of_ones (ended e) (each_span_one one) in
        let on_root_lem : status_in table ≡ 1 → leaves_on_root b ≡ true → FlatWork = λ e on. of-flat (ended e) (only_leaves on) in
        record {
          spans_one_leaves = λ e one. leaves_shown ∙ (ones e one).each_once ∙ sym reached_shown;
          spans_one_rounds = λ e one. rounds_shown ∙ (ones e one).each_round ∙ (ones e one).each_once ∙ sym reached_shown;
          on_root_leaves = λ e on. leaves_shown ∙ (on_root_lem e on).each_once ∙ sym reached_shown;
          on_root_rounds = λ e on.
              rounds_shown
              ∙ divided_up_lem s.leaves (at (spans_of b) 0) s.rounds (on_root_lem e on).enough (on_root_lem e on).needed
              ∙ ap (divided_up s.leaves) (spans_at_lem b 0 (omega (arith, single_span on)))
              ∙ ap (λ (n : ℕ). divided_up n (span b 0)) ((on_root_lem e on).each_once ∙ sym reached_shown);
          on_root_span = single_span;
        }
