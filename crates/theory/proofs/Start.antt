-- The start of a run: its columns, and the invariant.
use Prim.Native.Nat.{ℕ, ◌≤◌, ◌<◌}
use mathlib.Core.Path.{◌≡◌, sym, ap, ◌∙◌}
use mathlib.Core.Logic.{◌≢◌}
use mathlib.Core.List.{List}
use native.Mathlib.Nat.{le_refl}
use native.Mathlib.Omega.{arith}
use lib.ListN.{set, replicate, length-set, length-replicate, get_or-replicate}
use lib.Seq.{get_or-set_same, get_or-set_other}
use Rattle.indices.specs.Columns.{at}
use Rattle.indices.proofs.Steps.{set_elim, by_equal, by_truth}
use Rattle.sheet.specs.Words.{top}
use Rattle.procedure.specs.Graph.{Graph, arcs, tail}
use Rattle.procedure.specs.Division.{Division, regions, arc_of, is_leaf}
use Rattle.procedure.specs.Procedure.{start}
use Rattle.theory_shortest.specs.Settled.{home}
use Rattle.theory_shortest.specs.WellFormed.{WellFormed}
use Rattle.theory.specs.Sound.{Sized, Shape, Valued, Sound, Root, no_keys}
use Rattle.theory.proofs.Chosen.{min_key_leaf, min_key_all_none}
use Rattle.theory.proofs.Smallest.{Closed}
use Rattle.theory.proofs.Outgoing.{Outgoing, outgoing_changes, outgoing_sized, outgoing_valued}
use Rattle.theory.proofs.Labels.{few_arcs, top_positive}

-- the labels at the start
abbrev pub first_labels : Graph → List ℕ
first_labels g = set (replicate g.nodes top) g.source 0

pub root_closed : (d : Division) → Closed d Root
root_closed d r pos lr e = absurd (omega arith)

module _ {most : ℕ} {g : Graph} {d : Division} {spans : List ℕ} (ok : WellFormed most g d spans) where
  -- the queues before the first update
  pub no_keys_sized : Sized (arcs g) d (no_keys g d)
  no_keys_sized = record {
    own = length-replicate (arcs g) top;
    keys = length-replicate (regions d) top;
    root = get_or-replicate (regions d) 0 top 0 ok.division.nesting.root;
    capped = λ a la. rw (get_or-replicate (arcs g) a top 0 la) (le_refl top);
  }

  pub no_keys_valued : Valued d Root (no_keys g d)
  no_keys_valued y py ly out =
      get_or-replicate (regions d) y top 0 ly
      ∙ sym (by_truth (is_leaf d y)
      (λ leaf. min_key_leaf d (no_keys g d) y leaf ∙ get_or-replicate (arcs g) (arc_of d y) top 0 (ok.division.leaf_arc_lem y ly leaf).0)
      (λ inner. min_key_all_none d (no_keys g d) y inner (λ c h. get_or-replicate (regions d) c top 0 h.in_range)))

  source_first : at (first_labels g) g.source ≡ 0
  source_first = get_or-set_same (replicate g.nodes top) g.source 0 0 (rw length-replicate ok.graph.source_in)

  pub other_first : (v : ℕ) → v < g.nodes → v ≢ g.source → at (first_labels g) v ≡ top
  other_first v lv n = get_or-set_other (replicate g.nodes top) g.source v 0 0 n ∙ get_or-replicate g.nodes v top 0 lv

  -- no label at the start is above 'unreached'
  pub first_capped : (v : ℕ) → v < g.nodes → at (first_labels g) v ≤ top
  first_capped v lv =
      set_elim (λ (x : ℕ). x ≤ top) (replicate g.nodes top) g.source v 0 0 (rw length-replicate ok.graph.source_in) (λ _. omega arith)
      (λ _. rw (get_or-replicate g.nodes v top 0 lv) (le_refl top))

  -- what the updates of the start change
  pub start_changes : Outgoing d g.tails g.source 0 (no_keys g d) (arcs g) (start g d).queues
  unfolding start
  start_changes = outgoing_changes d g.tails ok.division (few_arcs ok) g.source 0 (no_keys g d) no_keys_sized

  -- the columns at the start
  pub start_shape : Shape g d (start g d)
  unfolding start
  start_shape = record {
    labelled = length-set (replicate g.nodes top) g.source 0 ∙ length-replicate g.nodes top;
    fed = length-replicate g.nodes top;
    queued = outgoing_sized d g.tails ok.division (few_arcs ok) g.source 0 (no_keys g d) no_keys_sized (omega arith);
    capped = first_capped;
  }

  -- the invariant at the start
  pub start_sound : Sound g d Root (start g d)
  unfolding start
  start_sound =
      let o = start_changes in
      let none : (a : ℕ) → a < arcs g → at (no_keys g d).own a ≡ top = λ a la. get_or-replicate (arcs g) a top 0 la in
      let at_source : (a : ℕ) → tail g a ≡ g.source → at (first_labels g) (tail g a) ≡ 0 = λ a e. ap (at (first_labels g)) e ∙ source_first in
      record {
        source_label = source_first;
        source_unfed = get_or-replicate g.nodes g.source top 0 ok.graph.source_in;
        led = λ v lv r. by_equal v g.source (λ e. home e) (λ n. absurd (omega (arith, other_first v lv n)));
        unfed = λ v lv _. get_or-replicate g.nodes v top 0 lv;
        unkeyed = λ a la u. by_equal (tail g a) g.source (λ e. absurd (omega (arith, at_source a e, top_positive))) (λ n. o.miss a n ∙ none a la);
        relaxed = λ a la r k. absurd (by_equal (tail g a) g.source
            (λ e. omega (arith, o.hit a la e, top_positive))
            (λ n. omega (arith, other_first (tail g a) (ok.graph.tail_in_lem a la) n)));
        bounded = λ v lv r. by_equal v g.source (λ e. rw (e, source_first) (omega arith)) (λ n. absurd (omega (arith, other_first v lv n)));
        keyed = λ a la k. by_equal (tail g a) g.source
            (λ e. o.hit a la e ∙ sym (at_source a e))
            (λ n. absurd (omega (arith, o.miss a n, none a la)));
        valued = outgoing_valued d g.tails ok.division (few_arcs ok) g.source 0 (no_keys g d) no_keys_sized Root (root_closed d) (omega arith)
            (λ b lb e. rw (none b lb) top_positive) no_keys_valued;
      }
