-- The stages of the answer for an accepted sheet: a refusal that applies stops it, and where none does the search for the route decides.
use Prim.Native.Nat.{ℕ, ◌<◌}
use mathlib.Core.Bool.{true, false}
use mathlib.Core.Path.{◌≡◌, refl, sym, ap, ◌∙◌}
use mathlib.Core.List.{List}
use borrow.Author.Tests.{leb-false}
use Rattle.sheet.specs.Sections.{node_count}
use Rattle.answer.specs.Answer.{Refusal, input, state, Answer, accepted, refused, lowest}
use Rattle.answer.proofs.Lowest.{lowest_clear, lowest_stop, clear_of}
use Rattle.judgement.specs.Judgement.{Accepted}
use Rattle.judgement.proofs.Accepted.{front_there, few_nodes}
use Rattle.calls.specs.Tables.{wrong_length}
use Rattle.calls.specs.Routes.{node_outside, not_shortest, table_refusals, found_route, route_answer, left_by, buffer_after, TableKnown}
use Rattle.calls.proofs.Routes.{after_sheet, table_known}

-- the node is one
pub node_below : (b : List ℕ) (node : ℕ) → node_outside b node ≡ false → node < node_count b
unfolding node_outside
node_below b node e = leb-false (node_count b) node e

-- the table passed the last test
pub table_passed : (b table : List ℕ) → accepted ≡ lowest (table_refusals b table) accepted → not_shortest b table ≡ false
unfolding table_refusals
table_passed b table e = clear_of (table_refusals b table) (sym e) 24

module _ (b table : List ℕ) (node : ℕ) (buffer : List ℕ) where
  module _ (ok : Accepted b) where
    pub node_stops : node_outside b node ≡ true → refused (input 15) ≡ route_answer b table node buffer
    node_stops e = sym (after_sheet b table node buffer ok ∙ rw e)

    module _ (below : node_outside b node ≡ false) where
      pub length_stops : wrong_length b table ≡ true → refused (state 21) ≡ route_answer b table node buffer
      length_stops e = sym (after_sheet b table node buffer ok ∙ rw (below, e))

      module _ (sized : wrong_length b table ≡ false) where
        then_table : route_answer b table node buffer ≡ lowest (table_refusals b table) (found_route b table node buffer)
        then_table = after_sheet b table node buffer ok ∙ rw (below, sized)

        pub table_stops : (r : Refusal) → refused r ≡ lowest (table_refusals b table) accepted → refused r ≡ route_answer b table node buffer
        table_stops r e = sym (then_table ∙ lowest_stop (table_refusals b table) _ r (sym e))

        pub route_decides : accepted ≡ lowest (table_refusals b table) accepted → found_route b table node buffer ≡ route_answer b table node buffer
        route_decides e = sym (then_table ∙ lowest_clear (table_refusals b table) _ (sym e))

  -- a refusal leaves the buffer as it was lent
  pub left_refused : (r : Refusal) → buffer ≡ left_by b table (refused r) node buffer
  unfolding left_by
  left_refused r = refl

  -- the right answer leaves the right buffer, and tells of the table
  module _ (a : Answer) (same : a ≡ route_answer b table node buffer) where
    pub left_after : left_by b table a node buffer ≡ buffer_after b table node buffer
    unfolding buffer_after route_answer
    left_after = ap (λ (x : Answer). left_by b table x node buffer) same

    pub answer_known : TableKnown b table a
    answer_known = rw same (table_known b table node buffer)

-- the stages, and what a refusal or an answer leaves
pub ruleset stages = (front_there, few_nodes, node_below, node_stops, length_stops, table_stops, route_decides, table_passed)
