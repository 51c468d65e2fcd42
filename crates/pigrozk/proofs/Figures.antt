-- The figure in an answer is small: only a sheet that is accepted, with 35 or without it, is answered with one, a route has no more arcs than the hall has
-- nodes, a canonical form has as many bytes as the sheet, and a converted sheet no more.
use Rattle.std.specs.Prelude.{if◌then◌else◌}
use Prim.Native.Nat.{ℕ, zero, suc, ◌%◌, ◌≤◌, ◌<◌}
use native.Mathlib.Omega.{arith}
use mathlib.Core.Bool.{Bool, true, false, not, cond}
use mathlib.Core.Path.{◌≡◌, refl}
use mathlib.Core.List.{List, [], ◌∷◌, ◌++◌}
use borrow.Author.Tests.{ltb-false}
use lib.ListN.{length, length-append}
use lib.Dec.{ltb, eqb}
use Rattle.indices.specs.Columns.{at}
use Rattle.indices.proofs.Steps.{by_truth}
use Rattle.indices.proofs.Tests.{or_right}
use Rattle.sheet.specs.Limits.{most_nodes, most_bytes, most_arcs_each_way}
use Rattle.sheet.specs.Sections.{node_count}
use Rattle.sheet.specs.Words.{payloads, top}
use Rattle.answer.specs.Answer.{state, Answer, accepted, route, no_route, refused, Case, lowest}
use Rattle.answer.specs.Inner.{figure_of}
use Rattle.answer.proofs.Lowest.{refused≢accepted}
use Rattle.judgement.specs.Form.{wrong_size}
use Rattle.judgement.specs.Judgement.{refusals_by, refusals, other_refusals, judgement_by, AcceptedBy, Accepted, Convertible}
use Rattle.judgement.proofs.Accepted.{none_applies, few_nodes}
use Rattle.procedure.specs.Graph.{Graph, tail}
use Rattle.procedure.specs.OfSheet.{graph_of}
use Rattle.procedure.specs.Routes.{followed}
use Rattle.procedure.proofs.OfSheet.{graph_nodes}
use Rattle.canonical_form.proofs.Form.{canonical_length}
use Rattle.conversion.proofs.Accepted.{no_longer}
use Rattle.calls.specs.Calls.{Call, call_refusals}
use Rattle.calls.specs.Tables.{label_in, predecessors_in}
use Rattle.calls.specs.Routes.{route_to, found_route, route_call, route_answer}
use Rattle.calls.specs.Canonical.{canonical_call, canonical_answer}
use Rattle.calls.specs.Convert.{convert_call, convert_answer}

-- where no case of a list applies, none of its front does
front_clear : (xs ys : List Case) → lowest (xs ++ ys) accepted ≡ accepted → lowest xs accepted ≡ accepted
front_clear [] ys e = refl
front_clear (x ∷ xs) ys e =
    by_truth x.applies (λ h. absurd (refused≢accepted x.refusal (rw h at e))) (λ h. rw h (front_clear xs ys (rw h at e)))

-- where a call is answered, the sheet is accepted
pub answered_accepted : (b : List ℕ) {retired : Bool} (call : Call) → lowest (call_refusals (refusals_by most_arcs_each_way retired b) call) accepted ≡ accepted
    → AcceptedBy retired b
unfolding judgement_by
answered_accepted b {retired} call e = record { judged = front_clear (refusals_by most_arcs_each_way retired b) call.later e }

-- a refusal has no figure
figure_below : (n : ℕ) → 0 < n → (cs : List Case) (a : Answer) → (lowest cs accepted ≡ accepted → figure_of a < n) → figure_of (lowest cs a) < n
figure_below n some [] a few = few refl
figure_below n some (c ∷ cs) a few =
    by_truth c.applies (λ h. rw h some) (λ h. rw h (figure_below n some cs a (λ clear. few (rw h clear))))

-- followed back for n steps, at most n arcs are met
followed_within : (g : Graph) (predecessors : List ℕ) (n v : ℕ) → length (followed g predecessors n v) ≤ n
unfolding followed
followed_within g predecessors zero v = omega arith
followed_within g predecessors (suc n) v = at' (eqb v g.source) (followed_within g predecessors n (tail g (at predecessors v)))
  where
    at' : (home : Bool) → length (followed g predecessors n (tail g (at predecessors v))) ≤ n
        → length (if home then [] else followed g predecessors n (tail g (at predecessors v)) ++ (at predecessors v ∷ [])) ≤ suc n
    at' true h = omega arith
    at' false h = simp length-append (omega arith)

module _ (b table : List ℕ) (node : ℕ) (buffer : List ℕ) where
  -- the arcs of a route in an accepted sheet
  pub way_within : Accepted b → length (route_to b table node) ≤ most_nodes
  unfolding route_to
  way_within ok =
      let arcs = followed_within (graph_of b) (predecessors_in (node_count b) table) (graph_of b).nodes node in
      omega (arith, graph_nodes b, few_nodes b ok)

  found_within : figure_of (found_route b table node buffer) ≤ length (route_to b table node)
  unfolding found_route
  found_within = at' (eqb (label_in table node) top) (ltb (length buffer) (length (route_to b table node)))
    where
      at' : (u s : Bool) → figure_of (if u then no_route else cond s (refused (state 25)) (route (length (route_to b table node))))
          ≤ length (route_to b table node)
      at' true s = omega arith
      at' false true = omega arith
      at' false false = omega arith

  pub few_arcs : figure_of (route_answer b table node buffer) < payloads
  unfolding route_answer
  few_arcs =
      let call = route_call b table node buffer in
      figure_below payloads (omega arith) (call_refusals (refusals b) call) (found_route b table node buffer)
      (λ clear. omega (arith, found_within, way_within (answered_accepted b call clear)))

-- an accepted sheet has few bytes
short_sheet : (b : List ℕ) {retired : Bool} → AcceptedBy retired b → length b ≤ most_bytes
unfolding wrong_size
short_sheet b ok = ltb-false most_bytes (length b) (or_right (not (eqb (length b % 4) 0)) (ltb most_bytes (length b)) (none_applies b ok).size)

pub few_bytes : (b out : List ℕ) → figure_of (canonical_answer b out) < payloads
unfolding canonical_answer
few_bytes b out =
    let call = canonical_call b out in
    figure_below payloads (omega arith) (call_refusals (refusals b) call) call.good
    (λ clear. let ok : Accepted b = answered_accepted b call clear in omega (arith, canonical_length b ok, short_sheet b ok))

pub few_converted : (b out : List ℕ) → figure_of (convert_answer b out) < payloads
unfolding convert_answer
few_converted b out =
    let call = convert_call b out in
    figure_below payloads (omega arith) (call_refusals (other_refusals b) call) call.good
    (λ clear. let ok : Convertible b = answered_accepted b call clear in omega (arith, no_longer b ok, short_sheet b ok))
