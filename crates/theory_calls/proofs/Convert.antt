-- What is claimed of the converted sheet, of every sheet that is at fault in nothing but self-arcs. The theory of runs asks for no more than that, so the old
-- sheet's tables were shortest where they were left as ended; and no shortest route needs a self-arc, so the converted sheet has the same distances. And what
-- 35 changes in the other calls.
use Prim.Native.Nat.{ℕ, ◌<◌}
use mathlib.Core.Bool.{Bool, true, false, ◌&&◌}
use mathlib.Core.Path.{◌≡◌, refl, sym, ap, ◌∙◌}
use mathlib.Core.List.{List, [], ◌∷◌, ◌++◌}
use Rattle.indices.proofs.Selected.{number_below}
use Rattle.sheet.specs.Limits.{most_arcs_each_way}
use Rattle.sheet.specs.Sections.{node_count, span_count, arc_count, region_words}
use Rattle.answer.specs.Answer.{Refusal, input, Answer, accepted, refused, Case, ◌when◌, lowest}
use Rattle.answer.proofs.Lowest.{lowest_append, lowest_clear, lowest_stop}
use Rattle.judgement.specs.Arcs.{self_arcs}
use Rattle.judgement.specs.Judgement.{
  form_refusals,
  count_refusals,
  arc_refusals,
  division_refusals,
  refusals_by,
  refusals,
  other_refusals,
  judgement_by,
  Convertible,
}
use Rattle.procedure.specs.Procedure.{enough_rounds}
use Rattle.conversion.specs.Converted.{kept_arc, new_arc, kept_region, new_region, converted}
use Rattle.conversion.proofs.Regions as regions
use Rattle.conversion.proofs.Sections.{new_nodes, new_source, new_spans, new_span, new_holds, new_hold, arcs_all, new_tail, new_head, new_length}
use Rattle.conversion.proofs.Sections.{regions_all, new_leaf, new_parent, new_leaf_arc}
use Rattle.conversion.proofs.Heights.{height_lower}
use Rattle.conversion.proofs.Accepted.{no_longer, converted_accepted}
use Rattle.conversion.proofs.Graph.{graph_without}
use Rattle.conversion.proofs.Distances.{same_shortest}
use Rattle.conversion.proofs.Unchanged.{unchanged, converted_again}
use Rattle.calls.specs.Calls.{Call, call_answer, lent_after}
use Rattle.calls.specs.Tables.{wrong_length, status_says, status_in, label_in}
use Rattle.calls.specs.Runs.{run_table, filled_table, run_call, run_answer, table_after}
use Rattle.calls.specs.Routes.{ShortestTable, route_call, route_answer, buffer_after}
use Rattle.calls.specs.Resume.{resume_call, resume_answer, resume_table}
use Rattle.calls.specs.Canonical.{canonical_call, canonical_answer, out_after}
use Rattle.calls.specs.Correct.{SameDistances}
use Rattle.calls.specs.Convert.{run_answer_then, table_then, KeptFields, NoneChildless, SameAsThen, Converts}
use Rattle.calls.specs.AsBefore.{CallsBy, refusals_to10, Retired}
use Rattle.calls.proofs.Convert.{too_short, has_room}
use Rattle.calls.proofs.Outcome.{status_answers, table_says}
use Rattle.calls.proofs.Tables.{labels_at}
use Rattle.listing.specs.Printed.{printed_by, printed, words_by, words_after}
use Rattle.theory_calls.proofs.Delivered.{delivered, delivered_long, run_ends}

-- WHAT 35 CHANGES
-- where the refusals of the sheet come to the same as others, so do the calls on it
module _ (b : List ℕ) (own : List Case) (same : (answer : Answer) → lowest (refusals b) answer ≡ lowest own answer) where
  same_call : (call : Call) → (call_answer (refusals b) call ≡ call_answer own call) × (lent_after (refusals b) call ≡ lent_after own call)
  same_call call =
      let answer =
      lowest_append (refusals b) call.later call.good ∙ same (lowest call.later call.good) ∙ sym (lowest_append own call.later call.good) in
      (answer, ap call.leaves answer)

  calls_by : CallsBy own b
  unfolding judgement_by run_answer table_after route_answer buffer_after resume_answer resume_table canonical_answer out_after
  calls_by = record {
    judged = same accepted;
    runs = λ k table. same_call (run_call b k table);
    routes = λ table node buffer. same_call (route_call b table node buffer);
    resumes = λ table k. same_call (resume_call b table k);
    copies = λ out. same_call (canonical_call b out);
  }

module _ (b : List ℕ) where
  -- 35 stands after 10 and before 11
  placed : (retired : Bool) → refusals_by most_arcs_each_way retired b
      ≡ refusals_to10 b ++ (input 35 when (retired && self_arcs b) ∷ division_refusals (region_words b) (arc_count b) (span_count b))
  unfolding refusals_by form_refusals count_refusals arc_refusals refusals_to10
  placed retired = refl

  stages : (retired : Bool) (answer : Answer) → lowest (refusals_by most_arcs_each_way retired b) answer
      ≡ lowest (refusals_to10 b)
      (lowest (input 35 when (retired && self_arcs b) ∷ division_refusals (region_words b) (arc_count b) (span_count b)) answer)
  stages retired answer = ap (λ (cases : List Case). lowest cases answer) (placed retired) ∙ lowest_append (refusals_to10 b) _ answer

  earlier_stops : (r : Refusal) → lowest (refusals_to10 b) accepted ≡ refused r → (retired : Bool) (answer : Answer)
      → lowest (refusals_by most_arcs_each_way retired b) answer ≡ refused r
  earlier_stops r e retired answer = stages retired answer ∙ lowest_stop (refusals_to10 b) _ r e

  -- where none is drawn, the refusals are those of before
  same_refusals : self_arcs b ≡ false → refusals b ≡ other_refusals b
  unfolding refusals_by arc_refusals
  same_refusals none = rw none

  pub retired : Retired b
  unfolding judgement_by
  retired = record {
    earlier = λ r e. (calls_by b (r when true ∷ []) (earlier_stops r e true), earlier_stops r e false accepted);
    drawn = λ clear here. calls_by b (input 35 when true ∷ []) (λ answer. stages true answer ∙ lowest_clear (refusals_to10 b) _ clear ∙ rw here);
    none_drawn = λ none. calls_by b (other_refusals b) (λ answer. ap (λ (cases : List Case). lowest cases answer) (same_refusals none));
  }

  -- so what is printed, and the words that a report leaves, go by the judgement of before where no self-arc is drawn
  pub printed_then : self_arcs b ≡ false → printed b ≡ printed_by (judgement_by false b) b
  unfolding judgement_by printed
  printed_then none = ap (λ (cases : List Case). printed_by (lowest cases accepted) b) (same_refusals none)

  pub words_then : self_arcs b ≡ false → (table : List ℕ) → words_after b table ≡ words_by (judgement_by false b) b table
  unfolding judgement_by words_after
  words_then none table = ap (λ (cases : List Case). words_by (lowest cases accepted) b table) (same_refusals none)

-- THE CONVERTED SHEET
module _ (b : List ℕ) (ok : Convertible b) where
  kept_fields : KeptFields b
  unfolding new_arc new_region
  kept_fields = record {
    nodes = new_nodes b ok;
    source_same = new_source b ok;
    holds_all = new_holds b ok;
    holds = new_hold b ok;
    spans_fewer = rw (new_spans b ok) (height_lower b ok);
    spans = λ k l. new_span b ok k (rw (new_spans b ok) at l);
    arcs_all = arcs_all b ok;
    arcs = λ a l kept. (new_tail b ok a l kept, new_head b ok a l kept, new_length b ok a l kept);
    arcs_in_order = λ a a' l kept. number_below (kept_arc b) a a' l kept;
    regions_all = regions_all b ok;
    leaves = new_leaf b ok;
    parents = λ r pos l kept. new_parent b ok r l kept pos;
    leaf_arcs_lem = new_leaf_arc b ok;
    regions_in_order = λ r r' l kept. number_below (kept_region b) r r' l kept;
  }

  none_childless : NoneChildless b
  none_childless = record { root = regions.root_kept b ok; child = regions.none_childless b ok; no_more = regions.no_more_dropped b ok }

  -- before the request no refusal of the sheet applied, so the table alone decided
  made_then : (k : ℕ) (table : List ℕ) → wrong_length b table ≡ false
      → (run_answer_then b k table ≡ status_says (status_in (run_table b k))) × (table_then b k table ≡ filled_table b k table)
  unfolding judgement_by
  made_then k table right =
      let call = run_call b k table in
      let answer : run_answer_then b k table ≡ status_says (status_in (run_table b k)) =
      lowest_append (other_refusals b) call.later call.good ∙ lowest_clear (other_refusals b) (lowest call.later call.good) ok.judged ∙ rw right in
      (answer, ap call.leaves answer ∙ rw (table_says b k, status_answers _))

  same_distances : (table table' : List ℕ) → ShortestTable b table → ShortestTable (converted b) table' → SameDistances b table (converted b) table'
  same_distances table table' shortest shortest' = record {
    nodes = nodes;
    distances = same;
    unreached = λ v l. (λ u. sym (same v l) ∙ u, λ u. same v l ∙ u);
  }
    where
      nodes : node_count b ≡ node_count (converted b)
      nodes = sym (new_nodes b ok)

      same : (v : ℕ) → v < node_count b → label_in table v ≡ label_in table' v
      same v l =
          sym (labels_at (node_count b) table v l)
          ∙ same_shortest b ok shortest shortest' v l
          ∙ labels_at (node_count (converted b)) table' v (rw (new_nodes b ok) l)

  same_as_then : SameAsThen b
  same_as_then = record {
    made = made_then;
    told = delivered b ok;
    told_long = delivered_long b ok;
    left_ended = (delivered b ok enough_rounds).status ∙ rw (run_ends b ok);
    distances = λ k k' table table' D D' e e'. same_distances table table' (D.shortest e) (D'.shortest e');
    shortest = same_distances;
  }

  pub converts : Converts b
  converts = record {
    leaves = λ out. has_room b out ok;
    short = λ out. too_short b out ok;
    no_longer = no_longer b ok;
    accepted = converted_accepted b ok;
    graph = graph_without b ok;
    fields = kept_fields;
    dropped = none_childless;
    same = same_as_then;
    own = λ bytes none. unchanged b ok none bytes;
    again = converted_again b ok;
  }
