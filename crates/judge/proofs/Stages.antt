-- What a stage of the judge may take from the stages before it, and how their refusals make one answer.
use Prim.Native.Nat.{ℕ, ◌≤◌}
use mathlib.Core.Bool.{Bool, false}
use mathlib.Core.List.{List, ◌++◌}
use mathlib.Core.Path.{◌≡◌, sym, ap, ◌∙◌}
use Rattle.sheet.specs.Limits.{most_nodes, most_arcs, most_arcs_each_way, most_region_words}
use Rattle.sheet.specs.Words.{words}
use Rattle.sheet.specs.Sections.{node_count, span_count, arc_count, region_words}
use Rattle.answer.specs.Answer.{Refusal, accepted, refused, Case, lowest}
use Rattle.answer.proofs.Lowest.{lowest_append, lowest_stop, lowest_clear, clear_of}
use Rattle.judgement.specs.Form.{wrong_size, out_of_order, bit_set}
use Rattle.judgement.specs.Judgement.{form_refusals, count_refusals, arc_refusals, division_refusals, refusals_by, judgement_by}
use Rattle.judgement.proofs.Clear.{few_nodes, few_arcs, few_region_words}

-- none of 1 to 3 applies
pub form_clear : (b : List ℕ) → wrong_size b ≡ false → out_of_order b ≡ false → bit_set b ≡ false → lowest (form_refusals b) accepted ≡ accepted
unfolding form_refusals
form_clear b size order bits = rw (size, order, bits)

-- a sheet to which none of 4 to 7 applies keeps the limits on counts
module _ (b : List ℕ) (ok : lowest (count_refusals b) accepted ≡ accepted) where
  pub count_nodes : node_count b ≤ most_nodes
  unfolding count_refusals
  count_nodes = few_nodes b (clear_of (count_refusals b) ok 4)

  pub count_arcs : arc_count b ≤ most_arcs
  unfolding count_refusals
  count_arcs = few_arcs b (clear_of (count_refusals b) ok 7)

  pub count_region_words : words (region_words b) ≤ most_region_words
  unfolding count_refusals
  count_region_words = few_region_words b (clear_of (count_refusals b) ok 7)

-- 8 to 10 with 34 and 35, and 11 to 14, of a sheet
abbrev of_arcs : Bool → List ℕ → List Case
of_arcs retired b = arc_refusals most_arcs_each_way retired b

abbrev of_division : List ℕ → List Case
of_division b = division_refusals (region_words b) (arc_count b) (span_count b)

module _ (retired : Bool) (b : List ℕ) where
  -- the stages make the judgement, one after the other
  staged : judgement_by retired b ≡ lowest (form_refusals b) (lowest (count_refusals b) (lowest (of_arcs retired b) (lowest (of_division b) accepted)))
  unfolding judgement_by refusals_by
  staged =
      lowest_append (form_refusals b) (count_refusals b ++ (of_arcs retired b ++ of_division b)) accepted
      ∙ ap (lowest (form_refusals b)) (lowest_append (count_refusals b) (of_arcs retired b ++ of_division b) accepted ∙ ap (lowest (count_refusals b))
      (lowest_append (of_arcs retired b) (of_division b) accepted))

  module _ (form : lowest (form_refusals b) accepted ≡ accepted) where
    later : judgement_by retired b ≡ lowest (count_refusals b) (lowest (of_arcs retired b) (lowest (of_division b) accepted))
    later = staged ∙ lowest_clear (form_refusals b) _ form

    pub count_stops : {r : Refusal} → refused r ≡ lowest (count_refusals b) accepted → refused r ≡ judgement_by retired b
    count_stops {r} e = sym (lowest_stop (count_refusals b) _ r (sym e)) ∙ sym later

    module _ (count : lowest (count_refusals b) accepted ≡ accepted) where
      pub arc_stops : {r : Refusal} → refused r ≡ lowest (of_arcs retired b) accepted → refused r ≡ judgement_by retired b
      arc_stops {r} e = sym (lowest_stop (of_arcs retired b) _ r (sym e)) ∙ sym (later ∙ lowest_clear (count_refusals b) _ count)

      pub division_decides : lowest (of_arcs retired b) accepted ≡ accepted → {d : List ℕ} {arcs spans : ℕ} → d ≡ region_words b → arcs ≡ arc_count b
          → spans ≡ span_count b → lowest (division_refusals d arcs spans) accepted ≡ judgement_by retired b
      division_decides arc ed ea es = rw (ed, ea, es) (sym (later ∙ lowest_clear (count_refusals b) _ count ∙ lowest_clear (of_arcs retired b) _ arc))
