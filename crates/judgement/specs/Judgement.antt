-- The judgement of a sheet: the refusals in the order in which they are looked at, and the lowest that applies. Definitions.
use Rattle.std.specs.Prelude.{ℕ, Bool, true, false, ◌&&◌, List, [], ◌∷◌, ◌++◌, ◌≡◌}
use Rattle.sheet.specs.Limits.{most_arcs_each_way}
use Rattle.sheet.specs.Sections.{span_count, arc_count, region_words}
use Rattle.answer.specs.Answer.{input, Answer, accepted, Case, ◌when◌, lowest}
use Rattle.judgement.specs.Form.{wrong_size, out_of_order, bit_set, nodes_outside, source_outside, spans_outside, too_many}
use Rattle.judgement.specs.Arcs.{ends_outside, lengths_outside, holds_outside, too_many_at_node, self_arcs}
use Rattle.judgement.specs.Division.{wrong_parents, wrong_leaves, childless_regions, spans_differ}

-- "From the input", 1 to 14, 34 (2026-08) and 35 (2026-09)
unfoldable pub form_refusals : List ℕ → List Case
form_refusals b = input 1 when wrong_size b ∷ input 2 when out_of_order b ∷ input 3 when bit_set b ∷ []

unfoldable pub count_refusals : List ℕ → List Case
count_refusals b =
    input 4 when nodes_outside b ∷ input 5 when source_outside b ∷ input 6 when spans_outside b ∷ input 7 when too_many b ∷ []

-- where a node may have so many arcs each way, and self-arcs are `retired` or not: "35, an arc from a node to itself, after 10." (2026-09)
unfoldable pub arc_refusals : ℕ → Bool → List ℕ → List Case
arc_refusals limit retired b =
    input 8 when ends_outside b ∷ input 9 when lengths_outside b ∷ input 34 when holds_outside b ∷ input 10 when too_many_at_node limit b
    ∷ input 35 when (retired && self_arcs b) ∷ []

-- of region words d, where the sheet has so many arcs and spans
unfoldable pub division_refusals : List ℕ → ℕ → ℕ → List Case
division_refusals d arcs spans =
    input 11 when wrong_parents d ∷ input 12 when wrong_leaves d arcs ∷ input 13 when childless_regions d ∷ input 14 when spans_differ d spans ∷ []

-- the refusals of a sheet, with both as parameters
unfoldable pub refusals_by : ℕ → Bool → List ℕ → List Case
refusals_by limit retired b =
    form_refusals b ++ (count_refusals b ++ (arc_refusals limit retired b ++ division_refusals (region_words b) (arc_count b) (span_count b)))

-- with the first: `most_arcs_before` before request 2026-01
abbrev pub refusals_under : ℕ → List ℕ → List Case
refusals_under limit b = refusals_by limit true b

abbrev pub judgement_under : ℕ → List ℕ → Answer
judgement_under limit b = lowest (refusals_under limit b) accepted

-- with the second: since request 2026-09 "Sheets that draw one are refused"
unfoldable pub judgement_by : Bool → List ℕ → Answer
judgement_by retired b = lowest (refusals_by most_arcs_each_way retired b) accepted

pub record AcceptedBy (retired : Bool) (b : List ℕ) : Type 0 where
  pub judged : judgement_by retired b ≡ accepted

-- the refusals of a sheet
abbrev pub refusals : List ℕ → List Case
refusals b = refusals_by most_arcs_each_way true b

-- what the judge answers
abbrev pub judgement : List ℕ → Answer
judgement b = judgement_by true b

-- "A sheet is accepted when no refusal of the sheet itself (here 1 to 14) applies to it.", and 34 and 35 are such refusals too
abbrev pub Accepted : List ℕ → Type 0
Accepted b = AcceptedBy true b

-- the same with 35 left out: "A converter takes a sheet at fault in nothing else"
abbrev pub other_refusals : List ℕ → List Case
other_refusals b = refusals_by most_arcs_each_way false b

abbrev pub Convertible : List ℕ → Type 0
Convertible b = AcceptedBy false b
