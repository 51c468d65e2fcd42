-- Changing spans at any break, any number of times: tables resumed part by part are those of the procedure in stages, whose counts are bounded from the first
-- table on and whose rounds end.
use Prim.Native.Nat.{ℕ, ◌+◌, ◌^◌}
use mathlib.Core.Path.{◌≡◌, refl, sym, ap, ◌∙◌}
use mathlib.Core.List.{List, [], ◌∷◌}
use native.Mathlib.Omega.{arith}
use Rattle.sheet.specs.Limits.{most_arcs_each_way}
use Rattle.judgement.specs.Judgement.{Accepted}
use Rattle.procedure.specs.OfSheet.{graph_of, division_of, spans_of}
use Rattle.procedure.specs.State.{State}
use Rattle.procedure.specs.Procedure.{ended, more}
use Rattle.theory_shortest.specs.WellFormed.{SpansOk}
use Rattle.theory_shortest.proofs.WellFormed.{accepted_well_formed}
use Rattle.theory.specs.Sound.{Shape, Root}
use Rattle.theory.specs.Counts.{Below}
use Rattle.theory.specs.Stages.{Stage, in_stages, all_rounds, StagesOk}
use Rattle.theory.proofs.Lift.{Held}
use Rattle.theory.proofs.Grows.{below_wider}
use Rattle.theory.proofs.Counts.{Counted, counted_none, rounds_counted}
use Rattle.theory.proofs.Final.{few_each_way, counted_below}
use Rattle.theory.proofs.Stages.{with_spans, no_stage, first_stage, stages_enough}
use Rattle.calls.specs.Runs.{run_table}
use Rattle.calls.specs.LongTables.{state_in}
use Rattle.calls.specs.Resume.{resumed, resume_table}
use Rattle.calls.specs.InParts.{Standing, CountsBelow, SameButSpans, Part, PartsOf, resumed_by, part_rounds, Changed}
use Rattle.calls.proofs.LongReading.{sheet_labels, sheet_predecessors}
use Rattle.theory_calls.proofs.Delivered.{delivered}
use Rattle.theory_calls.proofs.Agree.{shortest_agree}
use Rattle.theory_resume.proofs.Resumed.{counts_state, state_small, before_tabled, before_ended, standing_shortest, resumed_read, resumed_standing}
use Rattle.theory_resume.proofs.SameHall.{turned, moved, same_standing}

-- the stages that parts are
unfoldable stages_of : List Part → List Stage
stages_of [] = []
stages_of (p ∷ ps) = record { spans = spans_of p.sheet; rounds = p.rounds } ∷ stages_of ps

stages_rounds : (ps : List Part) → all_rounds (stages_of ps) ≡ part_rounds ps
unfolding stages_of all_rounds part_rounds
stages_rounds [] = refl
stages_rounds (p ∷ ps) = ap (λ (n : ℕ). p.rounds + n) (stages_rounds ps)

-- the state that a table stands for
abbrev stands_for : List ℕ → List ℕ → State
stands_for b table = state_in (graph_of b) (division_of b) table

-- it is sound, and its counts are bounded from s₀ on
abbrev HeldFrom : List ℕ → State → List ℕ → Type 0
HeldFrom b s₀ table = Held (graph_of b) (division_of b) Root (Counted most_arcs_each_way (graph_of b) (division_of b) s₀ 0 0) (stands_for b table)

-- what k rounds more with the sheet b' make of a table that stands for b
record Step (b : List ℕ) (s₀ : State) (table b' : List ℕ) (k : ℕ) : Type 0 where
  attentive : SpansOk (division_of b) (spans_of b')
  stands : Standing b (resume_table b' table k)
  held : HeldFrom b s₀ (resume_table b' table k)
  made : stands_for b (resume_table b' table k) ≡ more (graph_of b) (division_of b) (spans_of b') k (stands_for b table)

-- the same of all parts
record Parted (b : List ℕ) (s₀ : State) (table : List ℕ) (ps : List Part) : Type 0 where
  attentive : StagesOk (division_of b) (stages_of ps)
  stands : Standing b (resumed_by ps table)
  held : HeldFrom b s₀ (resumed_by ps table)
  made : stands_for b (resumed_by ps table) ≡ in_stages (graph_of b) (division_of b) (stages_of ps) (stands_for b table)

module _ (b : List ℕ) (s₀ : State) (shape : Shape (graph_of b) (division_of b) s₀) (small : Below (2 ^ 54) s₀) where
  -- counts from below 2^54 stay below 2^55
  grown : Accepted b → {s : State} → Counted most_arcs_each_way (graph_of b) (division_of b) s₀ 0 0 s → Below (2 ^ 55) s
  grown ok {s} counted = below_wider (omega arith) (counted_below (accepted_well_formed b ok) few_each_way s₀ s shape counted (2 ^ 54) small)

  step : (table b' : List ℕ) (k : ℕ) → Accepted b' → SameButSpans b b' → Standing b table → HeldFrom b s₀ table → Step b s₀ table b' k
  unfolding resumed
  step table b' k ok' same S h =
      let ok = S.accepted in
      let S' = same_standing b b' ok ok' same table S in
      let back = moved b' b ok' ok (turned same) in
      let left = resume_table b' table k in
      let s = more (graph_of b) (division_of b) (spans_of b') k (stands_for b table) in
      let read : stands_for b left ≡ s = back (λ g d. state_in g d left ≡ more g d (spans_of b') k (state_in g d table)) (resumed_read b' table S' k) in
      let fine : SpansOk (division_of b) (spans_of b') = back (λ g d. SpansOk d (spans_of b')) (accepted_well_formed b' ok').attention in
      let held : Held (graph_of b) (division_of b) Root (Counted most_arcs_each_way (graph_of b) (division_of b) s₀ 0 0) s =
      rounds_counted (with_spans (accepted_well_formed b ok) fine) s₀ k (stands_for b table) h in
      let low = moved b b' ok ok' same (λ g d. Below (2 ^ 55) (more g d (spans_of b') k (state_in g d table))) (grown ok held.kept) in
      record {
        attentive = fine;
        stands = same_standing b' b ok' ok (turned same) left (resumed_standing b' table S' k low);
        held = rw read held;
        made = read;
      }

  -- through all parts
  parted : (ps : List Part) (table : List ℕ) → PartsOf b ps → Standing b table → HeldFrom b s₀ table → Parted b s₀ table ps
  unfolding PartsOf resumed_by stages_of StagesOk
  parted [] table fine S h = record { attentive = tt; stands = S; held = h; made = sym (no_stage (graph_of b) (division_of b) (stands_for b table)) }
  parted (p ∷ ps) table fine S h =
      let one = step table p.sheet p.rounds fine.0.0 fine.0.1 S h in
      let rest = parted ps (resume_table p.sheet table p.rounds) fine.1 one.stands one.held in
      record {
        attentive = (one.attentive, rest.attentive);
        stands = rest.stands;
        held = rest.held;
        made = rest.made
            ∙ ap (in_stages (graph_of b) (division_of b) (stages_of ps)) one.made
            ∙ sym (first_stage (graph_of b) (division_of b) _ (stages_of ps) _);
      }

-- CHANGING SPANS AT ANY BREAK, ANY NUMBER OF TIMES
pub changed : (b table : List ℕ) → Standing b table → CountsBelow (2 ^ 54) table → (ps : List Part) → PartsOf b ps → Changed b table ps
changed b table S small ps fine =
    let s = stands_for b table in
    let ok = accepted_well_formed b S.accepted in
    let z = (before_tabled b table S).shape in
    let p = (before_tabled b table S).sound in
    let low = counts_state b table (2 ^ 54) small in
    let q = parted b s z low ps table fine S
    (record { shape = z; sound = p; kept = counted_none most_arcs_each_way (graph_of b) (division_of b) s }) in
    let left = resumed_by ps table in
    let shortest = standing_shortest b left q.stands in
    record {
      standing = q.stands;
      small = state_small b left (2 ^ 55) (grown b s z low S.accepted q.held.kept);
      ends = λ l. (before_ended b left q.stands).1
          (ap (ended (graph_of b) (division_of b)) q.made
          ∙ stages_enough ok s z p (stages_of ps) q.attentive few_each_way (rw (stages_rounds ps) l));
      shortest = shortest;
      agrees = λ b' ok' same k e e'.
          shortest_agree b b' S.accepted ok' same left (run_table b' k)
          (rw (sheet_labels b left, sheet_predecessors b left) at (shortest e)) ((delivered b' ok' k).shortest e');
    }
