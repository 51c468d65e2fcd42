-- Changing spans between rounds, any number of times, from any sound state: the invariant stays, counts stay bounded and those of unused heights 0, rounds
-- end, and what has ended is shortest.
use Prim.Native.Nat.{ℕ, ◌+◌, ◌^◌, ◌≤◌, ◌<◌}
use mathlib.Core.Bool.{true, false, not, true≢false}
use mathlib.Core.Path.{◌≡◌, refl, sym, ap, ◌∙◌}
use mathlib.Core.List.{List, [], ◌∷◌}
use native.Mathlib.Omega.{arith}
use Rattle.indices.proofs.Steps.{T_of, by_truth, times_off}
use Rattle.procedure.specs.Graph.{Graph}
use Rattle.procedure.specs.Division.{Division}
use Rattle.procedure.specs.State.{State}
use Rattle.procedure.specs.Procedure.{ended, round, more}
use Rattle.procedure.specs.Routes.{Shortest}
use Rattle.theory_shortest.specs.WellFormed.{SpansOk, WellFormed}
use Rattle.theory.specs.Sound.{Shape, Sound, Root}
use Rattle.theory.specs.Counts.{Below, Levelled}
use Rattle.theory.specs.Stages.{Stage, in_stages, all_rounds, StagesOk}
use Rattle.theory.proofs.Levels.{more_levels}
use Rattle.theory.proofs.Lift.{Held}
use Rattle.theory.proofs.Counts.{potential, Counted, counted_none, rounds_counted, still_running}
use Rattle.theory.proofs.Final.{more_in_parts, potential_low, counted_below}
use Rattle.theory.proofs.Distances.{sound_shortest}

-- THE FORM of stages
module _ (g : Graph) (d : Division) where
  pub no_stage : (s : State) → in_stages g d [] s ≡ s
  unfolding in_stages
  no_stage s = refl

  pub first_stage : (t : Stage) (ts : List Stage) (s : State) → in_stages g d (t ∷ ts) s ≡ in_stages g d ts (more g d t.spans t.rounds s)
  unfolding in_stages
  first_stage t ts s = refl

  -- two stages with the same spans are one
  pub stages_join : (spans : List ℕ) (k m : ℕ) (ts : List Stage) (s : State)
      → in_stages g d (record { spans = spans; rounds = k } ∷ record { spans = spans; rounds = m } ∷ ts) s
      ≡ in_stages g d (record { spans = spans; rounds = k + m } ∷ ts) s
  unfolding in_stages
  stages_join spans k m ts s = ap (in_stages g d ts) (sym (more_in_parts g d spans k m s))

  -- what has ended stays, whatever the spans
  pub more_ended_stays : (spans : List ℕ) (k : ℕ) (s : State) → ended g d s ≡ true → more g d spans k s ≡ s
  more_ended_stays spans k s e = times_off (λ s. not (ended g d s)) (round g d spans) k s (ap not e)

  pub stages_stay : (ts : List Stage) (s : State) → ended g d s ≡ true → in_stages g d ts s ≡ s
  stages_stay [] s e = no_stage s
  stages_stay (t ∷ ts) s e = first_stage t ts s ∙ rw (more_ended_stays t.spans t.rounds s e) (stages_stay ts s e)

-- the same graph and division with other spans
pub with_spans : {most : ℕ} {g : Graph} {d : Division} {spans spans' : List ℕ} → WellFormed most g d spans → SpansOk d spans' → WellFormed most g d spans'
with_spans ok fine = record { graph = ok.graph; division = ok.division; attention = fine }

module _ {most : ℕ} {g : Graph} {d : Division} {spans : List ℕ} (ok : WellFormed most g d spans) where
  -- the counts of unused heights stay 0
  pub stages_levels : (ts : List Stage) (s : State) → Levelled d s → Levelled d (in_stages g d ts s)
  stages_levels [] s p = rw (no_stage g d s) p
  stages_levels (t ∷ ts) s p = rw (first_stage g d t ts s) (stages_levels ts _ (more_levels g ok.division t.spans t.rounds s p))

  -- the invariant and the bounds stay through all stages
  pub stages_counted : (s₀ : State) (ts : List Stage) (s : State) → StagesOk d ts → Held g d Root (Counted most g d s₀ 0 0) s
      → Held g d Root (Counted most g d s₀ 0 0) (in_stages g d ts s)
  unfolding StagesOk
  stages_counted s₀ [] s fine p = rw (no_stage g d s) p
  stages_counted s₀ (t ∷ ts) s fine p =
      rw (first_stage g d t ts s) (stages_counted s₀ ts _ fine.1 (rounds_counted (with_spans ok fine.0) s₀ t.rounds s p))

  -- where the last stage has not ended, every round was made
  pub stages_made : (ts : List Stage) (s : State) → StagesOk d ts → ended g d (in_stages g d ts s) ≡ false
      → s.rounds + all_rounds ts ≤ (in_stages g d ts s).rounds
  unfolding StagesOk all_rounds
  stages_made [] s fine on = rw (no_stage g d s) (omega arith)
  stages_made (t ∷ ts) s fine on =
      let s' = more g d t.spans t.rounds s in
      let on' = rw (first_stage g d t ts s) at on in
      let first : ended g d s' ≡ false =
      by_truth (ended g d s') (λ over. absurd (true≢false (sym over ∙ ap (ended g d) (sym (stages_stay g d ts s' over)) ∙ on'))) (λ e. e) in
      rw (first_stage g d t ts s)
      (omega (arith, still_running (with_spans ok fine.0) t.rounds s (T_of _ (ap not first)), stages_made ts s' fine.1 on'))

  module _ (s : State) (z : Shape g d s) (p : Sound g d Root s) (ts : List Stage) (fine : StagesOk d ts) where
    pub stages_held : Held g d Root (Counted most g d s 0 0) (in_stages g d ts s)
    stages_held = stages_counted s ts s fine (record { shape = z; sound = p; kept = counted_none most g d s })

    -- stages of more rounds than the potential end
    pub stages_end : potential most g s < all_rounds ts → ended g d (in_stages g d ts s) ≡ true
    stages_end l =
        let c = stages_held.kept in
        by_truth (ended g d (in_stages g d ts s)) (λ e. e) (λ e. absurd (omega (arith, stages_made ts s fine e, c.leaves, c.rounds)))

    -- what has ended is shortest, whatever the spans were
    pub stages_shortest : ended g d (in_stages g d ts s) ≡ true → Shortest g (in_stages g d ts s).labels (in_stages g d ts s).predecessors
    stages_shortest = sound_shortest ok (in_stages g d ts s) stages_held.shape stages_held.sound

    module _ (few : most ≤ 4) where
      -- 2^41 rounds in all are enough
      pub stages_enough : 2 ^ 41 ≤ all_rounds ts → ended g d (in_stages g d ts s) ≡ true
      stages_enough l = stages_end (omega (arith, potential_low ok few s z))

      -- no count grows by 2^54 or more
      pub stages_below : (n : ℕ) → Below n s → Below (n + 2 ^ 54) (in_stages g d ts s)
      stages_below n b = counted_below ok few s (in_stages g d ts s) z stages_held.kept n b
