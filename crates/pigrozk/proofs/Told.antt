-- The code of a call's answer says the answer: a code below 100 is a refusal, and its number tells whose.
use Rattle.std.specs.Prelude.{if◌then◌else◌}
use Prim.Native.Nat.{ℕ, ◌+◌, ◌-◌, ◌<◌}
use native.Mathlib.Omega.{arith}
use mathlib.Core.Bool.{Bool, true, false, cond, not, ◌&&◌}
use mathlib.Core.Path.{◌≡◌, refl, ap, ◌∙◌}
use mathlib.Core.List.{List, [], ◌∷◌}
use borrow.Author.Tests.{lt-ltb, le-ltb, ne_eqb, not-true}
use lib.ListN.{length}
use lib.Dec.{ltb, eqb}
use Rattle.indices.proofs.Steps.{by_truth}
use Rattle.indices.proofs.Tests.{and_left, and_right}
use Rattle.sheet.specs.Words.{top}
use Rattle.answer.specs.Answer.{Refusal, input, state, Answer, accepted, ended, paused, route, no_route, written, refused, Case, lowest}
use Rattle.judgement.specs.Judgement.{
  form_refusals,
  count_refusals,
  arc_refusals,
  division_refusals,
  refusals_by,
  refusals,
  other_refusals,
  judgement_by,
  judgement,
}
use Rattle.calls.specs.Calls.{call_refusals}
use Rattle.calls.specs.Tables.{status_in, label_in}
use Rattle.calls.specs.Runs.{run_call, run_answer, run_table}
use Rattle.calls.specs.Routes.{table_refusals, route_to, found_route, route_call, route_answer}
use Rattle.answer.specs.Codes.{code_of, from_state, answer_of}
use Rattle.canonical_form.specs.Canonical.{canonical}
use Rattle.conversion.specs.Converted.{converted}
use Rattle.calls.specs.Canonical.{canonical_call, canonical_answer}
use Rattle.calls.specs.Convert.{convert_call, convert_answer}
use Rattle.calls.specs.Resume.{resume_call, resume_answer, resumed_table}
use Rattle.pigrozk.proofs.Figures.{answered_accepted, way_within}

-- equal answers have one code
pub same_code : {code : ℕ} {a same : Answer} → code ≡ code_of a → a ≡ same → code ≡ code_of same
same_code e is = e ∙ ap code_of is

abbrev Told : Answer → Type 0
Told a = answer_of (code_of a) ≡ a

-- the number of a refusal tells whose it is
abbrev in_row : Refusal → Bool
in_row (input n) = not (from_state n) && ltb n 100
in_row (state n) = from_state n && ltb n 100

abbrev all_in_row : List Case → Bool
all_in_row [] = true
all_in_row (c ∷ cs) = in_row c.refusal && all_in_row cs

refusal_told : (r : Refusal) → in_row r ≡ true → Told (refused r)
unfolding answer_of
refusal_told (input n) e =
    let theirs : from_state n ≡ false = not-true (from_state n) (and_left (not (from_state n)) _ e) in
    let low : ltb n 100 ≡ true = and_right (not (from_state n)) _ e in
    rw (low, theirs)
refusal_told (state n) e =
    let ours : from_state n ≡ true = and_left (from_state n) _ e in
    let low : ltb n 100 ≡ true = and_right (from_state n) _ e in
    rw (low, ours)

-- a count in an answer: behind what has no number of its own
route_figure_told : (n : ℕ) → n < 65536 → Told (route n)
unfolding answer_of
route_figure_told n few =
    let back : 65536 + n - 65536 ≡ n = omega arith in
    rw (
      le-ltb (65536 + n) 100 (omega arith),
      ne_eqb (65536 + n) 256 (omega arith),
      ne_eqb (65536 + n) 257 (omega arith),
      ne_eqb (65536 + n) 258 (omega arith),
      ne_eqb (65536 + n) 259 (omega arith),
      lt-ltb (65536 + n) 131072 (omega arith),
      back,
    )

written_figure_told : (n : ℕ) → Told (written n)
unfolding answer_of
written_figure_told n =
    let back : 131072 + n - 131072 ≡ n = omega arith in
    rw (
      le-ltb (131072 + n) 100 (omega arith),
      ne_eqb (131072 + n) 256 (omega arith),
      ne_eqb (131072 + n) 257 (omega arith),
      ne_eqb (131072 + n) 258 (omega arith),
      ne_eqb (131072 + n) 259 (omega arith),
      le-ltb (131072 + n) 131072 (omega arith),
      back,
    )

-- the answer is asked for where no case applies
lowest_told : (cs : List Case) (a : Answer) → all_in_row cs ≡ true → (lowest cs accepted ≡ accepted → Told a) → Told (lowest cs a)
lowest_told [] a rows told = told refl
lowest_told (c ∷ cs) a rows told =
    let row = in_row c.refusal in
    by_truth c.applies
    (λ h. rw h (refusal_told c.refusal (and_left row _ rows)))
    (λ h. rw h (lowest_told cs a (and_right row _ rows) (λ clear. told (rw h clear))))

pub judge_told : (b : List ℕ) → Told (judgement b)
unfolding judgement_by refusals_by form_refusals count_refusals arc_refusals division_refusals answer_of
judge_told b = lowest_told (refusals b) accepted refl (λ _. refl)

status_told : (over : Bool) → Told (if over then ended else paused)
unfolding answer_of
status_told true = refl
status_told false = refl

pub run_told : (b : List ℕ) (k : ℕ) (table : List ℕ) → Told (run_answer b k table)
unfolding run_answer refusals_by form_refusals count_refusals arc_refusals division_refusals answer_of
run_told b k table = lowest_told (call_refusals (refusals b) (run_call b k table)) _ refl (λ _. status_told (eqb (status_in (run_table b k)) 1))

module _ (b table : List ℕ) (node : ℕ) (buffer : List ℕ) where
  found_told : length (route_to b table node) < 65536 → Told (found_route b table node buffer)
  unfolding found_route answer_of
  found_told few = at (eqb (label_in table node) top) (ltb (length buffer) (length (route_to b table node)))
    where
      at : (u s : Bool) → Told (if u then no_route else cond s (refused (state 25)) (route (length (route_to b table node))))
      at true s = refl
      at false true = refl
      at false false = route_figure_told (length (route_to b table node)) few

  pub route_told : Told (route_answer b table node buffer)
  unfolding route_answer table_refusals refusals_by form_refusals count_refusals arc_refusals division_refusals
  route_told =
      let call = route_call b table node buffer in
      lowest_told (call_refusals (refusals b) call) _ refl
      (λ clear. found_told (omega (arith, way_within b table node buffer (answered_accepted b call clear))))

pub canonical_told : (b out : List ℕ) → Told (canonical_answer b out)
unfolding canonical_answer refusals_by form_refusals count_refusals arc_refusals division_refusals
canonical_told b out = lowest_told (call_refusals (refusals b) (canonical_call b out)) _ refl (λ _. written_figure_told (length (canonical b)))

pub convert_told : (b out : List ℕ) → Told (convert_answer b out)
unfolding convert_answer refusals_by form_refusals count_refusals arc_refusals division_refusals
convert_told b out = lowest_told (call_refusals (other_refusals b) (convert_call b out)) _ refl (λ _. written_figure_told (length (converted b)))

pub resume_told : (b table : List ℕ) (k : ℕ) → Told (resume_answer b table k)
unfolding resume_answer refusals_by form_refusals count_refusals arc_refusals division_refusals
resume_told b table k = lowest_told (call_refusals (refusals b) (resume_call b table k)) _ refl (λ _. status_told (eqb (status_in (resumed_table b table k)) 1))
