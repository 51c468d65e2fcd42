-- Words of which each may follow the one before it are in the order of the sheet: the spans, the holds, the arcs in pairs, and then region words alone. So
-- refusal 2, but for the number of holds, applies just where the front, some neighbouring pair or the end says no.
-- By recursion on the words from the back of the order to its front.
use Prim.Native.Nat.{ℕ, zero, suc, ◌+◌, ◌-◌, ◌*◌, ◌/◌, ◌<◌, ◌≤◌}
use mathlib.Core.Bool.{Bool, true, false, not, ◌&&◌, ◌||◌, or-true}
use mathlib.Core.List.{List}
use mathlib.Core.Path.{◌≡◌, refl, sym, ap, ◌∙◌}
use borrow.Author.Tests.{eqb-true, eq-eqb, ne_eqb, lt-ltb, le-ltb}
use native.Mathlib.Omega.{arith}
use lib.Dec.{eqb}
use Rattle.indices.specs.Tests.{any, lead}
use Rattle.indices.proofs.Steps.{by_truth}
use Rattle.indices.proofs.Tests.{or_assoc, any_ext, any_front, lead_ext, and_left, and_right}
use Rattle.sheet.specs.Words.{words, kind}
use Rattle.sheet.specs.Sections.{of_kind, kind_from, span_count, holds_at, hold_count, is_arc, arcs_from, arcs_at, arc_count, region_words}
use Rattle.sheet.proofs.Bounds.{region_words_lem, region_kind_lem}
use Rattle.judgement.specs.Form.{no_region_word, wrong_sections, wrong_holds, out_of_order}
use Rattle.judgement.specs.Kinds.{may_begin, may_follow, may_end, wrong_neighbours, wrong_kinds}

-- n words, whose kinds are given, after one of kind `before`: each may follow the one before it, and the sheet may end
unfoldable follow_on : ℕ → (ℕ → ℕ) → ℕ → Bool
follow_on before kinds zero = may_end before
follow_on before kinds (suc n) = may_follow before (kinds 0) && follow_on (kinds 0) (λ i. kinds (suc i)) n

-- to prove P of a kind that is one of two, prove it of each
by_kind {ℓ} : {P : Type ℓ} (k m n : ℕ) → eqb k m || eqb k n ≡ true → (k ≡ m → P) → (k ≡ n → P) → P
by_kind k m n e one other = by_truth (eqb k m) (λ h. one (eqb-true k m h)) (λ h. other (eqb-true k n (rw h at e)))

-- REGION WORDS
unfoldable region_kind : ℕ → Bool
region_kind k = eqb k 6 || eqb k 7

region_follows : (before k : ℕ) → region_kind before ≡ true → may_follow before k ≡ region_kind k
unfolding may_follow region_kind
region_follows before k e = by_kind before 6 7 e (λ six. rw six) (λ seven. rw seven)

region_ends : (before : ℕ) → region_kind before ≡ true → may_end before ≡ true
unfolding may_end region_kind
region_ends before e = by_kind before 6 7 e (λ six. rw six) (λ seven. rw seven)

-- n words are all region words
abbrev regions_only : (ℕ → ℕ) → ℕ → Bool
regions_only kinds n = not (any (λ i. not (region_kind (kinds i))) n)

regions_front : (kinds : ℕ → ℕ) (n : ℕ) → regions_only kinds (suc n) ≡ region_kind (kinds 0) && regions_only (λ i. kinds (suc i)) n
regions_front kinds n = rw (any_front (λ i. not (region_kind (kinds i))) n) (by_truth (region_kind (kinds 0)) (λ h. rw h) (λ h. rw h))

after_region : (before : ℕ) (kinds : ℕ → ℕ) (n : ℕ) → region_kind before ≡ true → follow_on before kinds n ≡ regions_only kinds n
unfolding follow_on any
after_region before kinds zero e = region_ends before e
after_region before kinds (suc n) e =
    rw (region_follows before (kinds 0) e, regions_front kinds n)
    (by_truth (region_kind (kinds 0)) (λ h. rw h (after_region (kinds 0) (λ i. kinds (suc i)) n h)) (λ h. rw h))

-- ARCS
arc_follows : (k : ℕ) → may_follow 5 k ≡ eqb k 4 || region_kind k
unfolding may_follow region_kind
arc_follows k = or_assoc (eqb k 4) (eqb k 6) (eqb k 7)

abbrev arc_at : (ℕ → ℕ) → ℕ → Bool
arc_at kinds a = eqb (kinds (2 * a)) 4 && eqb (kinds (2 * a + 1)) 5

-- how many arcs stand at the front of n words, and that all behind them are region words
unfoldable arcs_lead : (ℕ → ℕ) → ℕ → ℕ
arcs_lead kinds n = lead (arc_at kinds) (n / 2)

unfoldable arcs_then_regions : (ℕ → ℕ) → ℕ → Bool
arcs_then_regions kinds n = regions_only (λ i. kinds (2 * arcs_lead kinds n + i)) (n - 2 * arcs_lead kinds n)

arcs_ext : (kinds kinds' : ℕ → ℕ) (n n' : ℕ) → n ≡ n' → ((i : ℕ) → kinds i ≡ kinds' i) → arcs_then_regions kinds n ≡ arcs_then_regions kinds' n'
unfolding arcs_then_regions arcs_lead
arcs_ext kinds kinds' n n' e h =
    rw (e, lead_ext (arc_at kinds) (arc_at kinds') (n' / 2) (λ a l. rw (h (2 * a), h (2 * a + 1))))
    (ap not (any_ext _ _ (n' - 2 * lead (arc_at kinds') (n' / 2)) (λ i l. rw (h (2 * lead (arc_at kinds') (n' / 2) + i)))))

-- no arc stands at the front
arcs_none : (kinds : ℕ → ℕ) (n : ℕ) → arcs_lead kinds n ≡ 0 → arcs_then_regions kinds n ≡ regions_only kinds n
unfolding arcs_then_regions
arcs_none kinds n e =
    rw e (ap not (any_ext (λ i. not (region_kind (kinds (2 * 0 + i)))) (λ i. not (region_kind (kinds i))) (n - 2 * 0)
    (λ i l. ap (λ (j : ℕ). not (region_kind (kinds j))) (omega arith)) ∙ ap (λ (m : ℕ). any (λ i. not (region_kind (kinds i))) m) (omega arith)))

-- an arc stands at the front
lead_one : (kinds : ℕ → ℕ) (n : ℕ) → arc_at kinds 0 ≡ true → arcs_lead kinds (suc (suc n)) ≡ suc (arcs_lead (λ i. kinds (suc (suc i))) n)
unfolding arcs_lead lead
lead_one kinds n e =
    let half : suc (suc n) / 2 ≡ suc (n / 2) = omega arith in
    rw (half, e)
    (ap suc (lead_ext (λ a. arc_at kinds (suc a)) (arc_at (λ i. kinds (suc (suc i)))) (n / 2)
    (λ a l. rw (twice a, twice' a))))
  where
    twice : (a : ℕ) → 2 * suc a ≡ suc (suc (2 * a))
    twice a = omega arith

    twice' : (a : ℕ) → suc (suc (2 * a)) + 1 ≡ suc (suc (2 * a + 1))
    twice' a = omega arith

arcs_one : (kinds : ℕ → ℕ) (n : ℕ) → arc_at kinds 0 ≡ true → arcs_then_regions kinds (suc (suc n)) ≡ arcs_then_regions (λ i. kinds (suc (suc i))) n
unfolding arcs_then_regions
arcs_one kinds n e =
    let rest = arcs_lead (λ i. kinds (suc (suc i))) n in
    let size : suc (suc n) - 2 * suc rest ≡ n - 2 * rest = omega arith in
    rw (lead_one kinds n e, size)
    (ap not (any_ext (λ i. not (region_kind (kinds (2 * suc rest + i)))) (λ i. not (region_kind (kinds (suc (suc (2 * rest + i)))))) (n - 2 * rest)
    (λ i l. ap (λ (j : ℕ). not (region_kind (kinds j))) (omega arith))))

lead_zero : (kinds : ℕ → ℕ) (n : ℕ) → arc_at kinds 0 ≡ false → arcs_lead kinds (suc (suc n)) ≡ 0
unfolding arcs_lead lead
lead_zero kinds n e = let half : suc (suc n) / 2 ≡ suc (n / 2) = omega arith in rw (half, e)

-- one word after an arc
last_word : (k : ℕ) → may_follow 5 k && may_end k ≡ region_kind k
unfolding may_end
last_word k =
    rw (arc_follows k)
    (by_truth (region_kind k) (λ h. rw (h, or-true) (region_ends k h))
    (λ h. by_truth (eqb k 4) (λ four. rw (h, eqb-true k 4 four)) (λ other. rw (h, other))))

-- an arc's length follows its ends
after_ends : (k : ℕ) → may_follow 4 k ≡ eqb k 5
unfolding may_follow
after_ends k = refl

-- where no arc stands at the front, two words and more are in order if they are region words
no_arc_lem : (kinds : ℕ → ℕ) (n : ℕ) → arc_at kinds 0 ≡ false → follow_on 5 kinds (suc (suc n)) ≡ regions_only kinds (suc (suc n))
unfolding follow_on
no_arc_lem kinds n e =
    rw (arc_follows (kinds 0), regions_front kinds (suc n))
    (by_truth (region_kind (kinds 0)) (λ h. rw (h, or-true) (after_region (kinds 0) (λ i. kinds (suc i)) (suc n) h))
    (λ h. by_truth (eqb (kinds 0) 4)
    (λ four. let unpaired : eqb (kinds 1) 5 ≡ false = rw four at e in rw (h, eqb-true (kinds 0) 4 four, after_ends (kinds 1), unpaired))
    (λ other. rw (h, other))))

-- an arc at the front, and the words behind it
arc_first : (kinds : ℕ → ℕ) (n : ℕ) → arc_at kinds 0 ≡ true → follow_on 5 kinds (suc (suc n)) ≡ follow_on 5 (λ i. kinds (suc (suc i))) n
unfolding follow_on may_follow
arc_first kinds n e =
    let four : kinds 0 ≡ 4 = eqb-true (kinds 0) 4 (and_left (eqb (kinds 0) 4) (eqb (kinds 1) 5) e) in
    let five : kinds 1 ≡ 5 = eqb-true (kinds 1) 5 (and_right (eqb (kinds 0) 4) (eqb (kinds 1) 5) e) in
    rw (four, five)

lead_short : (kinds : ℕ → ℕ) → (arcs_lead kinds 0 ≡ 0) × (arcs_lead kinds 1 ≡ 0)
unfolding arcs_lead lead
lead_short kinds = (refl, refl)

regions_one : (kinds : ℕ → ℕ) → region_kind (kinds 0) ≡ regions_only kinds 1
unfolding any
regions_one kinds = by_truth (region_kind (kinds 0)) (λ h. rw h) (λ h. rw h)

after_arc : (kinds : ℕ → ℕ) (n : ℕ) → follow_on 5 kinds n ≡ arcs_then_regions kinds n
unfolding follow_on may_end any
after_arc kinds zero = sym (arcs_none kinds 0 (lead_short kinds).0)
after_arc kinds (suc zero) = last_word (kinds 0) ∙ regions_one kinds ∙ sym (arcs_none kinds 1 (lead_short kinds).1)
after_arc kinds (suc (suc n)) =
    by_truth (arc_at kinds 0) (λ arc. arc_first kinds n arc ∙ after_arc (λ i. kinds (suc (suc i))) n ∙ sym (arcs_one kinds n arc))
    (λ none. no_arc_lem kinds n none ∙ sym (arcs_none kinds (suc (suc n)) (lead_zero kinds n none)))

-- A RUN of words of kind κ, and behind it what may stand after kind e
-- how many words of the kind stand at the front of n words, and that what is behind them is in order
unfoldable run_lead : ℕ → (ℕ → ℕ) → ℕ → ℕ
run_lead κ kinds n = lead (λ i. eqb (kinds i) κ) n

unfoldable run_then : ℕ → ((ℕ → ℕ) → ℕ → Bool) → (ℕ → ℕ) → ℕ → Bool
run_then κ rest kinds n = rest (λ i. kinds (run_lead κ kinds n + i)) (n - run_lead κ kinds n)

-- what is in order depends on the kinds alone
abbrev Ext : ((ℕ → ℕ) → ℕ → Bool) → Type 0
Ext rest = (kinds kinds' : ℕ → ℕ) (n n' : ℕ) → n ≡ n' → ((i : ℕ) → kinds i ≡ kinds' i) → rest kinds n ≡ rest kinds' n'

-- a kind of the run may be followed by one more of it, and else by what may follow kind e; and the sheet may end after it where it may end after e
record InRun (κ e before : ℕ) : Type 0 where
  follows : (k : ℕ) → may_follow before k ≡ eqb k κ || may_follow e k
  ends : may_end before ≡ may_end e

module _ (κ : ℕ) where
  lead_more_run : (kinds : ℕ → ℕ) (n : ℕ) → eqb (kinds 0) κ ≡ true → run_lead κ kinds (suc n) ≡ suc (run_lead κ (λ i. kinds (suc i)) n)
  unfolding run_lead lead
  lead_more_run kinds n e = rw e

  lead_no_run : (kinds : ℕ → ℕ) (n : ℕ) → eqb (kinds 0) κ ≡ false → run_lead κ kinds (suc n) ≡ 0
  unfolding run_lead lead
  lead_no_run kinds n e = rw e

  lead_no_words : (kinds : ℕ → ℕ) → run_lead κ kinds 0 ≡ 0
  unfolding run_lead lead
  lead_no_words kinds = refl

  module _ (rest : (ℕ → ℕ) → ℕ → Bool) (ext : Ext rest) where
    run_ext : Ext (run_then κ rest)
    unfolding run_then run_lead
    run_ext kinds kinds' n n' e h =
        rw (e, lead_ext (λ i. eqb (kinds i) κ) (λ i. eqb (kinds' i) κ) n' (λ i l. ap (λ (k : ℕ). eqb k κ) (h i)))
        (ext _ _ _ _ refl (λ i. h (lead (λ i. eqb (kinds' i) κ) n' + i)))

    run_none : (kinds : ℕ → ℕ) (n : ℕ) → run_lead κ kinds n ≡ 0 → run_then κ rest kinds n ≡ rest kinds n
    unfolding run_then
    run_none kinds n e = rw e (ext (λ i. kinds (0 + i)) kinds (n - 0) n (omega arith) (λ i. ap kinds (omega arith)))

    run_one : (kinds : ℕ → ℕ) (n : ℕ) → eqb (kinds 0) κ ≡ true → run_then κ rest kinds (suc n) ≡ run_then κ rest (λ i. kinds (suc i)) n
    unfolding run_then
    run_one kinds n e =
        let more = run_lead κ (λ i. kinds (suc i)) n in
        rw (lead_more_run kinds n e)
        (ext (λ i. kinds (suc more + i)) (λ i. kinds (suc (more + i))) (suc n - suc more) (n - more) (omega arith) (λ i. ap kinds (omega arith)))

    -- after a kind of the run stand words of the run, and behind them words that are in order after kind e
    after_run : (e : ℕ) → ((kinds : ℕ → ℕ) (n : ℕ) → follow_on e kinds n ≡ rest kinds n) → InRun κ e κ
        → (before : ℕ) (kinds : ℕ → ℕ) (n : ℕ) → InRun κ e before → follow_on before kinds n ≡ run_then κ rest kinds n
    unfolding follow_on
    after_run e behind own before kinds zero r = r.ends ∙ behind kinds 0 ∙ sym (run_none kinds 0 (lead_no_words kinds))
    after_run e behind own before kinds (suc n) r =
        rw (r.follows (kinds 0))
        (by_truth (eqb (kinds 0) κ)
        (λ h. let same : kinds 0 ≡ κ = eqb-true (kinds 0) κ h in
        rw h (after_run e behind own (kinds 0) (λ i. kinds (suc i)) n (rw same own) ∙ sym (run_one kinds n h)))
        (λ h. rw h (behind kinds (suc n) ∙ sym (run_none kinds (suc n) (lead_no_run kinds n h)))))

-- HOLDS, and behind them the arcs
abbrev holds_then_arcs : (ℕ → ℕ) → ℕ → Bool
holds_then_arcs = run_then 13 arcs_then_regions

hold_run : InRun 13 5 13
unfolding may_follow may_end
hold_run = record { follows = λ k. by_truth (eqb k 13) (λ h. rw h) (λ h. rw h); ends = refl }

after_hold : (kinds : ℕ → ℕ) (n : ℕ) → follow_on 13 kinds n ≡ holds_then_arcs kinds n
after_hold kinds n = after_run 13 arcs_then_regions arcs_ext 5 after_arc hold_run 13 kinds n hold_run

-- SPANS, and behind them the holds
abbrev spans_then_holds : (ℕ → ℕ) → ℕ → Bool
spans_then_holds = run_then 3 holds_then_arcs

span_run : (before : ℕ) → eqb before 2 || eqb before 3 ≡ true → InRun 3 13 before
unfolding may_follow may_end
span_run before e = record {
  follows = λ k. by_kind before 2 3 e (λ two. rw two (grouped k)) (λ three. rw three (grouped k));
  ends = by_kind before 2 3 e (λ two. rw two) (λ three. rw three);
}
  where
    grouped : (k : ℕ) → eqb k 3 || eqb k 13 || eqb k 4 || eqb k 6 || eqb k 7 ≡ eqb k 3 || (eqb k 13 || eqb k 4 || eqb k 6 || eqb k 7)
    grouped k = by_truth (eqb k 3) (λ h. rw h) (λ h. rw h)

after_span : (before : ℕ) (kinds : ℕ → ℕ) (n : ℕ) → eqb before 2 || eqb before 3 ≡ true → follow_on before kinds n ≡ spans_then_holds kinds n
after_span before kinds n e =
    after_run 3 holds_then_arcs (run_ext 13 arcs_then_regions arcs_ext) 13 after_hold (span_run 3 refl) before kinds n (span_run before e)

-- THE WHOLE SHEET
from_front : (kinds : ℕ → ℕ) (n : ℕ)
    → may_begin (kinds 0) && follow_on (kinds 0) (λ i. kinds (suc i)) (suc n)
    ≡ eqb (kinds 0) 1 && (eqb (kinds 1) 2 && spans_then_holds (λ i. kinds (suc (suc i))) n)
unfolding follow_on may_begin may_follow
from_front kinds n =
    by_truth (eqb (kinds 0) 1)
    (λ h. let one : kinds 0 ≡ 1 = eqb-true (kinds 0) 1 h in
    by_truth (eqb (kinds 1) 2) (λ two. rw (one, two) (after_span (kinds 1) (λ i. kinds (suc (suc i))) n (rw two))) (λ other. rw (one, other)))
    (λ h. rw h)

-- a single word
too_short : (kinds : ℕ → ℕ) → may_begin (kinds 0) && follow_on (kinds 0) (λ i. kinds (suc i)) 0 ≡ false
unfolding follow_on may_begin may_end
too_short kinds = by_truth (eqb (kinds 0) 1) (λ h. rw (eqb-true (kinds 0) 1 h)) (λ h. rw h)

-- the neighbouring pairs of n + 1 words, and their end
abbrev wrong : (ℕ → ℕ) → ℕ → Bool
wrong kinds i = not (may_follow (kinds i) (kinds (i + 1)))

by_pairs : (kinds : ℕ → ℕ) (n : ℕ) → follow_on (kinds 0) (λ i. kinds (suc i)) n ≡ not (any (wrong kinds) n) && may_end (kinds n)
unfolding follow_on any
by_pairs kinds zero = refl
by_pairs kinds (suc n) =
    rw (
      by_pairs (λ i. kinds (suc i)) n,
      any_front (wrong kinds) n,
      any_ext (λ i. wrong kinds (suc i)) (wrong (λ i. kinds (suc i))) n
          (λ i l. ap (λ (j : ℕ). not (may_follow (kinds (suc i)) (kinds j))) (omega arith)),
    )
    (by_truth (may_follow (kinds 0) (kinds 1)) (λ h. rw h) (λ h. rw h))

short : (b : List ℕ) → words b < 2 → not (wrong_sections b) ≡ false
unfolding wrong_sections
short b l = rw (lt-ltb (words b) 2 l)

long : (b : List ℕ) → 2 ≤ words b
    → not (wrong_sections b) ≡ eqb (kind b 0) 1 && (eqb (kind b 1) 2 && not (any (no_region_word (region_words b)) (words (region_words b))))
unfolding wrong_sections
long b l = rw (le-ltb (words b) 2 l) (at (eqb (kind b 0) 1) (eqb (kind b 1) 2) (any (no_region_word (region_words b)) (words (region_words b))))
  where
    at : (x y z : Bool) → not (false || not x || not y || z) ≡ x && (y && not z)
    at true true z = refl
    at true false z = refl
    at false y z = refl

module _ (b : List ℕ) where
  span_count_lem : (n : ℕ) → words b ≡ suc (suc n) → run_lead 3 (λ i. kind b (suc (suc i))) n ≡ span_count b
  unfolding run_lead kind_from
  span_count_lem n e =
      lead_ext (λ i. eqb (kind b (suc (suc i))) 3) (of_kind 3 b 2) n (λ i l. ap (λ (j : ℕ). eqb (kind b j) 3) (omega arith))
      ∙ ap (lead (of_kind 3 b 2)) (omega arith)

  hold_count_lem : run_lead 13 (λ i. kind b (holds_at b + i)) (words b - holds_at b) ≡ hold_count b
  unfolding run_lead kind_from
  hold_count_lem = refl

  arc_count_lem : arcs_lead (λ i. kind b (arcs_at b + i)) (words b - arcs_at b) ≡ arc_count b
  unfolding arcs_lead arcs_from
  arc_count_lem =
      lead_ext (arc_at (λ i. kind b (arcs_at b + i))) (is_arc b (arcs_at b)) ((words b - arcs_at b) / 2)
      (λ a l. ap (λ (j : ℕ). eqb (kind b (arcs_at b + 2 * a)) 4 && eqb (kind b j) 5) (omega arith))

  region_part : 2 ≤ words b → arcs_then_regions (λ i. kind b (arcs_at b + i)) (words b - arcs_at b) ≡ not
      (any (no_region_word (region_words b)) (words (region_words b)))
  unfolding arcs_then_regions region_kind
  region_part two =
      let size : words b - arcs_at b - 2 * arc_count b ≡ words (region_words b) = omega (arith, region_words_lem b two) in
      rw (arc_count_lem, size)
      (ap not (any_ext (λ i. not (region_kind (kind b (arcs_at b + (2 * arc_count b + i))))) (no_region_word (region_words b)) (words (region_words b))
      (λ i l. ap (λ (k : ℕ). not (eqb k 6 || eqb k 7)) (ap (kind b) (omega arith) ∙ sym (region_kind_lem b i)))))

  arc_part : 2 ≤ words b
      → holds_then_arcs (λ i. kind b (holds_at b + i)) (words b - holds_at b) ≡ not (any (no_region_word (region_words b)) (words (region_words b)))
  unfolding run_then
  arc_part two =
      rw hold_count_lem
      (arcs_ext (λ i. kind b (holds_at b + (hold_count b + i))) (λ i. kind b (arcs_at b + i)) (words b - holds_at b - hold_count b) (words b - arcs_at b)
      (omega arith) (λ i. ap (kind b) (omega arith)) ∙ region_part two)

  sections : (n : ℕ) → words b ≡ suc (suc n)
      → spans_then_holds (λ i. kind b (suc (suc i))) n ≡ not (any (no_region_word (region_words b)) (words (region_words b)))
  unfolding run_then
  sections n e =
      rw (span_count_lem n e)
      (run_ext 13 arcs_then_regions arcs_ext (λ i. kind b (suc (suc (span_count b + i)))) (λ i. kind b (holds_at b + i)) (n - span_count b)
      (words b - holds_at b)
      (omega arith) (λ i. ap (kind b) (omega arith)) ∙ arc_part (omega arith))

  -- the test of the whole sheet, word by word from its front
  word_by_word : (n : ℕ) → words b ≡ suc n → not (wrong_kinds b) ≡ may_begin (kind b 0) && follow_on (kind b 0) (λ i. kind b (suc i)) n
  unfolding wrong_kinds
  word_by_word n e =
      let less : words b - 1 ≡ n = omega arith in
      rw (ne_eqb (words b) 0 (λ none. omega arith), less, by_pairs (kind b) n) (at (may_begin (kind b 0)) (any (wrong_neighbours b) n) (may_end (kind b n)))
    where
      at : (x y z : Bool) → not (false || not x || y || not z) ≡ x && (not y && z)
      at true true z = refl
      at true false true = refl
      at true false false = refl
      at false y z = refl

  no_word : words b ≡ 0 → not (wrong_kinds b) ≡ false
  unfolding wrong_kinds
  no_word e = rw (eq-eqb (words b) 0 e)

  same_not : not (wrong_sections b) ≡ not (wrong_kinds b)
  same_not = at (words b) refl
    where
      at : (m : ℕ) → words b ≡ m → not (wrong_sections b) ≡ not (wrong_kinds b)
      at zero e = short b (omega arith) ∙ sym (no_word e)
      at (suc zero) e = short b (omega arith) ∙ sym (word_by_word 0 e ∙ too_short (kind b))
      at (suc (suc n)) e =
          long b (omega arith) ∙ ap (λ (r : Bool). eqb (kind b 0) 1 && (eqb (kind b 1) 2 && r)) (sym (sections n e))
          ∙ sym (word_by_word (suc n) e ∙ from_front (kind b) n)

  -- the sections are not in order just where the front, some neighbouring pair or the end says no
  pub by_kinds : wrong_sections b ≡ wrong_kinds b
  by_kinds = same (wrong_sections b) (wrong_kinds b) same_not
    where
      same : (x y : Bool) → not x ≡ not y → x ≡ y
      same true true e = refl
      same true false e = sym e
      same false true e = sym e
      same false false e = refl

  -- refusal 2 applies just there, and where the number of holds is wrong
  pub by_cases_or_holds : out_of_order b ≡ wrong_kinds b || wrong_holds b
  unfolding out_of_order
  by_cases_or_holds = ap (λ (t : Bool). t || wrong_holds b) by_kinds
