-- The pass over the kinds, word by word: of the words that are passed none says no.
use Prim.Native.Nat.{ℕ, ◌+◌, ◌-◌, ◌<◌, ◌≤◌}
use mathlib.Core.Bool.{true, false, not, or-true}
use mathlib.Core.List.{List}
use mathlib.Core.Path.{◌≡◌, refl, sym, ap, ◌∙◌}
use borrow.Author.Tests.{ltb-true, ltb-false, eq-eqb, ne_eqb}
use native.Mathlib.Omega.{arith}
use lib.Dec.{ltb}
use Rattle.indices.specs.Tests.{any}
use Rattle.indices.proofs.Steps.{by_truth}
use Rattle.indices.proofs.Tests.{any_none, any_more, any_hit}
use Rattle.std.specs.Prelude.{Some, None}
use Rattle.std.proofs.lemmas.Option.{none-some}
use Rattle.sheet.specs.Words.{words, word, kind_of, kind}
use Rattle.sheet_reader.specs.declared.Reader.{Reader}
use Rattle.sheet_reader.specs.Places.{reads, reader_standing}
use Rattle.judgement.specs.Kinds.{may_begin, may_follow, may_end, wrong_first, wrong_neighbours, wrong_kinds}

-- a word that a reader gives, which stood at a place of a sheet
pub record Stepped (b : List ℕ) (at w : ℕ) (r' : Reader) : Type 0 where
  pub inside : at < words b
  pub read : w ≡ word b at
  pub same : r'.sheet.now ≡ b
  pub moved : r'.place ≡ at + 1

module _ {b : List ℕ} {at : ℕ} (r r' : Reader) (same : r.sheet.now ≡ b) (here : r.place ≡ at) where
  pub step_word : {w : ℕ} → reads r (Some w) r' → Stepped b at w r'
  step_word {w} e =
      by_truth (ltb r.place (words r.sheet.now))
      (λ h.
      let step : (Some w ≡ Some (word r.sheet.now r.place)) × (r' ≡ reader_standing r.sheet (record { place = r.place + 1 })) = rw h at e in
      record {
        inside = rw (← same, ← here) (ltb-true r.place (words r.sheet.now) h);
        read = let e : Some w ≡ Some (word r.sheet.now r.place) = step.0 in let read : w ≡ word r.sheet.now r.place = cc in rw (← same, ← here) read;
        same = ap (λ (x : Reader). x.sheet.now) step.1 ∙ same;
        moved = ap (λ (x : Reader). x.place) step.1 ∙ ap (λ (n : ℕ). n + 1) here;
      })
      (λ h. let none : (Some w ≡ None) × (r' ≡ r) = rw h at e in absurd (none-some w (sym none.0)))

  pub step_end : reads r None r' → words b ≤ at
  step_end e =
      by_truth (ltb r.place (words r.sheet.now))
      (λ h.
      let step : (None ≡ Some (word r.sheet.now r.place)) × (r' ≡ reader_standing r.sheet (record { place = r.place + 1 })) = rw h at e in
      absurd (none-some (word r.sheet.now r.place) step.0))
      (λ h. rw (← same, ← here) (ltb-false r.place (words r.sheet.now) h))

-- the kind that was read
pub step_kind : {b : List ℕ} {at w k : ℕ} {r' : Reader} → Stepped b at w r' → k ≡ kind_of w → k ≡ kind b at
unfolding kind
step_kind st e = e ∙ ap kind_of st.read

-- The words before place `at`, one at least: none of them says no, and the last of them is of kind `before`.
pub record Passed (b : List ℕ) (before at : ℕ) : Type 0 where
  pub some : 0 < at
  pub inside : at ≤ words b
  pub first : wrong_first b ≡ false
  pub none : any (wrong_neighbours b) (at - 1) ≡ false
  pub last : before ≡ kind b (at - 1)

-- a sheet without a word, and a first word with which no sheet begins
pub pass_empty : (b : List ℕ) → words b ≤ 0 → wrong_kinds b ≡ true
unfolding wrong_kinds
pass_empty b l = rw (eq-eqb (words b) 0 (omega arith))

pub pass_front : (b : List ℕ) → may_begin (kind b 0) ≡ false → wrong_kinds b ≡ true
unfolding wrong_kinds
pass_front b bad = rw (bad, or-true)

-- a first word with which one may begin
pub pass_start : (b : List ℕ) → 0 < words b → may_begin (kind b 0) ≡ true → Passed b (kind b 0) 1
pass_start b l ok = record {
  some = omega arith;
  inside = omega arith;
  first = rw (ne_eqb (words b) 0 (λ e. omega arith), ok);
  none = any_none (wrong_neighbours b);
  last = refl;
}

module _ {b : List ℕ} {before at : ℕ} (p : Passed b before at) where
  -- the last word that is passed and the next one
  here : wrong_neighbours b (at - 1) ≡ not (may_follow before (kind b at))
  here = let next : at - 1 + 1 ≡ at = omega (arith, p.some) in rw (p.last, next)

  -- a word that may follow
  pub pass_on : at < words b → may_follow before (kind b at) ≡ true → Passed b (kind b at) (at + 1)
  pass_on l ok =
      let place : at + 1 - 1 ≡ at = omega arith in
      let next : at - 1 + 1 ≡ at = omega (arith, p.some) in record {
        some = omega arith;
        inside = omega arith;
        first = p.first;
        none = rw (place, ← next) (any_more (wrong_neighbours b) (at - 1) p.none (here ∙ ap not ok));
        last = rw place;
      }

  -- a word that may not
  pub pass_stop : at < words b → may_follow before (kind b at) ≡ false → wrong_kinds b ≡ true
  unfolding wrong_kinds
  pass_stop l bad =
      rw (any_hit (wrong_neighbours b) (at - 1) (words b - 1) (omega (arith, p.some)) (here ∙ ap not bad), or-true)

  -- the end
  pub pass_end : words b ≤ at → not (may_end before) ≡ wrong_kinds b
  unfolding wrong_kinds
  pass_end l =
      let place : words b - 1 ≡ at - 1 = omega (arith, p.inside) in
      rw (place, p.first, p.none, p.last)
