-- What is claimed of the canonical form of every accepted sheet. Sheets of one canonical form agree in the words of kinds 1 to 5 and 13, so in those of the
-- hall, and tables of one hall agree in their distances; they need not agree in more.
use Prim.Native.Nat.{ℕ}
use mathlib.Core.Bool.{Bool, true, ◌&&◌, ◌||◌}
use mathlib.Core.Path.{◌≡◌, refl, sym, ap, ◌∙◌}
use mathlib.Core.List.{List, [], ◌∷◌}
use mathlib.Core.Logic.{◌≢◌}
use native.Mathlib.Omega.{arith}
use borrow.Author.Tests.{eqb-true}
use lib.Dec.{leb, eqb}
use Rattle.indices.specs.Columns.{column, passing}
use Rattle.indices.proofs.Steps.{by_truth}
use Rattle.sheet.specs.Words.{words, word, kind_of, bytes_of}
use Rattle.sheet.proofs.Samples.{hall_a}
use Rattle.judgement.specs.Judgement.{Accepted}
use Rattle.procedure.specs.Procedure.{enough_rounds}
use Rattle.canonical_form.specs.Canonical.{canonical}
use Rattle.canonical_form.specs.Alike.{is_shared, shared_words}
use Rattle.canonical_form.proofs.Accepted.{canonical_accepted}
use Rattle.canonical_form.proofs.Canonical.{canonical_same, canonical_stable, canonical_numbered}
use Rattle.canonical_form.proofs.Cases.{renumbered, tied, tied_renumbered, cases}
use Rattle.canonical_form.proofs.Form.{canonical_length}
use Rattle.calls.specs.Tables.{rounds_in, predecessor_in}
use Rattle.calls.specs.Runs.{run_table}
use Rattle.calls.specs.Halls.{of_hall, hall_words}
use Rattle.calls.specs.Canonical.{Copies}
use Rattle.calls.proofs.Canonical.{too_short, has_room}
use Rattle.theory_calls.proofs.Correct.{correct}
use Rattle.theory_calls.proofs.Marked.{ties}

-- THE WORDS OF THE HALL are among those of kinds 1 to 5 and 13
of_kinds : (k : ℕ) → eqb k 1 || eqb k 2 || eqb k 4 || eqb k 5 || eqb k 13 ≡ true → (leb 1 k && leb k 5) || eqb k 13 ≡ true
of_kinds k h =
    by_truth (eqb k 1) (is 1 refl)
    (λ n1. by_truth (eqb k 2) (is 2 refl)
    (λ n2. by_truth (eqb k 4) (is 4 refl)
    (λ n4. by_truth (eqb k 5) (is 5 refl) (λ n5. is 13 refl (rw (n1, n2, n4, n5) at h)))))
  where
    is : (j : ℕ) → (leb 1 j && leb j 5) || eqb j 13 ≡ true → eqb k j ≡ true → (leb 1 k && leb k 5) || eqb k 13 ≡ true
    is j here e = ap (λ (n : ℕ). (leb 1 n && leb n 5) || eqb n 13) (eqb-true k j e) ∙ here

-- what passes p passes q: of those that pass q the same pass p
passing_within : (p q : ℕ → Bool) → ((x : ℕ) → p x ≡ true → q x ≡ true) → (xs : List ℕ) → passing p (passing q xs) ≡ passing p xs
unfolding passing
passing_within p q within [] = refl
passing_within p q within (x ∷ xs) =
    let rest = passing_within p q within xs in
    by_truth (p x)
    (λ yes-p. rw (within x yes-p, yes-p) (ap (λ (l : List ℕ). x ∷ l) rest))
    (λ no-p. by_truth (q x) (λ yes-q. rw (yes-q, no-p) rest) (λ no-q. rw (no-q, no-p) rest))

hall_shared : (b : List ℕ) → hall_words b ≡ passing of_hall (shared_words b)
unfolding hall_words shared_words
hall_shared b = sym (passing_within of_hall is_shared (λ w. of_kinds (kind_of w)) (column (words b) (word b)))

-- THE CLAIMS
pub copies : (b : List ℕ) → Accepted b → Copies b
copies b ok = record {
  long = canonical_length b ok;
  leaves = λ out. has_room b out ok;
  short = λ out. too_short b out ok;
  numbered = canonical_numbered b ok;
  accepted = canonical_accepted b ok;
  own = canonical_stable b ok;
  exactly = λ b' ok'. canonical_same b b' ok ok';
  distances = λ b' ok' form.
      let alike = (canonical_same b b' ok ok').0 form in
      (correct b ok).agrees b' ok' (hall_shared b ∙ ap (passing of_hall) alike.shared ∙ sym (hall_shared b'));
}

-- Two accepted sheets of one canonical form: the tables that their runs to the end leave differ in a figure.
pub record TwoTables (figure : List ℕ → ℕ) (b b' : List ℕ) : Type 0 where
  pub accepted : Accepted b
  pub accepted' : Accepted b'
  pub form : canonical b ≡ canonical b'
  pub figures : figure (run_table b enough_rounds) ≢ figure (run_table b' enough_rounds)

-- Hall A, and hall A with the numbers of its two inner regions exchanged: both regions have height 1 and begin with key 0, the tie goes to the lower number,
-- and one run ends after three rounds, the other after two.
pub two_tables : TwoTables rounds_in (bytes_of hall_a) (bytes_of renumbered)
two_tables = record {
  accepted = ties.hall_a_accepted;
  accepted' = ties.renumbered_accepted;
  form = cases.hall_a_lem ∙ sym cases.other_numbers_lem;
  figures = λ same. omega (arith, ties.rounds, ties.rounds_renumbered);
}

-- With arc 0 shortened to the length of the way by node 2, node 1 is fed by one arc in the one, by another in the other.
pub two_feeding_arcs : TwoTables (λ table. predecessor_in table 1) (bytes_of tied) (bytes_of tied_renumbered)
two_feeding_arcs = record {
  accepted = ties.tied_accepted;
  accepted' = ties.tied_renumbered_accepted;
  form = cases.other_numbers_tied;
  figures = λ same. omega (arith, ties.feeding, ties.feeding_renumbered);
}
