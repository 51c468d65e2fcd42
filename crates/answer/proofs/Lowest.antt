-- The lowest refusal that applies: lists of cases one after the other, a list of which none applies, a test that applies less often, one that stands twice.
use Prim.Native.Nat.{ℕ}
use mathlib.Core.Bool.{Bool, false, cond}
use mathlib.Core.List.{List, [], ◌∷◌, ◌++◌}
use mathlib.Core.Logic.{◌≢◌}
use mathlib.Core.Path.{◌≡◌, refl, ap}
use native.Mathlib.Omega.{arith}
use lib.Dec.{eqb}
use Rattle.indices.proofs.Steps.{by_truth}
use Rattle.answer.specs.Answer.{Refusal, number_of, Answer, accepted, refused, Case, ◌when◌, lowest}

-- the cases of the second list are looked at where none of the first applies
pub lowest_append : (xs ys : List Case) (answer : Answer) → lowest (xs ++ ys) answer ≡ lowest xs (lowest ys answer)
lowest_append [] ys answer = refl
lowest_append (x ∷ xs) ys answer = ap (λ (a : Answer). cond x.applies (refused x.refusal) a) (lowest_append xs ys answer)

pub refused≢accepted : (r : Refusal) → refused r ≡ accepted → ⊥
refused≢accepted r e = let z : ◌≡◌ {A = ℕ} 0 1 = cc in omega arith

-- where no case applies, the answer is what follows
pub lowest_clear : (xs : List Case) (answer : Answer) → lowest xs accepted ≡ accepted → lowest xs answer ≡ answer
lowest_clear [] answer e = refl
lowest_clear (x ∷ xs) answer e =
    by_truth x.applies (λ h. absurd (refused≢accepted x.refusal (rw h at e))) (λ h. rw h (lowest_clear xs answer (rw h at e)))

-- where a case applies, what would follow does not matter
pub lowest_stop : (xs : List Case) (answer : Answer) (r : Refusal) → lowest xs accepted ≡ refused r → lowest xs answer ≡ refused r
lowest_stop [] answer r e = let z : ◌≡◌ {A = ℕ} 0 1 = cc in absurd (omega arith)
lowest_stop (x ∷ xs) answer r e = by_truth x.applies (λ h. rw h (rw h at e)) (λ h. rw h (lowest_stop xs answer r (rw h at e)))

-- a case whose test applies less often changes no answer but the one that it gave
pub lowest_less : (ys : List Case) (r : Refusal) {more less : Bool} → (more ≡ false → less ≡ false) → (answer : Answer) (xs : List Case)
    → lowest (xs ++ (r when more ∷ ys)) accepted ≢ refused r → lowest (xs ++ (r when less ∷ ys)) answer ≡ lowest (xs ++ (r when more ∷ ys)) answer
lowest_less ys r {more} off answer [] other = by_truth more (λ h. absurd (other (rw h))) (λ h. rw (h, off h))
lowest_less ys r off answer (x ∷ xs) other = by_truth x.applies (λ h. rw h) (λ h. rw h (lowest_less ys r off answer xs (rw h at other)))

-- a case right after one with the same test is never the lowest
pub lowest_twice : (ys : List Case) (r r' : Refusal) (test : Bool) (answer : Answer) (xs : List Case)
    → lowest (xs ++ (r when test ∷ r' when test ∷ ys)) answer ≡ lowest (xs ++ (r when test ∷ ys)) answer
lowest_twice ys r r' test answer [] = by_truth test (λ h. rw h) (λ h. rw h)
lowest_twice ys r r' test answer (x ∷ xs) = ap (λ (a : Answer). cond x.applies (refused x.refusal) a) (lowest_twice ys r r' test answer xs)

-- the test of refusal n in a list, or false where the list has no such number
abbrev pub test_of : List Case → ℕ → Bool
test_of [] n = false
test_of (x ∷ xs) n = cond (eqb (number_of x.refusal) n) x.applies (test_of xs n)

-- of a list that refuses nothing, refusal n does not apply; at a written list and number its test is what it computes to
pub clear_of : (xs : List Case) → lowest xs accepted ≡ accepted → (n : ℕ) → test_of xs n ≡ false
clear_of [] e n = refl
clear_of (x ∷ xs) e n =
    by_truth x.applies
    (λ h. absurd (refused≢accepted x.refusal (rw h at e)))
    (λ h. by_truth (eqb (number_of x.refusal) n) (λ this. rw this h) (λ other. rw other (clear_of xs (rw h at e) n)))
