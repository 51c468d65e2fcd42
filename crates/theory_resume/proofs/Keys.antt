-- The keys that `keys_of` builds are the regions' smallest, and no others are: from the last region back, each region's key is settled by its children's.
use Prim.Native.Nat.{ℕ, zero, suc, pred, ◌+◌, ◌-◌, ◌≤◌, ◌<◌}
use mathlib.Core.Path.{◌≡◌, refl, sym, ◌∙◌}
use mathlib.Core.List.{List}
use native.Mathlib.Omega.{arith}
use lib.ListN.{length, set, replicate, length-set, length-replicate, get_or-replicate}
use lib.Seq.{ext_get_or, get_or-set_same, get_or-set_other}
use Rattle.indices.specs.Columns.{at}
use Rattle.indices.proofs.Steps.{by_equal, up_to_keeps}
use Rattle.sheet.specs.Words.{top}
use Rattle.procedure.specs.Division.{Division, regions}
use Rattle.procedure.specs.State.{Queues}
use Rattle.procedure.specs.Queues.{min_key}
use Rattle.theory_shortest.specs.WellFormed.{DivisionOk}
use Rattle.theory.specs.Sound.{Valued, Root}
use Rattle.theory.proofs.Chosen.{min_key_same, min_key_keys}
use Rattle.calls.specs.LongTables.{keys_of}

-- the queues with these keys
abbrev queues_of : List ℕ → List ℕ → Queues
queues_of own keys = record { own = own; keys = keys; updates = 0 }

-- the keys of the regions above n are their smallest
record Filled (d : Division) (own : List ℕ) (n : ℕ) (keys : List ℕ) : Type 0 where
  all : length keys ≡ regions d
  root : at keys 0 ≡ top
  filled : (r : ℕ) → n < r → r < regions d → at keys r ≡ min_key d (queues_of own keys) r

module _ {m : ℕ} {d : Division} (ok : DivisionOk m d) where
  -- region r's key is written once those above it are
  fill_one : (own : List ℕ) (r : ℕ) (keys : List ℕ) → 0 < r → r < regions d → Filled d own r keys
      → Filled d own (pred r) (set keys r (min_key d (queues_of own keys) r))
  fill_one own r keys pos lr f =
      let q = queues_of own keys in
      let k = min_key d q r in
      let down = ok.nesting.lower r pos lr in
      record {
        all = length-set keys r k ∙ f.all;
        root = get_or-set_other keys r 0 k 0 (λ e. omega arith) ∙ f.root;
        filled = λ y l ly. by_equal y r
            (λ e. rw e (get_or-set_same keys r k 0 (rw f.all lr) ∙ sym (min_key_keys d q r r k 0 (λ w. omega arith))))
            (λ n. get_or-set_other keys r y k 0 n ∙ f.filled y (omega arith) ly ∙ sym (min_key_keys d q y r k 0 (λ w. omega arith)));
      }

  keys_of_filled : (own : List ℕ) → Filled d own 0 (keys_of d own)
  unfolding keys_of
  keys_of_filled own =
      let last = pred (regions d) in
      let some = ok.nesting.root in
      let f = up_to_keeps (λ i keys. Filled d own (last - i) keys)
      (λ i keys. set keys (last - i) (min_key d (queues_of own keys) (last - i))) (replicate (regions d) top) last
      (record {
        all = length-replicate (regions d) top;
        root = get_or-replicate (regions d) 0 top 0 some;
        filled = λ r l lr. absurd (omega arith);
      })
      (λ i keys l f. let e : last - suc i ≡ pred (last - i) = omega arith in rw e (fill_one own (last - i) keys (omega arith) (omega arith) f)) in
      let none : last - last ≡ 0 = omega arith in
      rw none at f

  pub keys_of_length : (own : List ℕ) → length (keys_of d own) ≡ regions d
  keys_of_length own = (keys_of_filled own).all

  pub keys_of_root : (own : List ℕ) → at (keys_of d own) 0 ≡ top
  keys_of_root own = (keys_of_filled own).root

  -- "an inner region's keys its children's smallest"
  pub keys_of_valued : (own : List ℕ) (u : ℕ) → Valued d Root (record { own = own; keys = keys_of d own; updates = u })
  keys_of_valued own u r pos lr out = (keys_of_filled own).filled r pos lr ∙ min_key_same d _ _ r (λ _. refl) (λ c h. refl)

  -- Own keys and the key of region 0 leave no choice for the others.
  module _ (q q' : Queues) (own : q'.own ≡ q.own) (v : Valued d Root q) (v' : Valued d Root q') (root : at q'.keys 0 ≡ at q.keys 0) where
    same_key : (n r : ℕ) → regions d ≤ r + n → r < regions d → at q'.keys r ≡ at q.keys r
    same_key zero r l lr = absurd (omega arith)
    same_key (suc n) r l lr =
        by_equal r 0 (λ e. rw e root)
        (λ e.
        let pos : 0 < r = omega arith in
        v' r pos lr e
        ∙ min_key_same d q q' r (λ _. rw own)
        (λ c h. same_key n c (omega (arith, ok.nesting.lower c h.positive h.in_range, h.under)) h.in_range)
        ∙ sym (v r pos lr e))

    pub same_keys : length q.keys ≡ regions d → length q'.keys ≡ regions d → q'.keys ≡ q.keys
    same_keys e e' =
        ext_get_or 0 q'.keys q.keys (e' ∙ sym e) (λ r l. same_key (regions d) r (omega arith) (omega (arith, e')))
