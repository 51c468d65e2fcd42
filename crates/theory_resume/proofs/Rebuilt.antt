-- Queues rebuilt by updates of the keyed arcs are those of the state that a table stands for: from queues without a key, updates leave the own keys asked for
-- and keep each region's key its smallest, and own keys leave no choice for these. So the code that updates an arc serves to rebuild the queues.
use Prim.Native.Nat.{ℕ, suc, ◌+◌, ◌*◌, ◌≤◌, ◌<◌}
use mathlib.Core.Path.{◌≡◌, refl, sym, ◌∙◌}
use mathlib.Core.List.{List}
use native.Mathlib.Nat.{le_refl}
use native.Mathlib.Numerals.{add-one}
use native.Mathlib.Omega.{arith}
use borrow.Author.Tests.{lt-ltb, le-ltb}
use lib.ListN.{length, length-set, get_or-replicate}
use lib.Seq.{ext_get_or, get_or-set_same, get_or-set_other}
use lib.Dec.{ltb, ltb→lt, nltb→le}
use Rattle.indices.specs.Columns.{at}
use Rattle.indices.specs.Steps.{up_to}
use Rattle.indices.proofs.Steps.{if_elim, by_equal, up_to_keeps, set_elim}
use Rattle.sheet.specs.Words.{top}
use Rattle.procedure.specs.Graph.{Graph, arcs}
use Rattle.procedure.specs.Division.{Division, regions}
use Rattle.procedure.specs.State.{Queues}
use Rattle.procedure.specs.Queues.{update_arc}
use Rattle.theory_shortest.specs.WellFormed.{WellFormed}
use Rattle.theory.specs.Sound.{Sized, Valued, Root, no_keys}
use Rattle.theory.proofs.Outgoing.{arc_updated, arc_valued}
use Rattle.theory.proofs.Labels.{few_arcs}
use Rattle.theory.proofs.Start.{root_closed, no_keys_sized, no_keys_valued}
use Rattle.calls.specs.LongTables.{keys_of}
use Rattle.theory_resume.specs.Rebuilt.{rebuilt}
use Rattle.theory_resume.proofs.Keys.{keys_of_length, keys_of_root, keys_of_valued, same_keys}

-- arc by arc
module _ (d : Division) (own : List ℕ) (q : Queues) where
  pub rebuilt_none : rebuilt d own 0 q ≡ q
  unfolding rebuilt up_to
  rebuilt_none = refl

  pub rebuilt_hit : (a : ℕ) → at own a < top → rebuilt d own (a + 1) q ≡ update_arc d a (at own a) (rebuilt d own a q)
  unfolding rebuilt up_to
  rebuilt_hit a low = rw (add-one a, up_to, lt-ltb (at own a) top low)

  pub rebuilt_miss : (a : ℕ) → at own a ≡ top → rebuilt d own (a + 1) q ≡ rebuilt d own a q
  unfolding rebuilt up_to
  rebuilt_miss a none = rw (add-one a, up_to, le-ltb (at own a) top (omega arith))

-- the first n of m arcs have their own keys, the others none
record Rebuilding (m : ℕ) (d : Division) (own : List ℕ) (n : ℕ) (q : Queues) : Type 0 where
  sized : Sized m d q
  valued : Valued d Root q
  done : (a : ℕ) → a < n → at q.own a ≡ at own a
  ahead : (a : ℕ) → n ≤ a → a < m → at q.own a ≡ top
  few : q.updates ≤ n * regions d

module _ {most : ℕ} {g : Graph} {d : Division} {spans : List ℕ} (ok : WellFormed most g d spans) (own : List ℕ)
    (all : length own ≡ arcs g) (capped : (a : ℕ) → a < arcs g → at own a ≤ top) where
  rebuilding_none : Rebuilding (arcs g) d own 0 (no_keys g d)
  rebuilding_none = record {
    sized = no_keys_sized ok;
    valued = no_keys_valued ok;
    done = λ a l. absurd (omega arith);
    ahead = λ a _ la. get_or-replicate (arcs g) a top 0 la;
    few = omega arith;
  }

  -- a keyed arc is updated
  rebuilding_hit : (a : ℕ) (q : Queues) → a < arcs g → at own a < top → Rebuilding (arcs g) d own a q
      → Rebuilding (arcs g) d own (suc a) (update_arc d a (at own a) q)
  rebuilding_hit a q la low p =
      let k = at own a in
      let z = p.sized in
      let u = arc_updated d g.tails ok.division (few_arcs ok) a k q la in
      let inside : a < length q.own = rw z.own la in
      let none = p.ahead a (le_refl a) la in
      record {
        sized = record {
          own = rw u.own (length-set q.own a k ∙ z.own);
          keys = u.keys ∙ z.keys;
          root = u.root ∙ z.root;
          capped = λ b lb. rw u.own (set_elim (λ (x : ℕ). x ≤ top) q.own a b k 0 inside (λ _. capped a la) (λ _. z.capped b lb));
        };
        valued = arc_valued d g.tails ok.division (few_arcs ok) Root (root_closed d) a k q la z (omega arith) p.valued;
        done = λ b l. rw u.own (by_equal b a
            (λ e. rw e (get_or-set_same q.own a k 0 inside)) (λ n. get_or-set_other q.own a b k 0 n ∙ p.done b (omega arith)));
        ahead = λ b l lb. rw u.own (get_or-set_other q.own a b k 0 (λ e. omega arith) ∙ p.ahead b (omega arith) lb);
        few = omega (arith, u.few, p.few);
      }

  -- a keyless one is passed
  rebuilding_miss : (a : ℕ) (q : Queues) → a < arcs g → top ≤ at own a → Rebuilding (arcs g) d own a q → Rebuilding (arcs g) d own (suc a) q
  rebuilding_miss a q la high p = record {
    sized = p.sized;
    valued = p.valued;
    done = λ b l. by_equal b a (λ e. rw e (omega (arith, p.ahead a (le_refl a) la, capped a la))) (λ n. p.done b (omega arith));
    ahead = λ b l lb. p.ahead b (omega arith) lb;
    few = omega (arith, p.few);
  }

  rebuilding : (n : ℕ) → n ≤ arcs g → Rebuilding (arcs g) d own n (rebuilt d own n (no_keys g d))
  unfolding rebuilt
  rebuilding n l =
      up_to_keeps (λ n q. Rebuilding (arcs g) d own n q) _ (no_keys g d) n rebuilding_none
      (λ a q la p. let inside : a < arcs g = omega arith in if_elim (λ (q : Queues). Rebuilding (arcs g) d own (suc a) q) (ltb (at own a) top)
      (λ t. rebuilding_hit a q inside (ltb→lt (at own a) top t) p) (λ t. rebuilding_miss a q inside (nltb→le (at own a) top t) p))

  abbrev whole : Queues
  whole = rebuilt d own (arcs g) (no_keys g d)

  -- the own keys are those asked for
  pub rebuilt_own : whole.own ≡ own
  rebuilt_own =
      let p = rebuilding (arcs g) (le_refl (arcs g)) in
      ext_get_or 0 whole.own own (p.sized.own ∙ sym all) (λ a l. p.done a (omega (arith, p.sized.own)))

  -- and the keys are the regions' smallest
  pub rebuilt_keys : whole.keys ≡ keys_of d own
  rebuilt_keys =
      let p = rebuilding (arcs g) (le_refl (arcs g)) in
      let q : Queues = record { own = own; keys = keys_of d own; updates = 0 } in
      same_keys ok.division q whole rebuilt_own (keys_of_valued ok.division own 0) p.valued
      (p.sized.root ∙ sym (keys_of_root ok.division own)) (keys_of_length ok.division own) p.sized.keys

  -- the updates made for it so far are few; they are not counted
  pub rebuilt_few : (n : ℕ) → n ≤ arcs g → (rebuilt d own n (no_keys g d)).updates ≤ n * regions d
  rebuilt_few n l = (rebuilding n l).few
