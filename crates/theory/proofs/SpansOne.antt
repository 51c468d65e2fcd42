-- Where every span is 1, a round works one leaf, and it has the smallest key of all, as in Dijkstra's procedure: on the way down to it no key changes, and on
-- the way up neither labels nor own keys do.
use Prim.Native.Nat.{ℕ, zero, suc, pred, ◌≤◌, ◌<◌}
use mathlib.Core.Bool.{Bool, true, false}
use mathlib.Core.Path.{◌≡◌, refl, ap, subst, ◌∙◌}
use mathlib.Core.Logic.{◌≢◌, ◌⊎◌, inl, inr}
use mathlib.Core.List.{List}
use native.Mathlib.Numerals.{add-one}
use native.Mathlib.Omega.{arith}
use lib.ListN.{length}
use Rattle.indices.specs.Columns.{at}
use Rattle.indices.specs.Steps.{times}
use Rattle.indices.proofs.Steps.{by_order, by_truth, times_on, times_none}
use Rattle.sheet.specs.Words.{top}
use Rattle.procedure.specs.Graph.{Graph, arcs}
use Rattle.procedure.specs.Division.{Division, regions, arc_of, is_leaf, height}
use Rattle.procedure.specs.State.{State}
use Rattle.procedure.specs.Queues.{min_item, min_key}
use Rattle.procedure.specs.Procedure.{process_leaf, rewrite_key, count_at, count_inner, count_round}
use Rattle.procedure.specs.Procedure.{process_child, alive, ended, process, start, round, after, round_by}
use Rattle.theory_shortest.specs.WellFormed.{WellFormed}
use Rattle.theory_shortest.specs.Work.{RoundEach}
use Rattle.theory.specs.Work.{WorkedLeast, WorksLeast}
use Rattle.theory.proofs.Chosen.{chosen_of_key}
use Rattle.theory.proofs.Process.{recounted, leaf_recounted, key_alive, running_key, chosen_lower, process_leaf_lem, process_inner_lem}
use Rattle.theory.proofs.Grows.{leaf_counts}
use Rattle.theory.proofs.Lift.{span_there}
use Rattle.theory.proofs.Final.{after_shape, after_sound, next_round, ended_stays, after_each}
use Rattle.theory.proofs.Scanned.{scanned, scanned_keyless, InOrder, leaf_in_order, leaf_scans}
use Rattle.theory.proofs.Next.{Next, leaf_keyed, leaf_least, child_next, start_in_order, root_next, ended_leaves}

module _ (g : Graph) (d : Division) (rounds : ℕ → ℕ) (inner : List ℕ → List ℕ) where
  -- what the working of a leaf makes under other figures for rounds and inner regions, it makes under these
  works_recounted : {labels predecessors own : List ℕ} {leaves now said : ℕ} (s : State)
      → WorkedLeast g d (recounted rounds inner s) said labels predecessors own leaves now → WorkedLeast g d s said labels predecessors own leaves now
  works_recounted s w =
      let same = leaf_recounted g d rounds inner w.region s in
      record {
        region = w.region;
        in_range = w.in_range;
        leaf = w.leaf;
        keyed = w.keyed;
        least = w.least;
        labels = w.labels ∙ ap (λ (u : State). u.labels) same;
        predecessors = w.predecessors ∙ ap (λ (u : State). u.predecessors) same;
        own = w.own ∙ ap (λ (u : State). u.queues.own) same;
        leaves = w.leaves ∙ ap (λ (u : State). u.leaves) same;
        counted = w.counted;
      }

module _ {most : ℕ} {g : Graph} {d : Division} {spans : List ℕ} (ok : WellFormed most g d spans) (one : (i : ℕ) → i < length spans → at spans i ≡ 1) where
  -- an inner region hands the turn to its first-chosen child, once
  process_once : (r : ℕ) (s : State) → r < regions d → is_leaf d r ≡ false → min_key d s.queues r < top
      → process g d spans r s ≡ process_child g d (process g d spans) r (count_inner g d r s)
  unfolding count_at count_inner
  process_once r s lr inner live =
      let step = process_child g d (process g d spans) r in
      let counted = count_inner g d r s in
      process_inner_lem g d spans ok.division r s lr inner
      ∙ ap (λ (n : ℕ). times n (alive g d r) step counted) (one (pred (height d r)) (span_there ok r lr inner))
      ∙ times_on (alive g d r) step 0 counted (key_alive g d counted r live)
      ∙ times_none (alive g d r) step (step counted)

  -- the next region, if it is a leaf
  leaf_works : (r : ℕ) (s : State) → r < regions d → is_leaf d r ≡ true → Next g d r s → WorksLeast g d s.rounds s (process_leaf g d r s)
  leaf_works r s lr leaf p = record {
    region = r;
    in_range = lr;
    leaf = leaf;
    keyed = leaf_keyed ok r s leaf p;
    least = leaf_least ok r s leaf p;
    labels = refl;
    predecessors = refl;
    own = refl;
    leaves = refl;
    counted = (leaf_counts g d r s).1;
  }

  -- `go` works the leaf of the smallest key at a next region lower than r
  abbrev WorksBelow : ℕ → (ℕ → State → State) → Type 0
  WorksBelow r go = (c : ℕ) (s : State) → c < regions d → height d c < height d r → Next g d c s → WorksLeast g d s.rounds s (go c s)

  -- so does the turn of the next region r, which is its first-chosen child's
  child_works : (r : ℕ) (s : State) (go : ℕ → State → State) → is_leaf d r ≡ false → Next g d r s → WorksBelow r go
      → WorksLeast g d s.rounds s (process_child g d go r s)
  unfolding process_child rewrite_key
  child_works r s go inner p below =
      let x = chosen_of_key d s.queues r inner p.keyed in
      below (min_item d s.queues.keys r) s x.child.in_range (chosen_lower ok.division s r x) (child_next ok r s inner p)

  -- THE INDUCTION OVER PROCESSING: the processing of the next region
  process_works : (n r : ℕ) (s : State) → r < regions d → height d r < n → Next g d r s → WorksLeast g d s.rounds s (process g d spans r s)
  unfolding count_at count_inner
  process_works zero r s lr ln p = absurd (omega arith)
  process_works (suc n) r s lr ln p =
      by_truth (is_leaf d r)
      (λ leaf. rw (process_leaf_lem g d spans r s leaf) (leaf_works r s lr leaf p))
      (λ inner. rw (process_once r s lr inner p.keyed)
      (works_recounted g d (λ n. n) (λ _. (count_inner g d r s).inner) s
      (child_works r (count_inner g d r s) (process g d spans) inner p (λ c t lc lower q. process_works n c t lc (omega arith) q))))

  -- a round works the leaf of the smallest key
  round_works : (s : State) → Next g d 0 s → WorksLeast g d (suc s.rounds) s (round g d spans s)
  unfolding round_by count_round
  round_works s p =
      works_recounted g d suc (λ counts. counts) s
      (process_works (suc (height d 0)) 0 (count_round g d s) ok.division.nesting.root (omega arith) p)

  works_in_order : {now : ℕ} (s t : State) → WorksLeast g d now s t → Next g d 0 s → InOrder g t
  works_in_order s t w p =
      rw (w.labels, w.own, w.leaves)
      (leaf_in_order ok w.region s w.in_range w.leaf w.keyed p.shape p.sound w.least p.in_order_lem)

  -- after any number of rounds the arcs were scanned in order, and as many leaves as rounds were worked
  after_one : (k : ℕ) → InOrder g (after g d spans k) × ((after g d spans k).rounds ≡ (after g d spans k).leaves)
  unfolding start
  after_one =
      after_each g d spans (λ s. InOrder g s × (s.rounds ≡ s.leaves)) (start_in_order ok, refl)
      (λ k live p.
      let s = after g d spans k in
      let next = root_next ok k live p.0 in
      let w = round_works s next in
      (works_in_order s (round g d spans s) w next, omega (arith, w.counted, w.leaves, (leaf_counts g d w.region s).0, p.1)))

  -- round k + 1 works one leaf, which has the smallest key of all
  abbrev RoundWorks : ℕ → Type 0
  RoundWorks k = WorksLeast g d (suc (after g d spans k).rounds) (after g d spans k) (after g d spans (suc k))

  -- where all spans are 1, every round does
  pub rounds_work_least : (k : ℕ) → ended g d (after g d spans k) ≡ false → RoundWorks k
  rounds_work_least k on =
      let s = after g d spans k in
      rw (← add-one k, next_round g d spans k on) (round_works s (root_next ok k (running_key g d s (rw on tt)) (after_one k).0))

  -- THE LEAVES worked in two rounds are two leaves
  abbrev scanned_after : ℕ → ℕ → Bool
  scanned_after k b = scanned g (after g d spans k).labels (after g d spans k).queues.own b

  -- a round scans the arc of its leaf, and keeps what was scanned
  round_scans : (k : ℕ) (w : RoundWorks k) (b : ℕ) → b < arcs g → (b ≡ arc_of d w.region) ⊎ (scanned_after k b ≡ true) → scanned_after (suc k) b ≡ true
  round_scans k w b lb c =
      let s = after g d spans k in
      rw (w.labels, w.own)
      (leaf_scans ok w.region s w.in_range w.leaf w.keyed (after_shape ok k) (after_sound ok k) w.least (after_one k).0 b lb c)

  stays_scanned : (k m b : ℕ) → k ≤ m → b < arcs g → scanned_after k b ≡ true → scanned_after m b ≡ true
  stays_scanned k zero b l lb was = subst (λ (n : ℕ). scanned_after n b ≡ true) (let e : k ≡ 0 = omega arith in e) was
  stays_scanned k (suc m) b l lb was =
      by_order m k
      (λ last. subst (λ (n : ℕ). scanned_after n b ≡ true) (let e : k ≡ suc m = omega arith in e) was)
      (λ earlier.
      let now = stays_scanned k m b earlier lb was in
      by_truth (ended g d (after g d spans m)) (λ over. rw (ended_stays g d spans m (suc m) over (omega arith)) now)
      (λ on. round_scans m (rounds_work_least m on) b lb (inr now)))

  -- whatever leaves account for rounds k + 1 and m + 1, they differ
  pub rounds_differ : (k m : ℕ) → k < m → (w : RoundWorks k) (w' : RoundWorks m) → w.region ≢ w'.region
  rounds_differ k m l w w' same =
      let a = arc_of d w.region in
      let la = (ok.division.leaf_arc_lem w.region w.in_range w.leaf).0 in
      let was = stays_scanned (suc k) m a (omega arith) la (round_scans k w a la (inl refl)) in
      omega (
        arith,
        scanned_keyless g (after g d spans m).labels (after g d spans m).queues.own a was,
        ap (λ (r : ℕ). at (after g d spans m).queues.own (arc_of d r)) same,
        w'.keyed,
      )

  -- so an ended run has worked as many leaves as there are arcs with a reached tail, a round for each
  pub spans_one_work : (k : ℕ) → ended g d (after g d spans k) ≡ true
      → RoundEach g (after g d spans k).labels (after g d spans k).rounds (after g d spans k).leaves
  spans_one_work k e = record { each_once = ended_leaves ok k e (after_one k).0; each_round = (after_one k).1 }
