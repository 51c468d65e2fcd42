-- How a change is read off two tables: lengthened, each distance is between the old one and the old one with the change; the same two tables, the other way
-- round, are those of a shortening; and where nothing is changed nothing moves, as with a hold of the source. How the claim and the bound are read, and how
-- sheets are made that differ in one word.
use Prim.Native.Nat.{ℕ, suc, ◌+◌, ◌-◌, ◌≤◌, ◌<◌}
use mathlib.Core.Path.{◌≡◌, sym, ◌∙◌}
use mathlib.Core.Logic.{◌≢◌}
use mathlib.Core.List.{List, [], ◌∷◌}
use native.Mathlib.Omega.{arith}
use lib.ListN.{length, set, length-set}
use lib.Seq.{get_or-set_other}
use Rattle.indices.specs.Columns.{at}
use Rattle.sheet.specs.Limits.{most_length}
use Rattle.sheet.specs.Words.{word, bytes_of}
use Rattle.sheet.specs.Sections.{node_count, source, hold_count, arc_count}
use Rattle.sheet.specs.Arcs.{tail, arc_length, hold}
use Rattle.sheet.proofs.Bytes.{length_bytes, word_bytes}
use Rattle.answer.specs.Answer.{ended}
use Rattle.procedure.specs.Travel.{between}
use Rattle.calls.specs.Tables.{label_in}
use Rattle.calls.specs.Runs.{run_answer, table_after}
use Rattle.calls.specs.Routes.{ShortestTable, route_to}
use Rattle.calls.specs.Sensitivity.{SameButWord, length_word, hold_word, OtherLength, OtherHold, apart, Moved, Each, Sensitivity}
use Rattle.calls.specs.Sensitivity.{LengthBound, HoldBound, LeastBound}

module _ {before after : ℕ} {b table b' table' : List ℕ} (m : Moved before after b table b' table') where
  pub between_old_and_change : before ≤ after → (v : ℕ) → v < node_count b
      → (label_in table v ≤ label_in table' v) × (label_in table' v ≤ label_in table v + (after - before))
  between_old_and_change up v l = (m.none_down up v l, omega (arith, m.no_farther v l, m.none_down up v l))

  pub moved_back : Moved after before b' table' b table
  moved_back =
      let here : (v : ℕ) → v < node_count b' → v < node_count b = λ v l. rw m.nodes l in
      record {
        nodes = sym m.nodes;
        unreached = λ v l. let both = m.unreached v (here v l) in (both.1, both.0);
        no_farther = λ v l. omega (arith, m.no_farther v (here v l));
        none_down = λ up v l. m.none_up up v (here v l);
        none_up = λ down v l. m.none_down down v (here v l);
      }

-- no change, no distance moves
pub unmoved : {c : ℕ} {b table b' table' : List ℕ} → Moved c c b table b' table' → (v : ℕ) → v < node_count b → label_in table v ≡ label_in table' v
unmoved m v l = omega (arith, m.no_farther v l)

-- what holds of each entry by its index
each_entry : (P : ℕ → Type 0) (xs : List ℕ) → ((i : ℕ) → i < length xs → P (at xs i)) → Each P xs
unfolding Each
each_entry P [] all = tt
each_entry P (x ∷ xs) all = (all 0 (omega arith), each_entry P xs (λ i l. all (suc i) (omega arith)))

-- THE CLAIM
module _ {b b' : List ℕ} (s : Sensitivity b b') where
  -- from the words of two sheets to the tables that their runs leave as ended
  pub one_length : (a : ℕ) → a < arc_count b → SameButWord (length_word b a) b b' → (k k' : ℕ) (lent lent' : List ℕ) → run_answer b k lent ≡ ended
      → run_answer b' k' lent' ≡ ended → Moved (arc_length b a) (arc_length b' a) b (table_after b k lent) b' (table_after b' k' lent')
  one_length a l same k k' lent lent' e e' = (s.other_length a (s.length_word_lem a l same)).runs k k' lent lent' e e'

  pub one_hold : (v : ℕ) → v < hold_count b → SameButWord (hold_word b v) b b' → (k k' : ℕ) (lent lent' : List ℕ) → run_answer b k lent ≡ ended
      → run_answer b' k' lent' ≡ ended → Moved (hold b v) (hold b' v) b (table_after b k lent) b' (table_after b' k' lent')
  one_hold v l same k k' lent lent' e e' = (s.other_hold v (s.hold_word_lem v l same)).runs k k' lent lent' e e'

  -- a hold of the source, and one where no arc leaves
  pub source_unmoved : OtherHold (source b) b b' → (table table' : List ℕ) → ShortestTable b table → ShortestTable b' table' → (v : ℕ) → v < node_count b
      → label_in table v ≡ label_in table' v
  source_unmoved other table table' shortest shortest' = unmoved ((s.source_hold other).shortest table table' shortest shortest')

  pub end_unmoved : (u : ℕ) → ((a : ℕ) → a < arc_count b → tail b a ≢ u) → OtherHold u b b' → (table table' : List ℕ) → ShortestTable b table
      → ShortestTable b' table' → (v : ℕ) → v < node_count b → label_in table v ≡ label_in table' v
  end_unmoved u none other table table' shortest shortest' = unmoved ((s.end_hold u none other).shortest table table' shortest shortest')

  -- entry by entry of the way: no arc is the one lengthened; no node between is the one held
  pub length_kept : (a : ℕ) → OtherLength a b b' → arc_length b a ≤ arc_length b' a → (table table' : List ℕ) → ShortestTable b table → ShortestTable b' table'
      → (v : ℕ) → v < node_count b → let way = route_to b table v in ((i : ℕ) → i < length way → at way i ≢ a) → label_in table v ≡ label_in table' v
  length_kept a other up table table' shortest shortest' v l none =
      (s.length_keeps a other up).shortest table table' shortest shortest' v l (each_entry (λ y. y ≢ a) (route_to b table v) none)

  pub hold_kept : (u : ℕ) → OtherHold u b b' → hold b u ≤ hold b' u → (table table' : List ℕ) → ShortestTable b table → ShortestTable b' table' → (v : ℕ)
      → v < node_count b → let nodes = between b (route_to b table v) in ((i : ℕ) → i < length nodes → at nodes i ≢ u) → label_in table v ≡ label_in table' v
  hold_kept u other up table table' shortest shortest' v l none =
      (s.hold_keeps u other up).shortest table table' shortest shortest' v l (each_entry (λ y. y ≢ u) (between b (route_to b table v)) none)

-- THE BOUND cannot be bettered: none is below the change anywhere
module _ (best : LeastBound) (bound : ℕ → ℕ → ℕ) (m n : ℕ) (lm : m ≤ most_length) (ln : n ≤ most_length) (better : bound m n < apart m n) where
  pub no_better_length : LengthBound bound → ⊥
  no_better_length is = omega (arith, best.least_length bound is m n lm ln)

  pub no_better_hold : HoldBound bound → ⊥
  no_better_hold is = omega (arith, best.least_hold bound is m n lm ln)

-- SHEETS that are made of the same words but word i
pub same_but_one : (i w w' : ℕ) (ws : List ℕ) → SameButWord i (bytes_of (set ws i w)) (bytes_of (set ws i w'))
same_but_one i w w' ws = record {
  size = omega (arith, length_bytes (set ws i w), length_bytes (set ws i w'), length-set ws i w, length-set ws i w');
  others = λ j l n.
      let old : (u : ℕ) → word (bytes_of (set ws i u)) j ≡ at ws j = λ u. word_bytes (set ws i u) j ∙ get_or-set_other ws i j u 0 n in
      old w ∙ sym (old w');
}
