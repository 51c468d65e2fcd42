-- How far distances move where one arc's length, or one hold, is changed (request 2026-10). Definitions.
use Rattle.std.specs.Prelude.{ℕ, ◌+◌, ◌-◌, ◌≤◌, ◌<◌, ◌≡◌, ◌↔◌, ◌≢◌, List, [], ◌∷◌, length}
use Rattle.sheet.specs.Limits.{most_length}
use Rattle.sheet.specs.Words.{words, word, top}
use Rattle.sheet.specs.Sections.{node_count, source, holds_at, hold_count, arc_count}
use Rattle.sheet.specs.Arcs.{tail, head, arc_length, hold, ends_word}
use Rattle.answer.specs.Answer.{ended}
use Rattle.judgement.specs.Judgement.{Accepted}
use Rattle.procedure.specs.Procedure.{enough_rounds}
use Rattle.procedure.specs.Travel.{between}
use Rattle.calls.specs.Tables.{label_in}
use Rattle.calls.specs.Runs.{run_answer, run_table, table_after}
use Rattle.calls.specs.Routes.{ShortestTable, route_to}

-- TWO SHEETS
-- as many bytes, and every word the same but word i
pub record SameButWord (i : ℕ) (b b' : List ℕ) : Type 0 where
  pub size : length b ≡ length b'
  pub others : (j : ℕ) → j < words b → j ≢ i → word b j ≡ word b' j

-- the word of arc a's length, and that of node v's hold
abbrev pub length_word : List ℕ → ℕ → ℕ
length_word b a = ends_word b a + 1

abbrev pub hold_word : List ℕ → ℕ → ℕ
hold_word b v = holds_at b + v

-- the same nodes and source, and as many arcs, each from the same tail to the same head
pub record SameEnds (b b' : List ℕ) : Type 0 where
  pub nodes : node_count b ≡ node_count b'
  pub sources : source b ≡ source b'
  pub arcs : arc_count b ≡ arc_count b'
  pub tails : (a : ℕ) → a < arc_count b → tail b a ≡ tail b' a
  pub heads : (a : ℕ) → a < arc_count b → head b a ≡ head b' a

-- "differ only in one arc's length", that of arc a. Regions and spans may be others too: distances don't depend on them.
pub record OtherLength (a : ℕ) (b b' : List ℕ) : Type 0 where
  pub ends : SameEnds b b'
  pub lengths : (i : ℕ) → i < arc_count b → i ≢ a → arc_length b i ≡ arc_length b' i
  pub holds : (v : ℕ) → v < node_count b → hold b v ≡ hold b' v

-- "a single changed hold", that of node v. A sheet without words of kind 13 has holds of 0, so the one changed may be the first that is above 0.
pub record OtherHold (v : ℕ) (b b' : List ℕ) : Type 0 where
  pub ends : SameEnds b b'
  pub lengths : (i : ℕ) → i < arc_count b → arc_length b i ≡ arc_length b' i
  pub holds : (u : ℕ) → u < node_count b → u ≢ v → hold b u ≡ hold b' u

-- THEIR TABLES
-- how far two numbers are from each other
abbrev pub apart : ℕ → ℕ → ℕ
apart m n = (m - n) + (n - m)

-- "the same nodes are reached, no distance moves by more than the change, and lengthening the arc brings no distance down": of a table of each sheet, where
-- the figure that is changed was `before` in the first and is `after` in the second
pub record Moved (before after : ℕ) (b table b' table' : List ℕ) : Type 0 where
  pub nodes : node_count b ≡ node_count b'
  pub unreached : (v : ℕ) → v < node_count b → (label_in table v ≡ top) ↔ (label_in table' v ≡ top)
  pub no_farther : (v : ℕ) → v < node_count b → apart (label_in table v) (label_in table' v) ≤ apart before after
  pub none_down : before ≤ after → (v : ℕ) → v < node_count b → label_in table v ≤ label_in table' v
  -- the mirror of it: shortening brings no distance up
  pub none_up : after ≤ before → (v : ℕ) → v < node_count b → label_in table' v ≤ label_in table v

-- P holds of every two tables of the two sheets ..
pub record InTables (b b' : List ℕ) (P : List ℕ → List ℕ → Type 0) : Type 0 where
  -- .. that runs of them leave as ended, whatever their rounds, in either form
  pub runs : (k k' : ℕ) (lent lent' : List ℕ) → run_answer b k lent ≡ ended → run_answer b' k' lent' ≡ ended → P (table_after b k lent) (table_after b' k' lent')
  -- .. and that are shortest, as those are that going on leaves as ended, and those that the route reader takes
  pub shortest : (table table' : List ℕ) → ShortestTable b table → ShortestTable b' table' → P table table'

abbrev pub Moves : ℕ → ℕ → List ℕ → List ℕ → Type 0
Moves before after b b' = InTables b b' (λ table table'. Moved before after b table b' table')

-- P holds of each entry of a list
unfoldable pub Each : (ℕ → Type 0) → List ℕ → Type 0
Each P [] = Unit
Each P (x ∷ xs) = P x × Each P xs

-- x is no entry of a list
abbrev pub Without : ℕ → List ℕ → Type 0
Without x xs = Each (λ y. y ≢ x) xs

-- each node keeps its distance whose way, the feeding arcs of the first table followed back, is such that P holds of it
abbrev pub Keeps : (List ℕ → Type 0) → List ℕ → List ℕ → Type 0
Keeps P b b' = InTables b b' (λ table table'. (v : ℕ) → v < node_count b → P (route_to b table v) → label_in table v ≡ label_in table' v)

-- What is claimed of every two accepted sheets.
pub record Sensitivity (b b' : List ℕ) : Type 0 where
  -- with the same words but that of one arc's length, or of one hold, they differ in nothing else
  pub length_word_lem : (a : ℕ) → a < arc_count b → SameButWord (length_word b a) b b' → OtherLength a b b'
  pub hold_word_lem : (v : ℕ) → v < hold_count b → SameButWord (hold_word b v) b b' → OtherHold v b b'
  -- "If two accepted sheets differ only in one arc's length, the same nodes are reached", and so on, as in `Moved`
  pub other_length : (a : ℕ) → OtherLength a b b' → Moves (arc_length b a) (arc_length b' a) b b'
  -- "The same is wanted for a single changed hold."
  pub other_hold : (v : ℕ) → OtherHold v b b' → Moves (hold b v) (hold b' v) b b'
  -- "the source's own hold is never charged" (2026-08), nor is one of a node that no arc leaves: where that is the one, no distance moves
  pub source_hold : OtherHold (source b) b b' → Moves 0 0 b b'
  pub end_hold : (v : ℕ) → ((a : ℕ) → a < arc_count b → tail b a ≢ v) → OtherHold v b b' → Moves 0 0 b b'
  -- Where the length or the hold grows, a node keeps its distance if its way does not take the arc, if the node held is not between the ends of its way.
  pub length_keeps : (a : ℕ) → OtherLength a b b' → arc_length b a ≤ arc_length b' a → Keeps (Without a) b b'
  pub hold_keeps : (v : ℕ) → OtherHold v b b' → hold b v ≤ hold b' v → Keeps (λ way. Without v (between b way)) b b'

-- THE BOUND
-- No distance moves by more than `bound` of the length before and after: in the tables that the runs to their end leave, of any two accepted sheets with the
-- same words but that of the length; and the same of a hold.
abbrev pub LengthBound : (ℕ → ℕ → ℕ) → Type 0
LengthBound bound = (b b' : List ℕ) → Accepted b → Accepted b' → (a : ℕ) → a < arc_count b → SameButWord (length_word b a) b b' → (v : ℕ) → v < node_count b
    → apart (label_in (run_table b enough_rounds) v) (label_in (run_table b' enough_rounds) v) ≤ bound (arc_length b a) (arc_length b' a)

abbrev pub HoldBound : (ℕ → ℕ → ℕ) → Type 0
HoldBound bound = (b b' : List ℕ) → Accepted b → Accepted b' → (u : ℕ) → u < hold_count b → SameButWord (hold_word b u) b b' → (v : ℕ) → v < node_count b
    → apart (label_in (run_table b enough_rounds) v) (label_in (run_table b' enough_rounds) v) ≤ bound (hold b u) (hold b' u)

-- "no distance moves by more than the change": the change is such a bound, and none is smaller anywhere, of lengths and of holds up to 262,143. (By 34 a larger
-- hold stands at the source alone or where no arc leaves, and moves nothing.)
pub record LeastBound : Type 0 where
  pub lengths : LengthBound apart
  pub holds : HoldBound apart
  pub least_length : (bound : ℕ → ℕ → ℕ) → LengthBound bound → (m n : ℕ) → m ≤ most_length → n ≤ most_length → apart m n ≤ bound m n
  pub least_hold : (bound : ℕ → ℕ → ℕ) → HoldBound bound → (m n : ℕ) → m ≤ most_length → n ≤ most_length → apart m n ≤ bound m n
