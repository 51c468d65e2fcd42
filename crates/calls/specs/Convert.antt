-- What the call that converts a sheet answers, what it leaves in the buffer, and what is claimed of the converted sheet (request 2026-09). Definitions.
use Rattle.std.specs.Prelude.{ℕ, ◌≤◌, ◌<◌, true, false, ◌≡◌, List, ◌++◌, length, drop, get_or}
use Rattle.indices.specs.Tests.{count}
use Rattle.sheet.specs.Sections.{node_count, source, span_count, span, hold_count, arc_count, region_words}
use Rattle.sheet.specs.Arcs.{tail, head, arc_length, hold}
use Rattle.sheet.specs.Regions.{region_count, is_leaf, parent, leaf_arc}
use Rattle.answer.specs.Answer.{input, Answer, written, refused}
use Rattle.judgement.specs.Arcs.{self_arcs}
use Rattle.judgement.specs.Judgement.{other_refusals, Accepted}
use Rattle.procedure.specs.OfSheet.{graph_of}
use Rattle.procedure.specs.Procedure.{enough_rounds}
use Rattle.conversion.specs.Kept.{has_child, left_after}
use Rattle.conversion.specs.Converted.{kept_arc, new_arc, kept_leaf, kept_region, new_region, converted}
use Rattle.conversion.specs.Graph.{without_self_arcs}
use Rattle.calls.specs.Calls.{Call, call_answer, lent_after, write_call}
use Rattle.calls.specs.Tables.{wrong_length, status_says, status_in}
use Rattle.calls.specs.Runs.{run_table, long_run_table, filled_table, run_call, Delivered, DeliveredLong}
use Rattle.calls.specs.Routes.{ShortestTable}
use Rattle.calls.specs.Correct.{SameDistances}

-- "A converter takes a sheet at fault in nothing else": 35 is not looked at. "Its byte length is returned; the rest of the output buffer stays; a short one is
-- 31."
abbrev pub convert_call : List ℕ → List ℕ → Call
convert_call b out = write_call (converted b) out

unfoldable pub convert_answer : List ℕ → List ℕ → Answer
convert_answer b out = call_answer (other_refusals b) (convert_call b out)

-- the buffer at exit
unfoldable pub convert_out : List ℕ → List ℕ → List ℕ
convert_out b out = lent_after (other_refusals b) (convert_call b out)

-- The converted sheet field by field: "drops those arcs and their leaves, drops inner regions other than 0 left childless until none is, renumbers what is left
-- in its old order, and drops spans above the new height".
pub record KeptFields (b : List ℕ) : Type 0 where
  pub nodes : node_count (converted b) ≡ node_count b
  pub source_same : source (converted b) ≡ source b
  pub holds_all : hold_count (converted b) ≡ hold_count b
  pub holds : (v : ℕ) → hold (converted b) v ≡ hold b v
  -- as many spans as region 0 is high now, by refusal 14; these are the first, as they were
  pub spans_fewer : span_count (converted b) ≤ span_count b
  pub spans : (k : ℕ) → k < span_count (converted b) → span (converted b) k ≡ span b k
  -- each arc that is kept, under its new number, and no other
  pub arcs_all : arc_count (converted b) ≡ count (kept_arc b) (arc_count b)
  pub arcs : (a : ℕ) → a < arc_count b → kept_arc b a ≡ true
      → (tail (converted b) (new_arc b a) ≡ tail b a) × (head (converted b) (new_arc b a) ≡ head b a) × (arc_length (converted b) (new_arc b a) ≡ arc_length b a)
  pub arcs_in_order : (a a' : ℕ) → a < a' → kept_arc b a ≡ true → new_arc b a < new_arc b a'
  -- each region that is kept, under its new number, with its parent's and its arc's, and no other
  pub regions_all : region_count (region_words (converted b)) ≡ count (kept_region b) (region_count (region_words b))
  pub leaves : (r : ℕ) → r < region_count (region_words b) → kept_region b r ≡ true → is_leaf (region_words (converted b)) (new_region b r) ≡ is_leaf (region_words b) r
  pub parents : (r : ℕ) → 0 < r → r < region_count (region_words b) → kept_region b r ≡ true
      → parent (region_words (converted b)) (new_region b r) ≡ new_region b (parent (region_words b) r)
  pub leaf_arcs_lem : (r : ℕ) → r < region_count (region_words b) → kept_region b r ≡ true → is_leaf (region_words b) r ≡ true
      → leaf_arc (region_words (converted b)) (new_region b r) ≡ new_arc b (leaf_arc (region_words b) r)
  pub regions_in_order : (r r' : ℕ) → r < r' → kept_region b r ≡ true → new_region b r < new_region b r'

-- "until none is"
pub record NoneChildless (b : List ℕ) : Type 0 where
  -- region 0 is kept; of the others every inner region that is kept has a child that is kept
  pub root : kept_region b 0 ≡ true
  pub child : (r : ℕ) → 0 < r → r < region_count (region_words b) → kept_region b r ≡ true → is_leaf (region_words b) r ≡ false
      → let d = region_words b in has_child (is_leaf d) (parent d) (kept_leaf b) (region_count d) (kept_region b) r ≡ true
  -- and to drop more times changes nothing
  pub no_more : (k r : ℕ) → region_count (region_words b) ≤ k → r < region_count (region_words b)
      → let d = region_words b in left_after (is_leaf d) (parent d) (kept_leaf b) (region_count d) k r ≡ kept_region b r

-- a run before request 2026-09, when self-arcs were not refused: its answer, and the table at exit
abbrev pub run_answer_then : List ℕ → ℕ → List ℕ → Answer
run_answer_then b k table = call_answer (other_refusals b) (run_call b k table)

abbrev pub table_then : List ℕ → ℕ → List ℕ → List ℕ
table_then b k table = lent_after (other_refusals b) (run_call b k table)

-- "The converted sheet's distances are those the old sheet had."
pub record SameAsThen (b : List ℕ) : Type 0 where
  -- then a run with a table of either length was made, of any number of rounds; its table said what they reach, and was shortest where it was left as ended;
  -- and the run to its end ended
  pub made : (k : ℕ) (table : List ℕ) → wrong_length b table ≡ false
      → (run_answer_then b k table ≡ status_says (status_in (run_table b k))) × (table_then b k table ≡ filled_table b k table)
  pub told : (k : ℕ) → Delivered b k (run_table b k)
  pub told_long : (k : ℕ) → DeliveredLong b k (long_run_table b k)
  pub left_ended : status_in (run_table b enough_rounds) ≡ 1
  -- every two tables left as ended, of the sheet then and of the converted one now, have the same distances, and the same nodes unreached
  pub distances : (k k' : ℕ) (table table' : List ℕ) → Delivered b k table → Delivered (converted b) k' table' → status_in table ≡ 1 → status_in table' ≡ 1
      → SameDistances b table (converted b) table'
  -- and so have every two tables that are shortest, of true routes in both halls, self-arcs among them in the old one
  pub shortest : (table table' : List ℕ) → ShortestTable b table → ShortestTable (converted b) table' → SameDistances b table (converted b) table'

-- What is claimed of every sheet that is at fault in nothing, or in nothing but self-arcs.
pub record Converts (b : List ℕ) : Type 0 where
  -- the converted sheet stands at the front of the buffer, and its byte length is answered; a shorter buffer is 31
  pub leaves : (out : List ℕ) → length (converted b) ≤ length out
      → (convert_answer b out ≡ written (length (converted b))) × (convert_out b out ≡ converted b ++ drop (length (converted b)) out)
  pub short : (out : List ℕ) → length out < length (converted b) → (convert_answer b out ≡ refused (input 31)) × (convert_out b out ≡ out)
  -- a buffer of the sheet's own length is long enough
  pub no_longer : length (converted b) ≤ length b
  -- it is accepted, so it draws no self-arc
  pub accepted : Accepted (converted b)
  -- its graph is the old one without its self-arcs, arcs in their old order, each with the length that the procedure took
  pub graph : graph_of (converted b) ≡ without_self_arcs (graph_of b)
  pub fields : KeptFields b
  pub dropped : NoneChildless b
  pub same : SameAsThen b
  -- a sheet without self-arcs, given as bytes, is its own conversion; to convert twice changes nothing
  pub own : ((i : ℕ) → i < length b → get_or b i 0 < 256) → self_arcs b ≡ false → converted b ≡ b
  pub again : converted (converted b) ≡ converted b
