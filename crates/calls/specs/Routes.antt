-- What the route reader answers, what it leaves in the buffer, and what its answer says of the table. Definitions.
use Rattle.std.specs.Prelude.{ℕ, ◌+◌, ◌*◌, Bool, false, not, ◌&&◌, ◌||◌, ◌≡◌, List, [], ◌∷◌, ◌++◌, length, drop, ltb, leb, eqb, if◌then◌else◌}
use Rattle.indices.specs.Tests.{any}
use Rattle.sheet.specs.Words.{top}
use Rattle.sheet.specs.Sections.{node_count, arc_count}
use Rattle.answer.specs.Answer.{input, state, Answer, route, no_route, refused, Case, ◌when◌, is_refused, is_route, lowest}
use Rattle.judgement.specs.Judgement.{refusals}
use Rattle.procedure.specs.OfSheet.{graph_of}
use Rattle.procedure.specs.Table.{header_length, counts_length}
use Rattle.procedure.specs.Routes.{chain_to}
use Rattle.procedure.specs.Travel.{ShortestFor}
use Rattle.theory_shortest.specs.TableTest.{settled?}
use Rattle.calls.specs.Calls.{Call, call_answer, lent_after}
use Rattle.calls.specs.Tables.{is_long, wrong_length, kind_in, payload_in, status_in, label_in, predecessor_in, key_place, labels_in, predecessors_in}

-- "15. Node whose route is wanted not below n."
unfoldable pub node_outside : List ℕ → ℕ → Bool
node_outside b node = leb (node_count b) node

module _ (table : List ℕ) where
  -- the word at a place is not of the kind that it is to be
  abbrev pub wrong_kind : ℕ → ℕ → Bool
  wrong_kind i kind = not (eqb (kind_in table i) kind)

  -- words of kind 11, two for each count
  abbrev pub wrong_count : ℕ → Bool
  wrong_count i = wrong_kind (1 + i) 11

  -- "per node a kind 9 word, its label, and a kind 10 word, its feeding arc"
  abbrev pub wrong_kinds : ℕ → Bool
  wrong_kinds v = wrong_kind (header_length + 2 * v) 9 || wrong_kind (header_length + 2 * v + 1) 10

  -- "a feeding arc that is neither an arc of the sheet nor 'none'": of so many arcs
  abbrev pub wrong_predecessor : ℕ → ℕ → Bool
  wrong_predecessor arcs v = not (ltb (predecessor_in table v) arcs || eqb (predecessor_in table v) top)

  unfoldable pub wrong_node : ℕ → ℕ → Bool
  wrong_node arcs v = wrong_kinds v || wrong_predecessor arcs v

  -- 2026-06: words of "kind 12", behind those of so many nodes; "a key word above 1 being 22"
  abbrev pub wrong_key : ℕ → ℕ → Bool
  wrong_key nodes a = wrong_kind (key_place nodes a) 12 || ltb 1 (payload_in table (key_place nodes a))

  -- "23. Table paused."
  unfoldable pub is_paused : Bool
  is_paused = eqb (status_in table) 0

module _ (b table : List ℕ) where
  -- 2026-06: "the route reader takes either, a key word above 1 being 22"
  unfoldable pub wrong_keys : Bool
  wrong_keys = is_long b table && any (wrong_key table (node_count b)) (arc_count b)

  -- "22. Wrong kind at a place, status above 1, or a feeding arc that is neither an arc of the sheet nor 'none'."
  unfoldable pub malformed : Bool
  malformed =
      (wrong_kind table 0 8 || any (wrong_count table) (2 * counts_length))
      || (ltb 1 (status_in table) || (any (wrong_node table (arc_count b)) (node_count b) || wrong_keys))

  -- "Some distance isn't the shortest for this sheet, or the feeding arcs don't form routes of exactly those lengths from the source (source and
  -- unreached nodes: none)": this does not hold of the table. "The counts aren't examined." 2026-08: "Shortest means shortest in this sense, for the route
  -- reader and for going on as well"
  abbrev pub ShortestTable : Type 0
  ShortestTable = ShortestFor b (labels_in (node_count b) table) (predecessors_in (node_count b) table)

  -- 24 as it is computed. It is false just where the table is a `ShortestTable`: crates/calls/proofs/Routes.antt.
  unfoldable pub not_shortest : Bool
  not_shortest = not (settled? (graph_of b) (labels_in (node_count b) table) (predecessors_in (node_count b) table))

  -- 22 to 24, of a table that has its length
  unfoldable pub table_refusals : List Case
  table_refusals = state 22 when malformed ∷ state 23 when is_paused table ∷ state 24 when not_shortest ∷ []

  -- "the arc numbers from source to node": the predecessors followed back
  unfoldable pub route_to : ℕ → List ℕ
  route_to node = chain_to (graph_of b) (predecessors_in (node_count b) table) node

  -- "For an unreached node the call answers 'no route'", whatever the buffer. "25. Route buffer shorter than the route."
  unfoldable pub found_route : ℕ → List ℕ → Answer
  found_route node buffer =
      let way = route_to node in
      let fitted = lowest (state 25 when ltb (length buffer) (length way) ∷ []) (route (length way)) in
      if eqb (label_in table node) top then no_route else fitted

  -- what an answer leaves: a route "as plain words at the front of a lent buffer", "the rest of the buffer stays"; else the buffer as it was lent
  unfoldable pub left_by : Answer → ℕ → List ℕ → List ℕ
  left_by answer node buffer =
      let way = route_to node in
      let made = way ++ drop (length way) buffer in
      if is_route answer then made else buffer

  -- after those of the sheet the route reader looks at 15, and at 21 to 24, in this order
  abbrev pub route_call : ℕ → List ℕ → Call
  route_call node buffer = record {
    later = input 15 when node_outside b node ∷ state 21 when wrong_length b table ∷ table_refusals;
    good = found_route node buffer;
    leaves = λ answer. left_by answer node buffer;
  }

  unfoldable pub route_answer : ℕ → List ℕ → Answer
  route_answer node buffer = call_answer (refusals b) (route_call node buffer)

  -- the buffer at exit
  unfoldable pub buffer_after : ℕ → List ℕ → List ℕ
  buffer_after node buffer = lent_after (refusals b) (route_call node buffer)

  -- What an answer says of the table: 24, that it is no `ShortestTable`; 25, 'no route' and a route, that it is one.
  pub record TableKnown (answer : Answer) : Type 0 where
    pub wrong : answer ≡ refused (state 24) → ShortestTable → ⊥
    pub right : is_refused answer ≡ false → ShortestTable
    pub right_too : answer ≡ refused (state 25) → ShortestTable
