-- Refusals 8 to 10 of a sheet, 34 after 9 and 35 after 10, those of its arcs, each beside its line of the paper. Definitions.
use Rattle.std.specs.Prelude.{ℕ, List, Bool, true, false, ◌||◌, ltb, leb, eqb}
use Rattle.indices.specs.Tests.{any, count}
use Rattle.sheet.specs.Limits.{most_length}
use Rattle.sheet.specs.Sections.{node_count, arc_count}
use Rattle.sheet.specs.Arcs.{tail, head, arc_length, end_of, taken_length}

-- 8. "A tail or head not below n."
abbrev pub end_outside : List ℕ → ℕ → Bool
end_outside b a = leb (node_count b) (tail b a) || leb (node_count b) (head b a)

unfoldable pub ends_outside : List ℕ → Bool
ends_outside b = any (end_outside b) (arc_count b)

-- 9. "A length above 262,143."
abbrev pub too_long : List ℕ → ℕ → Bool
too_long b a = ltb most_length (arc_length b a)

unfoldable pub lengths_outside : List ℕ → Bool
lengths_outside b = any (too_long b) (arc_count b)

-- 2026-08: "34, a tail's hold (0 for the source) plus the arc's length above 262,143, after 9."
abbrev pub too_long_held : List ℕ → ℕ → Bool
too_long_held b a = ltb most_length (taken_length b a)

unfoldable pub holds_outside : List ℕ → Bool
holds_outside b = any (too_long_held b) (arc_count b)

-- 10. "A node with more than two outgoing or more than two incoming arcs.", where "From now on a node may have up to four each way, and five is still 10."
-- (2026-01): with `limit` for two and four.
-- arc a has node v as its head, or else as its tail
abbrev pub ends_at : Bool → List ℕ → ℕ → ℕ → Bool
ends_at heads b v a = eqb (end_of heads b a) v

abbrev pub crowded : ℕ → Bool → List ℕ → ℕ → Bool
crowded limit heads b v = ltb limit (count (ends_at heads b v) (arc_count b))

unfoldable pub crowded_nodes : ℕ → Bool → List ℕ → Bool
crowded_nodes limit heads b = any (crowded limit heads b) (node_count b)

unfoldable pub too_many_at_node : ℕ → List ℕ → Bool
too_many_at_node limit b = crowded_nodes limit false b || crowded_nodes limit true b

-- 2026-09: "35, an arc from a node to itself, after 10."
unfoldable pub self_arc : List ℕ → ℕ → Bool
self_arc b a = eqb (tail b a) (head b a)

unfoldable pub self_arcs : List ℕ → Bool
self_arcs b = any (self_arc b) (arc_count b)
