-- The fields of an arc, the holds at nodes, and how long an arc is with its tail's. Definitions.
use Rattle.std.specs.Prelude.{ℕ, ◌+◌, ◌*◌, ◌/◌, ◌%◌, List, Bool, true, false, eqb, ltb, if◌then◌else◌}
use Rattle.sheet.specs.Limits.{node_numbers}
use Rattle.sheet.specs.Words.{payload}
use Rattle.sheet.specs.Sections.{source, holds_at, hold_count, arcs_at}

-- the first word of arc a
abbrev pub ends_word : List ℕ → ℕ → ℕ
ends_word b a = arcs_at b + 2 * a

-- "Kind 4: bits 19 to 10 the tail node, bits 9 to 0 the head"
unfoldable pub tail : List ℕ → ℕ → ℕ
tail b a = payload b (ends_word b a) / node_numbers % node_numbers

unfoldable pub head : List ℕ → ℕ → ℕ
head b a = payload b (ends_word b a) % node_numbers

-- "Kind 5: the length in hundredths of a second"
unfoldable pub arc_length : List ℕ → ℕ → ℕ
arc_length b a = payload b (ends_word b a + 1)

-- one end of an arc: the head, or else the tail
abbrev pub end_of : Bool → List ℕ → ℕ → ℕ
end_of true b a = head b a
end_of false b a = tail b a

-- 2026-08: "the hold in hundredths at nodes 0, 1, 2 and so on", and 0 in a sheet that carries none
unfoldable pub hold : List ℕ → ℕ → ℕ
hold b v = if ltb v (hold_count b) then payload b (holds_at b + v) else 0

-- "the source's own hold is never charged": what passing node v takes
unfoldable pub charged : List ℕ → ℕ → ℕ
charged b v = if eqb v (source b) then 0 else hold b v

-- "The procedure takes an arc's length with its tail's hold added (0 for the source)."
unfoldable pub taken_length : List ℕ → ℕ → ℕ
taken_length b a = arc_length b a + charged b (tail b a)
