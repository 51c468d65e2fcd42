-- The sections of a sheet, each found where the one before it ends: node count and source, spans, holds, arcs, region words. Definitions.
use Rattle.std.specs.Prelude.{ℕ, ◌+◌, ◌-◌, ◌*◌, ◌/◌, List, Bool, ◌&&◌, drop, eqb}
use Rattle.indices.specs.Tests.{lead}
use Rattle.sheet.specs.declared.Cursor.{Cursor}
use Rattle.sheet.specs.Words.{words, kind, payload}

-- the part of a sheet after a place
abbrev pub part_after : List ℕ → Cursor → List ℕ
part_after b c = drop (4 * c.place) b

-- "kind 1, once: the node count n"
abbrev pub node_count : List ℕ → ℕ
node_count b = payload b 0

-- "kind 2, once: the source node"
abbrev pub source : List ℕ → ℕ
source b = payload b 1

-- how many words of kind κ stand from word i on
abbrev pub of_kind : ℕ → List ℕ → ℕ → ℕ → Bool
of_kind κ b i k = eqb (kind b (i + k)) κ

unfoldable pub kind_from : ℕ → List ℕ → ℕ → ℕ
kind_from κ b i = lead (of_kind κ b i) (words b - i)

-- "kind 3, up to 15 times: the span, 1 to 1,000,000, for heights 1, 2, 3 and so on"
abbrev pub span_count : List ℕ → ℕ
span_count b = kind_from 3 b 2

-- the span at place k, which is for height k + 1
abbrev pub span : List ℕ → ℕ → ℕ
span b k = payload b (2 + k)

-- 2026-08: "A sheet may carry n words of kind 13 after the spans, or none": the word of the first, and how many there are
abbrev pub holds_at : List ℕ → ℕ
holds_at b = 2 + span_count b

abbrev pub hold_count : List ℕ → ℕ
hold_count b = kind_from 13 b (holds_at b)

-- "kinds 4 and 5 in pairs, up to 2,048 pairs, one arc each": the pairs that stand from word i on
abbrev pub is_arc : List ℕ → ℕ → ℕ → Bool
is_arc b i a = eqb (kind b (i + 2 * a)) 4 && eqb (kind b (i + 2 * a + 1)) 5

unfoldable pub arcs_from : List ℕ → ℕ → ℕ
arcs_from b i = lead (is_arc b i) ((words b - i) / 2)

-- the word of arc 0, and how many arcs there are
abbrev pub arcs_at : List ℕ → ℕ
arcs_at b = holds_at b + hold_count b

abbrev pub arc_count : List ℕ → ℕ
arc_count b = arcs_from b (arcs_at b)

-- "The region words are the part of the sheet after the last arc."
abbrev pub regions_at : List ℕ → ℕ
regions_at b = arcs_at b + 2 * arc_count b

unfoldable pub region_words : List ℕ → List ℕ
region_words b = part_after b (record { place = regions_at b })
