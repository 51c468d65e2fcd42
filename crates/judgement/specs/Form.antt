-- Refusals 1 to 7 of a sheet, each beside its line of the paper. Definitions.
use Rattle.std.specs.Prelude.{ℕ, ◌%◌, List, Bool, ◌&&◌, ◌||◌, not, length, ltb, leb, eqb}
use Rattle.indices.specs.Tests.{any}
use Rattle.sheet.specs.Limits.{most_bytes, most_nodes, most_spans, most_span, most_arcs, most_region_words}
use Rattle.sheet.specs.Words.{words, kind, payload}
use Rattle.sheet.specs.Sections.{node_count, source, span_count, span, hold_count, arc_count, region_words}
use Rattle.sheet.specs.Arcs.{ends_word}
use Rattle.sheet.specs.Regions.{leaf_word}

-- 1. "Byte count not a multiple of 4, or above 32,828.", where "The byte limit becomes 36,924." (2026-08): with `limit` for the one and the other.
abbrev pub wrong_size_under : ℕ → List ℕ → Bool
wrong_size_under limit b = not (eqb (length b % 4) 0) || ltb limit (length b)

unfoldable pub wrong_size : List ℕ → Bool
wrong_size b = wrong_size_under most_bytes b

-- 2. "Kinds out of order, an unpaired 4 or 5, an unknown kind, or the sheet ends too soon." The order is kind 1, kind 2, the spans, the holds, the arcs
-- in pairs, and after the last of them kinds 6 and 7 alone.
abbrev pub no_region_word : List ℕ → ℕ → Bool
no_region_word d k = not (eqb (kind d k) 6 || eqb (kind d k) 7)

abbrev pub wrong_front : List ℕ → Bool
wrong_front b = ltb (words b) 2 || not (eqb (kind b 0) 1) || not (eqb (kind b 1) 2)

unfoldable pub wrong_sections : List ℕ → Bool
wrong_sections b = wrong_front b || any (no_region_word (region_words b)) (words (region_words b))

-- 2026-08: "A number of hold words other than 0 or the payload of kind 1 is 2."
unfoldable pub wrong_holds : List ℕ → Bool
wrong_holds b = not (eqb (hold_count b) 0 || eqb (hold_count b) (node_count b))

unfoldable pub out_of_order : List ℕ → Bool
out_of_order b = wrong_sections b || wrong_holds b

-- 3. "A bit set that must be zero." Kind 4: "bits 27 to 20 zero". Kind 7: "bits 27 to 23 zero".
abbrev pub arc_bits : List ℕ → ℕ → Bool
arc_bits b a = leb 1048576 (payload b (ends_word b a))

abbrev pub leaf_bits : List ℕ → ℕ → Bool
leaf_bits d k = leaf_word d k && leb 8388608 (payload d k)

unfoldable pub bit_set : List ℕ → Bool
bit_set b = any (arc_bits b) (arc_count b) || any (leaf_bits (region_words b)) (words (region_words b))

-- 4. "Node count outside its limits."
unfoldable pub nodes_outside : List ℕ → Bool
nodes_outside b = ltb (node_count b) 1 || ltb most_nodes (node_count b)

-- 5. "Source not below n."
unfoldable pub source_outside : List ℕ → Bool
source_outside b = leb (node_count b) (source b)

-- 6. "A span outside its limits."
abbrev pub span_outside : List ℕ → ℕ → Bool
span_outside b k = ltb (span b k) 1 || ltb most_span (span b k)

unfoldable pub spans_outside : List ℕ → Bool
spans_outside b = any (span_outside b) (span_count b)

-- 7. "More than 15 spans, 2,048 arcs or 4,094 region words."
unfoldable pub too_many : List ℕ → Bool
too_many b = ltb most_spans (span_count b) || ltb most_arcs (arc_count b) || ltb most_region_words (words (region_words b))
