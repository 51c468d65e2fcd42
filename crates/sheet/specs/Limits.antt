-- The limits of a sheet, each a named number. Definitions.
use Rattle.std.specs.Prelude.{ℕ}

-- "The byte limit becomes 36,924." (2026-08)
abbrev pub most_bytes : ℕ
most_bytes = 36924

-- "Byte count not a multiple of 4, or above 32,828.": so many before 2026-08
abbrev pub most_bytes_before : ℕ
most_bytes_before = 32828

-- "the node count n, 1 to 1,024"
abbrev pub most_nodes : ℕ
most_nodes = 1024

-- "kind 3, up to 15 times: the span, 1 to 1,000,000"
abbrev pub most_spans : ℕ
most_spans = 15

abbrev pub most_span : ℕ
most_span = 1000000

-- "kinds 4 and 5 in pairs, up to 2,048 pairs, one arc each"
abbrev pub most_arcs : ℕ
most_arcs = 2048

-- "Kind 5: the length in hundredths of a second, 0 to 262,143"
abbrev pub most_length : ℕ
most_length = 262143

-- "From now on a node may have up to four each way, and five is still 10." (2026-01)
abbrev pub most_arcs_each_way : ℕ
most_arcs_each_way = 4

-- "A node with more than two outgoing or more than two incoming arcs.": so many before 2026-01
abbrev pub most_arcs_before : ℕ
most_arcs_before = 2

-- "kinds 6 and 7 in any mixture, up to 4,094"
abbrev pub most_region_words : ℕ
most_region_words = 4094

-- "bits 19 to 10 the tail node, bits 9 to 0 the head": so many numbers has the field of a node,
abbrev pub node_numbers : ℕ
node_numbers = 1024

-- "bits 10 to 0 its arc": so many that of an arc,
abbrev pub arc_numbers : ℕ
arc_numbers = 2048

-- "bits 22 to 11 its parent": and so many that of a leaf's parent.
abbrev pub region_numbers : ℕ
region_numbers = 4096
