-- How much work a run has done, by the words of the table that it leaves (request 2026-03). Definitions.
use Rattle.std.specs.Prelude.{ℕ, pred, ◌+◌, ◌/◌, Bool, true, not, ◌||◌, ◌≡◌, List, eqb}
use Rattle.indices.specs.Tests.{all, count}
use Rattle.sheet.specs.Words.{top}
use Rattle.sheet.specs.Sections.{span_count, span, arc_count, region_words}
use Rattle.sheet.specs.Arcs.{tail}
use Rattle.sheet.specs.Regions.{region_count, is_leaf, parent}
use Rattle.calls.specs.Tables.{status_in, rounds_in, leaves_in, label_in}

-- "all spans are 1"
unfoldable pub all_spans_one : List ℕ → Bool
all_spans_one b = all (λ i. eqb (span b i) 1) (span_count b)

-- region r of the region words d is no leaf, or its parent is region 0
abbrev pub on_root : List ℕ → ℕ → Bool
on_root d r = not (is_leaf d r) || eqb (parent d r) 0

-- "every leaf hangs directly on region 0"
unfoldable pub leaves_on_root : List ℕ → Bool
leaves_on_root b = all (on_root (region_words b)) (region_count (region_words b))

-- the table's label of the tail of arc a is not 'unreached'
abbrev pub tail_reached : List ℕ → List ℕ → ℕ → Bool
tail_reached b table a = not (eqb (label_in table (tail b a)) top)

-- "the number of arcs whose tail is reached"
unfoldable pub reached_arcs : List ℕ → List ℕ → ℕ
reached_arcs b table = count (tail_reached b table) (arc_count b)

-- "that number divided by the span, rounded up"
unfoldable pub divided_up : ℕ → ℕ → ℕ
divided_up n span = (n + pred span) / span

-- Claimed of a table that a run leaves
pub record Work (b table : List ℕ) : Type 0 where
  -- "In every table that a run leaves as ended: where all spans are 1, the leaves worked and the rounds both equal the number of arcs whose tail is reached"
  pub spans_one_leaves : status_in table ≡ 1 → all_spans_one b ≡ true → leaves_in table ≡ reached_arcs b table
  pub spans_one_rounds : status_in table ≡ 1 → all_spans_one b ≡ true → rounds_in table ≡ reached_arcs b table
  -- "where every leaf hangs directly on region 0, the leaves worked equal that number for any span"
  pub on_root_leaves : status_in table ≡ 1 → leaves_on_root b ≡ true → leaves_in table ≡ reached_arcs b table
  -- "and the rounds are that number divided by the span, rounded up": such a sheet has one span, that of height 1
  pub on_root_rounds : status_in table ≡ 1 → leaves_on_root b ≡ true → rounds_in table ≡ divided_up (reached_arcs b table) (span b 0)
  pub on_root_span : leaves_on_root b ≡ true → span_count b ≡ 1
