-- The converted sheet (request 2026-09): a sheet without its self-arcs, as a list of bytes. Definitions.
use Rattle.std.specs.Prelude.{ℕ, suc, ◌+◌, Bool, not, List, [], ◌∷◌, ◌++◌}
use Rattle.indices.specs.Columns.{column, selected}
use Rattle.indices.specs.Tests.{count}
use Rattle.sheet.specs.Words.{words, word, bytes_of}
use Rattle.sheet.specs.Sections.{holds_at, hold_count, arc_count, region_words}
use Rattle.sheet.specs.Arcs.{ends_word}
use Rattle.sheet.specs.Regions.{region_count, leaf_word, parent_word, arc_word, region_word, is_leaf, parent, leaf_arc, height}
use Rattle.judgement.specs.Arcs.{self_arc}
use Rattle.conversion.specs.Kept.{left}

module _ (b : List ℕ) where
  -- "drops those arcs": the arcs that are kept, and the new number of one of them, "in its old order"
  abbrev pub kept_arc : ℕ → Bool
  kept_arc a = not (self_arc b a)

  unfoldable pub new_arc : ℕ → ℕ
  new_arc a = count kept_arc a

  -- "and their leaves, drops inner regions other than 0 left childless until none is": the regions that are kept, and the new number of one of them
  unfoldable pub kept_leaf : ℕ → Bool
  kept_leaf r = kept_arc (leaf_arc (region_words b) r)

  unfoldable pub kept_region : ℕ → Bool
  kept_region r = let d = region_words b in left (is_leaf d) (parent d) kept_leaf (region_count d) r

  unfoldable pub new_region : ℕ → ℕ
  new_region r = count kept_region r

  -- the two words of an arc that is kept, as they are
  unfoldable pub arc_pair : ℕ → List ℕ
  arc_pair a = word b (ends_word b a) ∷ word b (ends_word b a + 1) ∷ []

  unfoldable pub converted_arcs : List ℕ
  converted_arcs = selected kept_arc arc_pair (arc_count b)

  -- "renumbers what is left in its old order": the word of region k + 1, its parent and its arc by their new numbers
  unfoldable pub new_word : ℕ → ℕ
  new_word k = let d = region_words b in region_word (leaf_word d k) (new_region (parent_word d k)) (new_arc (arc_word d k))

  unfoldable pub converted_regions : List ℕ
  converted_regions = selected (λ k. kept_region (suc k)) (λ k. new_word k ∷ []) (words (region_words b))

  -- "drops spans above the new height": the height of region 0 among the region words that are left
  unfoldable pub new_height : ℕ
  new_height = height (bytes_of converted_regions) 0

  unfoldable pub converted_spans : List ℕ
  converted_spans = column new_height (λ k. word b (2 + k))

  -- node count, source and holds are as they were
  unfoldable pub converted_holds : List ℕ
  converted_holds = column (hold_count b) (λ v. word b (holds_at b + v))

  unfoldable pub converted_words : List ℕ
  converted_words = word b 0 ∷ word b 1 ∷ (converted_spans ++ (converted_holds ++ (converted_arcs ++ converted_regions)))

  unfoldable pub converted : List ℕ
  converted = bytes_of converted_words
