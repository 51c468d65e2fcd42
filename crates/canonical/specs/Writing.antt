-- The region words of a canonical form, and what is known before they are written. Definitions.
use Rattle.std.specs.Prelude.{ℕ, ◌≤◌, ◌<◌, ◌≡◌, List, length}
use Rattle.sheet.specs.Words.{word}
use Rattle.sheet.specs.Sections.{regions_at, region_words}
use Rattle.sheet.specs.Regions.{leaf_word, arc_word, region_word}
use Rattle.sheet_writer.specs.Words.{WordAt}
use Rattle.judgement.specs.Judgement.{Accepted}
use Rattle.procedure.specs.OfSheet.{division_of}
use Rattle.canonical_numbers.specs.Numbers.{Numbers}

-- the word of the region of word k, whose parent has the new number `above`
abbrev pub new_region_word : List ℕ → ℕ → ℕ → ℕ
new_region_word d k above = region_word (leaf_word d k) above (arc_word d k)

-- an accepted sheet b whose region words are d, after e words, with the new numbers of its regions, and a buffer that has room and holds the first e words
pub record Writable (b d numbers : List ℕ) (e : ℕ) (out : List ℕ) : Type 0 where
  pub accepted : Accepted b
  pub words_of : d ≡ region_words b
  pub place : e ≡ regions_at b
  pub numbered : Numbers (division_of b) numbers
  pub room : length b ≤ length out
  pub front : (i : ℕ) → i < e → WordAt out i (word b i)
