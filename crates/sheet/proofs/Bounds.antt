-- The sections lie within the sheet, and the region words are what is left of it.
use Prim.Native.Nat.{ℕ, ◌+◌, ◌-◌, ◌*◌, ◌/◌, ◌<◌, ◌≤◌}
use mathlib.Core.List.{List}
use mathlib.Core.Path.{◌≡◌, refl, ap, ◌∙◌}
use native.Mathlib.Nat.{add-zero}
use native.Mathlib.Omega.{arith}
use lib.ListN.{length, get_or, take, drop, length-drop}
use lib.Seq.{take_all, get_or-drop}
use Rattle.indices.proofs.Tests.{lead_le}
use Rattle.sheet.specs.declared.Sections.{Sections}
use Rattle.sheet.specs.Words.{words, word, kind_of, kind}
use Rattle.sheet.specs.Sections.{of_kind, is_arc, kind_from, arcs_from, holds_at, arcs_at, arc_count, regions_at, region_words}
use Rattle.sheet.specs.Inner.{Located}

pub kind_le : (κ : ℕ) (b : List ℕ) (i : ℕ) → kind_from κ b i ≤ words b - i
unfolding kind_from
kind_le κ b i = lead_le (of_kind κ b i) (words b - i)

pub arcs_le : (b : List ℕ) (i : ℕ) → arcs_from b i ≤ (words b - i) / 2
unfolding arcs_from
arcs_le b i = lead_le (is_arc b i) ((words b - i) / 2)

-- the last arc ends within the sheet
pub regions_inside : (b : List ℕ) → 2 ≤ words b → regions_at b ≤ words b
regions_inside b two = omega (arith, kind_le 3 b 2, kind_le 13 b (holds_at b), arcs_le b (arcs_at b))

-- the same of the sections that were found
pub located_inside : {b : List ℕ} {sections : Sections} → Located b sections → sections.after ≤ words b
located_inside {b} found = omega (arith, regions_inside b found.front, found.regions_from)

-- the words of an arc are words of the sheet
pub arc_inside : {b : List ℕ} {sections : Sections} → Located b sections → (a : ℕ) → a < arc_count b → sections.first + 2 * a + 1 < words b
arc_inside {b} found a l = omega (arith, regions_inside b found.front, found.arcs_from_lem)

-- there are as many region words as words are left
pub region_words_lem : (b : List ℕ) → 2 ≤ words b → words (region_words b) ≡ words b - regions_at b
unfolding region_words
region_words_lem b two = omega (arith, length-drop (4 * regions_at b) b, regions_inside b two)

-- there are no more arcs than words
pub arcs_few : (b : List ℕ) → arc_count b ≤ words b
arcs_few b = omega (arith, arcs_le b (arcs_at b))

-- a part to the end
pub to_end : (b : List ℕ) (i : ℕ) → take (length b - i) (drop i b) ≡ drop i b
to_end b i = take_all (length b - i) (drop i b) (omega (arith, length-drop i b))

-- a word of the part from word e on
pub word_drop : (b : List ℕ) (e k : ℕ) → word (drop (4 * e) b) k ≡ word b (e + k)
unfolding word
word_drop b e k = rw (byte 0 (4 * k) (omega arith), byte 1 (4 * k + 1) refl, byte 2 (4 * k + 2) refl, byte 3 (4 * k + 3) refl, add-zero (4 * (e + k)))
  where
    byte : (j i : ℕ) → i ≡ 4 * k + j → get_or (drop (4 * e) b) i 0 ≡ get_or b (4 * (e + k) + j) 0
    byte j i h = get_or-drop (4 * e) b i 0 ∙ ap (λ (n : ℕ). get_or b n 0) (omega arith)

-- the kind of a region word is that of the sheet's word
pub region_kind_lem : (b : List ℕ) (k : ℕ) → kind (region_words b) k ≡ kind b (regions_at b + k)
unfolding kind region_words
region_kind_lem b k = ap kind_of (word_drop b (regions_at b) k)
