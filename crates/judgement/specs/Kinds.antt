-- Request 2026-05: which kinds may stand at the front of a sheet, right after each other, and at its end, a case for each kind. And what is claimed of these
-- cases: they say yes exactly where the order of refusal 2, which is defined by the sections of a sheet, lets the one follow the other. Of how many holds
-- there are, the other part of refusal 2 (2026-08), neighbours say nothing. Definitions.
use Rattle.std.specs.Prelude.{ℕ, ◌+◌, ◌-◌, ◌<◌, Bool, true, false, not, ◌||◌, List, ◌↔◌, ◌≡◌, length, get_or, eqb, if◌then◌else◌}
use Rattle.indices.specs.Tests.{any}
use Rattle.sheet.specs.Words.{words, kind}
use Rattle.judgement.specs.Form.{wrong_size, wrong_holds, out_of_order}

-- "A sheet is read word by word from its front, in this order": the kinds with which a sheet may begin
unfoldable pub may_begin : ℕ → Bool
may_begin k = eqb k 1

-- "it becomes one case per kind, in the order of that description": a word of kind k may stand right after one of kind `before`. Each case is beside the
-- description's own words.
unfoldable pub may_follow : ℕ → ℕ → Bool
may_follow before k =
    -- "kind 1, once: the node count n, 1 to 1,024"
    if eqb before 1 then eqb k 2 else
    -- "kind 2, once: the source node"
    if eqb before 2 then eqb k 3 || eqb k 13 || eqb k 4 || eqb k 6 || eqb k 7 else
    -- "kind 3, up to 15 times: the span, 1 to 1,000,000, for heights 1, 2, 3 and so on"
    if eqb before 3 then eqb k 3 || eqb k 13 || eqb k 4 || eqb k 6 || eqb k 7 else
    -- "A sheet may carry n words of kind 13 after the spans, or none: the hold in hundredths at nodes 0, 1, 2 and so on." (2026-08)
    if eqb before 13 then eqb k 13 || eqb k 4 || eqb k 6 || eqb k 7 else
    -- "kinds 4 and 5 in pairs, up to 2,048 pairs, one arc each. Kind 4: bits 19 to 10 the tail node, bits 9 to 0 the head, bits 27 to 20 zero. .."
    if eqb before 4 then eqb k 5 else
    -- "kinds 4 and 5 in pairs, up to 2,048 pairs, one arc each. .. Kind 5: the length in hundredths of a second, 0 to 262,143"
    if eqb before 5 then eqb k 4 || eqb k 6 || eqb k 7 else
    -- "kinds 6 and 7 in any mixture, up to 4,094. Kind 6: an inner region, payload its parent. .."
    if eqb before 6 then eqb k 6 || eqb k 7 else
    -- "kinds 6 and 7 in any mixture, up to 4,094. .. Kind 7: a leaf, bits 22 to 11 its parent, bits 10 to 0 its arc, bits 27 to 23 zero."
    if eqb before 7 then eqb k 6 || eqb k 7 else
    false

-- "an unpaired 4 or 5, .. or the sheet ends too soon": the kinds after which a sheet may end, not after the node count alone, and not within an arc
unfoldable pub may_end : ℕ → Bool
may_end k = eqb k 2 || eqb k 3 || eqb k 13 || eqb k 5 || eqb k 6 || eqb k 7

-- The test of a whole sheet by these cases. Its front says no: it has no word, or its first is of a kind with which no sheet begins.
abbrev pub wrong_first : List ℕ → Bool
wrong_first b = eqb (words b) 0 || not (may_begin (kind b 0))

-- word i and the next one say no
abbrev pub wrong_neighbours : List ℕ → ℕ → Bool
wrong_neighbours b i = not (may_follow (kind b i) (kind b (i + 1)))

-- its end says no
abbrev pub wrong_last : List ℕ → Bool
wrong_last b = not (may_end (kind b (words b - 1)))

-- its front, some neighbouring pair or its end says no
unfoldable pub wrong_kinds : List ℕ → Bool
wrong_kinds b = wrong_first b || any (wrong_neighbours b) (words b - 1) || wrong_last b

-- What the order lets stand where is said of sheets: lists of bytes to which 2 does not apply, nor 1, which is looked at before it.
pub record Ordered (b : List ℕ) : Type 0 where
  pub bytes : (i : ℕ) → i < length b → get_or b i 0 < 256
  pub size : wrong_size b ≡ false
  pub order : out_of_order b ≡ false

-- some such sheet has a word of kind k at its front
pub record Begins (k : ℕ) : Type 0 where
  pub sheet : List ℕ
  pub ordered : Ordered sheet
  pub inside : 0 < words sheet
  pub first : kind sheet 0 ≡ k

-- some such sheet has a word of kind k right after one of kind `before`
pub record Follows (before k : ℕ) : Type 0 where
  pub sheet : List ℕ
  pub ordered : Ordered sheet
  pub place : ℕ
  pub inside : place + 1 < words sheet
  pub first : kind sheet place ≡ before
  pub second : kind sheet (place + 1) ≡ k

-- some such sheet has a word of kind k at its end
pub record Ends (k : ℕ) : Type 0 where
  pub sheet : List ℕ
  pub ordered : Ordered sheet
  pub place : ℕ
  pub last : place + 1 ≡ words sheet
  pub kind_there : kind sheet place ≡ k

-- What is claimed of the cases.
pub record ByCases : Type 0 where
  -- they say "yes exactly where that order lets the one follow the other"; and the same of the front and the end
  pub follows : (before k : ℕ) → may_follow before k ≡ true ↔ Follows before k
  pub begins : (k : ℕ) → may_begin k ≡ true ↔ Begins k
  pub ends : (k : ℕ) → may_end k ≡ true ↔ Ends k
  -- "Every sheet is judged as before.": refusal 2, by the sections of a sheet, applies exactly where by the cases its front, some neighbouring pair or its end
  -- says no, or where the number of holds is wrong
  pub judged : (b : List ℕ) → out_of_order b ≡ wrong_kinds b || wrong_holds b
