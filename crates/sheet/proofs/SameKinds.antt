-- Two sheets with as many words, in which every test for a kind that no region word has comes out the same at each place, have their sections at the same
-- places.
use Prim.Native.Nat.{ℕ, ◌+◌, ◌-◌, ◌*◌, ◌/◌, ◌<◌}
use mathlib.Core.Bool.{false, ◌||◌}
use mathlib.Core.Path.{◌≡◌, refl, ap, ◌∙◌}
use mathlib.Core.List.{List}
use native.Mathlib.Omega.{arith}
use lib.Dec.{eqb}
use Rattle.indices.specs.Tests.{lead}
use Rattle.indices.proofs.Tests.{lead_ext}
use Rattle.sheet.specs.Words.{words, kind}
use Rattle.sheet.specs.Sections.{of_kind, is_arc, kind_from, arcs_from, span_count, holds_at, hold_count, arc_count, arcs_at, regions_at}

module _ (b b' : List ℕ) (size : words b ≡ words b')
    (same : (κ : ℕ) → eqb 6 κ || eqb 7 κ ≡ false → (i : ℕ) → i < words b' → eqb (kind b i) κ ≡ eqb (kind b' i) κ) where
  -- as many words of one kind stand from any place on
  same_run : (κ : ℕ) → eqb 6 κ || eqb 7 κ ≡ false → (from : ℕ) → kind_from κ b from ≡ kind_from κ b' from
  unfolding kind_from
  same_run κ other from =
      ap (λ (n : ℕ). lead (of_kind κ b from) (n - from)) size
      ∙ lead_ext (of_kind κ b from) (of_kind κ b' from) (words b' - from) (λ k l. same κ other (from + k) (omega arith))

  pub same_spans : span_count b ≡ span_count b'
  same_spans = same_run 3 refl 2

  pub same_holds_at : holds_at b ≡ holds_at b'
  same_holds_at = ap (λ (n : ℕ). 2 + n) same_spans

  pub same_holds : hold_count b ≡ hold_count b'
  same_holds = ap (kind_from 13 b) same_holds_at ∙ same_run 13 refl (holds_at b')

  pub same_arcs_at : arcs_at b ≡ arcs_at b'
  same_arcs_at = omega (arith, same_holds_at, same_holds)

  pub same_arcs : arc_count b ≡ arc_count b'
  unfolding arcs_from
  same_arcs =
      let i = arcs_at b' in
      ap (λ (n : ℕ). lead (is_arc b n) ((words b - n) / 2)) same_arcs_at
      ∙ ap (λ (n : ℕ). lead (is_arc b i) ((n - i) / 2)) size
      ∙ lead_ext (is_arc b i) (is_arc b' i) ((words b' - i) / 2)
      (λ a l. rw (same 4 refl (i + 2 * a) (omega arith), same 5 refl (i + 2 * a + 1) (omega arith)))

  pub same_regions_at : regions_at b ≡ regions_at b'
  same_regions_at = omega (arith, same_arcs_at, same_arcs)
