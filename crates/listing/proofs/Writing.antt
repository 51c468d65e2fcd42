-- Laws of a buffer with a text at its front.
use Prim.Native.Nat.{ℕ, ◌+◌, ◌≤◌}
use mathlib.Core.Path.{◌≡◌, ap, ◌∙◌}
use mathlib.Core.List.{List, ◌++◌}
use native.Mathlib.Nat.{zero-add}
use native.Mathlib.Omega.{arith}
use lib.ListN.{length, take, drop, length-append}
use lib.Seq.{sets-eq}
use Rattle.listing.specs.declared.text.Text.{Text}
use Rattle.listing.specs.Inner.{Room, Wrote}
use Rattle.listing.specs.Printed.{Filled}

-- a text at the front of a buffer
pub filled : {before out bytes : List ℕ} {begun last : Text} {n : ℕ} → Wrote begun bytes last → (begun.out.now ≡ before) × (begun.place ≡ 0)
    → Room begun bytes → out ≡ last.out.now → n ≡ last.place → Filled before bytes out n
filled {before} {out} {bytes} {begun} w front room after count =
    record {
      bytes = after ∙ w.stored
          ∙ sets-eq bytes begun.out.now begun.place room.fits
          ∙ ap (λ (k : ℕ). take k begun.out.now ++ bytes ++ drop (k + length bytes) begun.out.now) front.1
          ∙ ap (λ (k : ℕ). bytes ++ drop k begun.out.now) (zero-add (length bytes))
          ∙ ap (λ (l : List ℕ). bytes ++ drop (length bytes) l) front.0;
      count = omega (arith, w.place, front.1, count);
    }

-- the text is within the buffer
pub filled_within : {before text after : List ℕ} {n : ℕ} → Filled before text after n → n ≤ length after
filled_within {before} {text} f = omega (arith, ap length f.bytes, length-append text (drop (length text) before))
