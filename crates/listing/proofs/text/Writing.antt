-- Laws of writing: a text written behind another makes the two written as one, where both have room.
use Prim.Native.Nat.{ℕ, ◌+◌, ◌-◌, ◌≤◌}
use mathlib.Core.Path.{◌≡◌, refl, sym, ap, ◌∙◌}
use mathlib.Core.List.{List, [], ◌++◌}
use native.Mathlib.Omega.{arith}
use lib.ListN.{length, length-append}
use lib.Seq.{sets, length-sets, sets-eq, drop-drop}
use borrow.Rule.Slice.PartMut.{put_mid}
use Rattle.std.proofs.Common.{append_assoc}
use Rattle.indices.proofs.Stores.{sets_append}
use Rattle.listing.specs.declared.text.Text.{Text}
use Rattle.listing.specs.Inner.{Room, Wrote}

-- bytes that are copied behind a place
pub copied : (out : List ℕ) (place : ℕ) (bytes copy : List ℕ) → copy ≡ bytes → place + length bytes ≤ length out
    → put_mid place (place + length bytes - place) out copy ≡ sets out place bytes
copied out place bytes copy e room =
    let long : place + length bytes - place ≡ length bytes = omega arith in
    rw (sets-eq bytes out place room, append_assoc, e, drop-drop (place + length bytes - place) place out, long)

module _ {before : Text} {bytes : List ℕ} {after : Text} (w : Wrote before bytes after) where
  pub length_wrote : length after.out.now ≡ length before.out.now
  length_wrote = ap length w.stored ∙ length-sets before.out.now before.place bytes

  -- the one law of appending
  pub wrote_then : {more : List ℕ} {last : Text} → Wrote after more last → Wrote before (bytes ++ more) last
  wrote_then {more} v =
      record {
        same = v.same ∙ w.same;
        stored = v.stored
            ∙ ap (λ (l : List ℕ). sets l after.place more) w.stored
            ∙ ap (λ (k : ℕ). sets (sets before.out.now before.place bytes) k more) w.place
            ∙ sym (sets_append before.out.now before.place bytes more);
        place = omega (arith, v.place, w.place, length-append bytes more);
      }

  -- what has room after the text
  pub room_after : {more : List ℕ} → Room before (bytes ++ more) → Room after more
  room_after {more} room = record { fits = omega (arith, room.fits, w.place, length_wrote, length-append bytes more) }

-- what has room with more after it has room
pub room_before : {text : Text} {bytes : List ℕ} (more : List ℕ) → Room text (bytes ++ more) → Room text bytes
room_before {bytes = bytes} more room = record { fits = omega (arith, room.fits, length-append bytes more) }

-- the empty text
pub wrote_none : {text : Text} → Wrote text [] text
wrote_none = record { same = refl; stored = refl; place = omega arith }
