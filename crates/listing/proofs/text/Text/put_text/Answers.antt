-- `put_text` meets its contract: the bytes are copied to the place.
use Rattle.std.proofs.Common.{refl}
use Rattle.listing.proofs.text.Writing.{copied}
use Rattle.listing.proofs.text.Text.put_text.Goals as goal

pub returns : goal.returns
returns c = record { same = refl; stored = copied _ _ _ _ c.copy_from_slice.ensures.after c.requires.fits; place = refl }
