-- `fill_form` meets its contract: the regions are numbered, the front is written, and then the region words.
use native.Mathlib.Omega.{arith}
use Rattle.sheet.proofs.Bounds.{regions_inside}
use Rattle.judgement.proofs.Accepted.{front_there}
use Rattle.canonical.proofs.form.Form.{roomy, writable, form_written}
use Rattle.canonical.proofs.form.fill_form.Goals as goal

pub number_regions-requires : goal.number_regions-requires
number_regions-requires c = roomy c.args.o.now.outlined c.requires

pub write_words-requires : goal.write_words-requires
write_words-requires c =
    let inside = regions_inside _ (front_there _ c.args.o.now.outlined.accepted) in
    rw c.bytes.ensures.bytes (omega (arith, inside, c.after-e.ensures), omega (arith, inside, c.after-e.ensures, c.requires.out_room))

pub write_regions-requires : goal.write_regions-requires
write_regions-requires c =
    let put = rw c.bytes.ensures.bytes at c.write_words.ensures in
    (_, writable c.args.o.now.outlined _ c.requires.out_room c.after-e.ensures c.number_regions.ensures _ put c.region_words.ensures)

pub returns : goal.returns
returns c =
    let put = rw c.bytes.ensures.bytes at c.write_words.ensures in
    let asked = writable c.args.o.now.outlined _ c.requires.out_room c.after-e.ensures c.number_regions.ensures _ put c.region_words.ensures in
    form_written c.args.o.now.outlined _ c.requires.out_room c.after-e.ensures put (c.write_regions.ensures _ asked)
