-- `region_words` meets its contract: the rest of the sheet, from the place where the sections end.
use Rattle.std.proofs.Common.{arith}
use Rattle.sheet.specs.Sections.{region_words}
use Rattle.sheet.proofs.Bounds.{regions_inside}
use Rattle.sheet_reader.proofs.region_words.Goals as goal

pub rest-requires : goal.rest-requires
rest-requires c = rw (c.at.ensures, c.bytes.ensures.bytes) (omega (arith, regions_inside c.args.s.now c.bytes.ensures.front, c.after.ensures))

pub returns : goal.returns
unfolding region_words
returns c = rw (c.rest.ensures, c.at.ensures, c.bytes.ensures.bytes, c.after.ensures)
