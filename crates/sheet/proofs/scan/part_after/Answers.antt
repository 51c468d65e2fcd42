-- `part_after` meets its contract: a part to the end of the sheet.
use Prim.Native.Nat.{◌*◌}
use Rattle.sheet.proofs.Bounds.{to_end}
use Rattle.sheet.proofs.scan.part_after.Goals as goal

pub returns : goal.returns
returns c = to_end c.args.s.now (4 * c.args.c.place)
