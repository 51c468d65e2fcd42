-- `put_cell` meets its contract: the form of a cell that the test chose.
use Rattle.std.proofs.Common.{rules}
use Rattle.listing.proofs.cells.Cells.{cell_none, cell_number}
use Rattle.listing.proofs.cells.put_cell.Goals as goal

pub put_byte-requires : goal.put_byte-requires
put_byte-requires c = rw (cell_none _ c.if-payload-eq-NONE.true) at c.requires

pub returns-then-payload-eq-NONE : goal.returns-then-payload-eq-NONE
returns-then-payload-eq-NONE c = search (rules, cell_none)

pub put_number-requires : goal.put_number-requires
put_number-requires c = rw c.from.ensures (rw (cell_number _ c.if-payload-eq-NONE.false) at c.requires)

pub returns-else-payload-eq-NONE : goal.returns-else-payload-eq-NONE
returns-else-payload-eq-NONE c = rw (cell_number _ c.if-payload-eq-NONE.false) (rw c.from.ensures at c.put_number.ensures)
