-- `listing::row_line` meets its contract: the part of the table that it lends is the cell's row. Assumes nothing.
use Prim.Native.Nat.{◌*◌}
use Rattle.laws.proofs.Part.{lent}
use Rattle.listing.proofs.row_line.Goals as goal

pub returns : goal.returns
returns c = let a = c.args in
    rw (lent (a.i * a.width) a.width a.table.now) at c.put_cell_line.ensures
