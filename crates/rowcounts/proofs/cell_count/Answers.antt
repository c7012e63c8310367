-- `rowcounts::cell_count` meets its contract: what is lent is cell i's part of the table. Assumes nothing.
use native.Mathlib.Omega.{arith}
use lib.ListN.{length-take}
use Rattle.rowcounts.proofs.Rows.{row-counted}
use Rattle.rowcounts.proofs.cell_count.Goals as goal

pub count_row-requires : goal.count_row-requires
count_row-requires c = rw length-take (omega arith)

pub returns : goal.returns
returns c = let a = c.args in
    row-counted a.n a.i a.table.now (omega arith) c.count_row.ensures
