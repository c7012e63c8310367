-- `numberrows::copy_row` meets its contract: the part that is handed back is the other table's row. Assumes nothing.
use Prim.Native.Nat.{◌*◌}
use Rattle.numberrows.proofs.Rows.{row-same}
use Rattle.numberrows.proofs.copy_row.Goals as goal

pub returns : goal.returns
returns c =
    let args = c.args in
    row-same (args.a * args.width) (args.b * args.width) args.width args.from.now args.to.now c.copy_from_slice.new.self
    c.copy_from_slice.ensures.after
