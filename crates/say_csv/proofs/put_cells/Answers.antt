-- `say_csv::put_cells` meets its contract: before cell j, the cells below it are put. Assumes nothing.
use Prim.Native.Nat.{◌+◌, ◌*◌}
use native.Mathlib.Omega.{arith}
use Rattle.phrases.proofs.Put.{put_both, put-wide, put-none}
use Rattle.say_csv.specs.Fields.{cells_field}
use Rattle.say_csv.proofs.Cells.{cells-more}
use Rattle.say_csv.proofs.put_cells.Goals as goal

pub loop-j-init : goal.loop-j-init
unfolding cells_field
loop-j-init c = put-none _ _ _

pub loop-j-preserved : goal.loop-j-preserved
loop-j-preserved c = let j = c.loop-j.j in
    let e = rw c.cell_field.ensures at c.put-next.ensures in
    rw (cells-more _ j) (put-wide (400 * (j + 1)) (omega arith) (put_both _ _ c.loop-j.invariant e))
