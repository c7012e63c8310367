-- `places::put_cells` meets its contract: before cell i, the cells below it are put. Assumes nothing.
use Prim.Native.Nat.{◌+◌, ◌*◌, ◌<◌}
use native.Mathlib.Omega.{arith}
use Rattle.faults.specs.Faults.{in_turn}
use Rattle.faults.proofs.InTurn.{turn_more}
use Rattle.phrases.proofs.Put.{put_both, put-wide, put-none}
use Rattle.places.specs.Places.{cell_said}
use Rattle.places.proofs.Long.{cell-put}
use Rattle.places.proofs.put_cells.Goals as goal

pub loop-i-init : goal.loop-i-init
unfolding in_turn
loop-i-init c = put-none _ _ _

pub loop-i-preserved : goal.loop-i-preserved
loop-i-preserved c = let word = c.args.word in
    let i = c.loop-i.i in
    let below : i < 32 = omega arith in
    let e = cell-put word i below (rw c.cell_phrase.ensures at c.put-next.ensures) in
    rw (turn_more (cell_said word) i) (put-wide (3 * (i + 1)) (omega arith) (put_both (in_turn (cell_said word) i) _ c.loop-i.invariant e))
