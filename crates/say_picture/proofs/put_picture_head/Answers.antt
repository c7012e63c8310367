-- `say_picture::put_picture_head` meets its contract: before a row, the rows above it are put. Assumes nothing.
use Prim.Native.Nat.{◌+◌, ◌*◌, ◌≤◌}
use native.Mathlib.Nat.{mul-le-mul}
use native.Mathlib.Omega.{arith}
use Rattle.faults.specs.Faults.{in_turn}
use Rattle.faults.proofs.InTurn.{turn_more}
use Rattle.phrases.proofs.Put.{put_both, put-wide, put-none}
use Rattle.drawing.proofs.Places.{wide-most}
use Rattle.drawing.proofs.Reach.{step-most}
use Rattle.say_picture.proofs.Sizes.{every-most}
use Rattle.say_picture.proofs.put_picture_head.Goals as goal

pub overflow_mul-grid : goal.overflow_mul-grid
overflow_mul-grid c = let few : c.every_slot.result ≤ 8 = omega (arith, c.every_slot.ensures, every-most c.args.site) in
    let wide : c.slot_wide.result ≤ 416 = omega (arith, c.slot_wide.ensures, wide-most c.args.site) in
    omega (arith, mul-le-mul few wide)

pub overflow_mul-long : goal.overflow_mul-long
overflow_mul-long c = let few : c.cell_step.result ≤ 860 = omega (arith, c.cell_step.ensures, step-most c.args.site) in
    omega (arith, mul-le-mul c.requires.0.cells_most few)

pub loop-k-init : goal.loop-k-init
unfolding in_turn
loop-k-init c = put-none _ _ _

pub loop-k-preserved : goal.loop-k-preserved
loop-k-preserved c = rw (turn_more _ c.loop-k.k)
    (put-wide (1000 * (c.loop-k.k + 1)) (omega arith) (put_both _ _ c.loop-k.invariant c.put_head_row-next.ensures))
