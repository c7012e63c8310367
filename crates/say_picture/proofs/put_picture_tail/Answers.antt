-- `say_picture::put_picture_tail` meets its contract: before a row, the rows above it are put. Assumes nothing.
use Prim.Native.Nat.{◌+◌, ◌*◌}
use native.Mathlib.Omega.{arith}
use Rattle.faults.specs.Faults.{in_turn}
use Rattle.faults.proofs.InTurn.{turn_more}
use Rattle.phrases.proofs.Put.{put_both, put-wide, put-none}
use Rattle.say_picture.proofs.Sizes.{tall-least, tall-most}
use Rattle.say_picture.proofs.put_picture_tail.Goals as goal

pub overflow_mul-y : goal.overflow_mul-y
overflow_mul-y c = omega (arith, c.tall-height.ensures, tall-most c.args.site c.requires.0)

pub overflow_sub-y : goal.overflow_sub-y
overflow_sub-y c = omega (arith, c.tall-height.ensures, tall-least c.args.site)

pub loop-k-init : goal.loop-k-init
unfolding in_turn
loop-k-init c = put-none _ _ _

pub overflow_add-y : goal.overflow_add-y
overflow_add-y c = omega (arith, c.tall-height.ensures, tall-most c.args.site c.requires.0)

pub loop-k-preserved : goal.loop-k-preserved
loop-k-preserved c = rw (turn_more _ c.loop-k.k)
    (put-wide (1000 * (c.loop-k.k + 1)) (omega arith) (put_both _ _ c.loop-k.invariant c.put_tail_row-next.ensures))
