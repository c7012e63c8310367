-- `say_numbering::put_numbers` meets its contract: before cell i, the lines of the cells below it are put. Assumes nothing.
use Prim.Native.Nat.{◌+◌, ◌*◌}
use native.Mathlib.Omega.{arith}
use Rattle.phrases.proofs.Put.{put_both, put-wide, put-none}
use Rattle.say_numbering.specs.Said.{numbers_said}
use Rattle.say_numbering.proofs.Said.{number_more}
use Rattle.say_numbering.proofs.put_numbers.Goals as goal

pub loop-i-init : goal.loop-i-init
unfolding numbers_said
loop-i-init c = put-none _ _ _

pub loop-i-preserved : goal.loop-i-preserved
loop-i-preserved c = let a = c.args in
    let i = c.loop-i.i in
    let so_far = numbers_said a.new i in
    let e = rw c.number_phrase.ensures at c.put-next.ensures in
    rw (number_more a.new i) (put-wide (300 * (i + 1)) (omega arith) (put_both so_far _ c.loop-i.invariant e))
