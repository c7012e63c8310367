-- `say_find::put_later` meets its contract: before cell j, the cells below it are put, and the row of a cell is short. Assumes nothing.
use Prim.Native.Nat.{◌+◌, ◌*◌}
use native.Mathlib.Omega.{arith}
use Rattle.phrases.proofs.Put.{put_both, put-wide, put-none}
use Rattle.finds.specs.Last.{later_said}
use Rattle.finds.proofs.Said.{later_more, later-room}
use Rattle.say_find.proofs.put_later.Goals as goal

pub loop-j-init : goal.loop-j-init
unfolding later_said
loop-j-init c = put-none _ _ _

pub put_part-next-requires : goal.put_part-next-requires
put_part-next-requires c = let i = c.loop-j.invariant in
    rw c.later_phrase.ensures (omega (arith, later-room c.args.set c.loop-j.j, i.follows, i.short, c.requires))

pub loop-j-preserved : goal.loop-j-preserved
loop-j-preserved c = let j = c.loop-j.j in
    rw (later_more _ j) (put-wide (40 * (j + 1)) (omega (arith, later-room c.args.set j))
    (put_both _ _ c.loop-j.invariant (rw c.later_phrase.ensures at c.put_part-next.ensures)))
