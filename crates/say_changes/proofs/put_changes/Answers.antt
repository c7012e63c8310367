-- `say_changes::put_changes` meets its contract: before channel f, the text of the channels below it is put. Assumes nothing.
use Prim.Native.Nat.{◌+◌, ◌*◌}
use native.Mathlib.Omega.{arith}
use Rattle.phrases.proofs.Put.{put_both, put-wide, put-none}
use Rattle.say_changes.specs.Said.{slot_said}
use Rattle.say_changes.proofs.Said.{slot-more}
use Rattle.say_changes.proofs.put_changes.Goals as goal

pub loop-f-init : goal.loop-f-init
unfolding slot_said
loop-f-init c = put-none _ _ _

pub loop-f-preserved : goal.loop-f-preserved
loop-f-preserved c = let a = c.args in
    let f = c.loop-f.f in
    let below = slot_said a.old.now a.new.now a.from a.cell a.slot f in
    let e = rw c.channel_phrase.ensures at c.put-next.ensures in
    let more = slot-more a.old.now a.new.now a.from a.cell a.slot f in
    rw more (put-wide (400 * (f + 1)) (omega arith) (put_both below _ c.loop-f.invariant e))
