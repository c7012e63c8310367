-- `say_rule::put_seconds` meets its contract: before second cell b, the lines of the cells below it are put. Assumes nothing.
use Prim.Native.Nat.{◌+◌, ◌*◌}
use native.Mathlib.Omega.{arith}
use Rattle.phrases.proofs.Put.{put_both, put-wide, put-none}
use Rattle.say_rule.specs.Said.{seconds_said}
use Rattle.say_rule.proofs.Said.{second_more}
use Rattle.say_rule.proofs.put_seconds.Goals as goal

pub loop-b-init : goal.loop-b-init
unfolding seconds_said
loop-b-init c = put-none _ _ _

pub loop-b-preserved : goal.loop-b-preserved
loop-b-preserved c = let a = c.args in
    let b = c.loop-b.b in
    let so_far = seconds_said a.reach a.a b in
    let e = rw c.third_phrase.ensures at c.put-next.ensures in
    rw (second_more a.reach a.a b) (put-wide (700 * (b + 1)) (omega arith) (put_both so_far _ c.loop-b.invariant e))
