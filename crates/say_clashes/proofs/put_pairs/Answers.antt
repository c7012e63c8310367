-- `say_clashes::put_pairs` meets its contract: before second cell b, the lines of the cells below it are put. Assumes nothing.
use Prim.Native.Nat.{◌+◌, ◌*◌}
use native.Mathlib.Omega.{arith}
use Rattle.phrases.proofs.Put.{put_both, put-wide, put-none}
use Rattle.say_clashes.specs.Said.{pairs_said}
use Rattle.say_clashes.proofs.Said.{pair-more}
use Rattle.say_clashes.proofs.put_pairs.Goals as goal

pub loop-b-init : goal.loop-b-init
unfolding pairs_said
loop-b-init c = put-none _ _ _

pub loop-b-preserved : goal.loop-b-preserved
loop-b-preserved c = let a = c.args in
    let b = c.loop-b.b in
    let so_far = pairs_said a.rule a.reach a.a b in
    let e = rw c.clash_phrase.ensures at c.put-next.ensures in
    rw (pair-more a.rule a.reach a.a b) (put-wide (700 * (b + 1)) (omega arith) (put_both so_far _ c.loop-b.invariant e))
