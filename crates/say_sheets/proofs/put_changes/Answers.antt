-- `say_sheets::put_changes` meets its contract: before a kind, the lines of the kinds before it are put. Assumes nothing.
use Prim.Native.Nat.{◌+◌, ◌*◌}
use native.Mathlib.Omega.{arith}
use Rattle.phrases.proofs.Put.{put_both, put-wide, put-none}
use Rattle.say_sheets.specs.Said.{tidy_changes_said}
use Rattle.say_sheets.proofs.Said.{change-more}
use Rattle.say_sheets.proofs.put_changes.Goals as goal

pub loop-done-init : goal.loop-done-init
unfolding tidy_changes_said
loop-done-init c = put-none _ _ _

pub loop-done-preserved : goal.loop-done-preserved
loop-done-preserved c = let a = c.args in
    let k = c.loop-done.done in
    let e = rw c.changes_made.ensures at c.put_named-next.ensures in
    let both = put_both (tidy_changes_said a.sheet.now k) _ c.loop-done.invariant e in
    rw (change-more a.sheet.now k) (put-wide (1000 * (k + 1)) (omega arith) both)
