-- `say_runs::put_runs` meets its contract: before a slot, the runs that start below it are put. Assumes nothing.
use Prim.Native.Nat.{◌+◌, ◌*◌}
use native.Mathlib.Omega.{arith}
use Rattle.faults.specs.Faults.{in_turn}
use Rattle.faults.proofs.InTurn.{turn_more}
use Rattle.phrases.proofs.Put.{put_both, put-wide, put-none}
use Rattle.say_runs.specs.Said.{run_said}
use Rattle.say_runs.proofs.put_runs.Goals as goal

pub loop-slot-init : goal.loop-slot-init
unfolding in_turn
loop-slot-init c = put-none _ _ _

pub loop-slot-preserved : goal.loop-slot-preserved
loop-slot-preserved c = let a = c.args in
    let said = run_said a.channels a.row.now in
    let slot = c.loop-slot.slot in
    rw (turn_more said slot) (put-wide (356 * (slot + 1)) (omega arith)
    (put_both (in_turn said slot) _ c.loop-slot.invariant c.put_run-next.ensures))
