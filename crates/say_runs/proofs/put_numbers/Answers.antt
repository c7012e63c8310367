-- `say_runs::put_numbers` meets its contract: before place i, the runs that start below it are put. Assumes nothing.
use Prim.Native.Nat.{◌+◌, ◌*◌}
use native.Mathlib.Omega.{arith}
use Rattle.faults.specs.Faults.{in_turn}
use Rattle.faults.proofs.InTurn.{turn_more}
use Rattle.phrases.proofs.Put.{put_both, put-wide, put-none}
use Rattle.say_runs.specs.Said.{number_said}
use Rattle.say_runs.proofs.Steps.{number_put}
use Rattle.say_runs.proofs.put_numbers.Goals as goal

pub loop-i-init : goal.loop-i-init
unfolding in_turn
loop-i-init c = put-none _ _ _

pub loop-i-preserved : goal.loop-i-preserved
loop-i-preserved c = let row = c.args.row.now in
    let i = c.loop-i.i in
    let e = number_put row i c.requires.0 c.loop-i-test.true (rw c.run_phrase.ensures at c.put-next.ensures) in
    rw (turn_more (number_said row) i) (put-wide (6 * (i + 1)) (omega arith) (put_both (in_turn (number_said row) i) _ c.loop-i.invariant e))
