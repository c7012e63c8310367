-- `say_runs::put_runs` meets its contract: before a slot, the runs that start below it are put. Assumes nothing.
use Prim.Native.Nat.{◌*◌}
use Rattle.faults.specs.Faults.{in_turn}
use Rattle.phrases.specs.Put.{Put}
use Rattle.say_runs.specs.Said.{run_said}
use Rattle.say_runs.proofs.put_runs.Given as goal

abbrev pub invariant-loop-slot : goal.invariant-loop-slot
invariant-loop-slot l = Put l.initial.out l.at (in_turn (run_said l.channels l.row) l.slot) (356 * l.slot) l.out l.next
