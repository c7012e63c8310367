-- `say_runs::put_numbers` meets its contract: before place i, the runs that start below it are put. Assumes nothing.
use Prim.Native.Nat.{◌*◌}
use Rattle.faults.specs.Faults.{in_turn}
use Rattle.phrases.specs.Put.{Put}
use Rattle.say_runs.specs.Said.{number_said}
use Rattle.say_runs.proofs.put_numbers.Given as goal

abbrev pub invariant-loop-i : goal.invariant-loop-i
invariant-loop-i l = Put l.initial.out l.at (in_turn (number_said l.row) l.i) (6 * l.i) l.out l.next
