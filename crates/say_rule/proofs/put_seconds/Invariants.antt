-- `say_rule::put_seconds` meets its contract: before second cell b, the lines of the cells below it are put. Assumes nothing.
use Prim.Native.Nat.{◌*◌}
use Rattle.phrases.specs.Put.{Put}
use Rattle.say_rule.specs.Said.{seconds_said}
use Rattle.say_rule.proofs.put_seconds.Given as goal

abbrev pub invariant-loop-b : goal.invariant-loop-b
invariant-loop-b l = Put l.initial.out l.at (seconds_said l.reach l.a l.b) (700 * l.b) l.out l.next
