-- `say_clashes::put_pairs` meets its contract: before second cell b, the lines of the cells below it are put. Assumes nothing.
use Rattle.std.specs.Prelude.{◌*◌}
use Rattle.phrases.specs.Put.{Put}
use Rattle.say_clashes.specs.Said.{pairs_said}
use Rattle.say_clashes.proofs.put_pairs.Given as goal

abbrev pub invariant-loop-b : goal.invariant-loop-b
invariant-loop-b l = Put l.initial.out l.at (pairs_said l.rule l.reach l.a l.b) (700 * l.b) l.out l.next
