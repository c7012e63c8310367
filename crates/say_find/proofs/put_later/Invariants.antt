-- `say_find::put_later` meets its contract: before cell j, the cells below it are put. Assumes nothing.
use Rattle.std.specs.Prelude.{◌*◌}
use Rattle.phrases.specs.Put.{Put}
use Rattle.finds.specs.Last.{later_said}
use Rattle.say_find.proofs.put_later.Given as goal

abbrev pub invariant-loop-j : goal.invariant-loop-j
invariant-loop-j l = Put l.initial.out l.at (later_said l.set l.j) (40 * l.j) l.out l.next
