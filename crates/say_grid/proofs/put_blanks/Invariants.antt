-- `say_grid::put_blanks` meets its contract: before a blank, those before it are put. Assumes nothing.
use Rattle.phrases.specs.Put.{Put}
use Rattle.say_grid.specs.Grid.{blanks}
use Rattle.say_grid.proofs.put_blanks.Given as goal

abbrev pub invariant-loop : goal.invariant-loop
invariant-loop l = Put l.initial.out l.at (blanks l.counter) l.counter l.out l.next
