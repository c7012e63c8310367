-- `say_csv::put_cells` meets its contract: before cell j, the cells below it are put. Assumes nothing.
use Rattle.std.specs.Prelude.{◌*◌}
use Rattle.phrases.specs.Put.{Put}
use Rattle.say_csv.specs.Fields.{cells_field}
use Rattle.say_csv.proofs.put_cells.Given as goal

abbrev pub invariant-loop-j : goal.invariant-loop-j
invariant-loop-j l = Put l.initial.out l.at (cells_field l.set l.j) (400 * l.j) l.out l.next
