-- `places::put_cells` meets its contract: before cell i, the cells below it are put. Assumes nothing.
use Rattle.std.specs.Prelude.{◌*◌}
use Rattle.faults.specs.Faults.{in_turn}
use Rattle.phrases.specs.Put.{Put}
use Rattle.places.specs.Places.{cell_said}
use Rattle.places.proofs.put_cells.Given as goal

abbrev pub invariant-loop-i : goal.invariant-loop-i
invariant-loop-i l = Put l.initial.out l.at (in_turn (cell_said l.word) l.i) (3 * l.i) l.out l.next
