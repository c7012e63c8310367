-- `say_faults::put_piece` meets its contract: before cell i, the lines of the cells below it are put. Assumes nothing.
use Rattle.std.specs.Prelude.{◌*◌}
use Rattle.phrases.specs.Put.{Put}
use Rattle.say_faults.specs.Said.{piece_said}
use Rattle.say_faults.proofs.put_piece.Given as goal

abbrev pub invariant-loop-i : goal.invariant-loop-i
invariant-loop-i l = Put l.initial.out l.at (piece_said l.site l.table l.piece l.i) (2000 * l.i) l.out l.next
