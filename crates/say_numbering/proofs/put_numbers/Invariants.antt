-- `say_numbering::put_numbers` meets its contract: before cell i, the lines of the cells below it are put. Assumes nothing.
use Prim.Native.Nat.{◌*◌}
use Rattle.phrases.specs.Put.{Put}
use Rattle.say_numbering.specs.Said.{numbers_said}
use Rattle.say_numbering.proofs.put_numbers.Given as goal

abbrev pub invariant-loop-i : goal.invariant-loop-i
invariant-loop-i l = Put l.initial.out l.at (numbers_said l.number-items l.i) (300 * l.i) l.out l.next
