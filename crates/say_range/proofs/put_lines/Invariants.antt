-- `say_range::put_lines` meets its contract: before a cell, the lines to the cells below it are put. Assumes nothing.
use Prim.Native.Nat.{◌*◌}
use Rattle.phrases.specs.Put.{Put}
use Rattle.drawing.specs.Range.{lines_of}
use Rattle.say_range.proofs.put_lines.Given as goal

abbrev pub invariant-loop-b : goal.invariant-loop-b
invariant-loop-b l = Put l.initial.out l.at (lines_of l.site l.a l.b) (500 * l.b) l.out l.next
