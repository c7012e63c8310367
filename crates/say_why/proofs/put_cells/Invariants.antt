-- `say_why::put_cells` meets its contract: before cell j, the lines of the cells below it are put. Assumes nothing.
use Prim.Native.Nat.{◌*◌}
use Rattle.phrases.specs.Put.{Put}
use Rattle.why.specs.Said.{cell_phrases, texts}
use Rattle.say_why.proofs.put_cells.Given as goal

abbrev pub invariant-loop-j : goal.invariant-loop-j
invariant-loop-j l = Put l.initial.out l.at (texts (cell_phrases l.loads l.set l.j)) (200 * l.j) l.out l.next
