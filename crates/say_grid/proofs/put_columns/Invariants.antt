-- `say_grid::put_columns` meets its contract: before column j, the columns before it are put. Assumes nothing.
use Prim.Native.Nat.{◌*◌}
use Rattle.phrases.specs.Put.{Put}
use Rattle.say_grid.specs.Grid.{columns_said}
use Rattle.say_grid.proofs.put_columns.Given as goal

abbrev pub invariant-loop-j : goal.invariant-loop-j
invariant-loop-j l = Put l.initial.out l.at (columns_said l.site l.table l.line l.from l.j) (314 * l.j) l.out l.next
