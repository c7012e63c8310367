-- `say_faults::shown_count` meets its contract: the count of the row is held to the load. Assumes nothing.
use native.Mathlib.Omega.{arith}
use Rattle.theory.specs.Verdict.{wrong_in}
use Rattle.say_faults.proofs.Ready.{ready-sizes, ready-few, ready-row}
use Rattle.say_faults.proofs.shown_count.Goals as goal

pub overflow_mul-n : goal.overflow_mul-n
overflow_mul-n c = omega (arith, ready-few c.args.site c.args.table.now c.requires.0)

pub bounds-loads-i : goal.bounds-loads-i
bounds-loads-i c = omega (arith, c.requires.1, (ready-sizes c.args.site c.args.table.now c.requires.0).cells_most)

pub cell_count-requires : goal.cell_count-requires
cell_count-requires c = (ready-few c.args.site c.args.table.now c.requires.0, ready-row c.args.site c.args.table.now c.requires.0 c.args.i c.requires.1)

pub returns : goal.returns
unfolding wrong_in
returns c = rw c.cell_count.ensures
