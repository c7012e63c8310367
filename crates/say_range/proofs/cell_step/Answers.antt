-- `say_range::cell_step` meets its contract: it is a minimum, as it is said. Assumes nothing.
use native.Mathlib.Omega.{arith}
use Rattle.drawing.specs.Range.{cell_step}
use Rattle.say_range.proofs.cell_step.Goals as goal

pub returns : goal.returns
unfolding cell_step
returns c = omega (arith, c.min.ensures)
