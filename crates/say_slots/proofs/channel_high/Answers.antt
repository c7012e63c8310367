-- `say_slots::channel_high` meets its contract: it is a minimum, as it is said. Assumes nothing.
use native.Mathlib.Omega.{arith}
use Rattle.drawing.specs.Places.{channel_high}
use Rattle.drawing.proofs.Places.{rows-some, rows-most}
use Rattle.say_slots.proofs.channel_high.Goals as goal

pub overflow_mul-rows : goal.overflow_mul-rows
overflow_mul-rows c = omega (arith, rows-most c.args.site c.requires)

pub nonzero_div-rows : goal.nonzero_div-rows
nonzero_div-rows c = omega (arith, rows-some c.args.site c.requires)

pub returns : goal.returns
unfolding channel_high
returns c = omega (arith, c.min.ensures)
